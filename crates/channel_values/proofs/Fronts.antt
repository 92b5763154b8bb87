-- A front of bytes is read as the bytes themselves are, or its fault is that it ends.
use Rattle.std.proofs.Common.{◌≡◌, ℕ, zero, suc, ◌+◌, ◌-◌, ◌^◌, ◌<◌, ◌&&◌, not, Bool, true, false, cond, ltb, leb, eqb, List, [], ◌∷◌, ◌++◌, length, take, drop, Result, Ok, Err, refl, sym, ap, subst, ◌∙◌, arith, inl, inr, ◌⊎◌}
use Rattle.std.specs.List.{list_any}
use Rattle.std.specs.Str.{bytes_eq}
use Rattle.std.specs.Int.{Width, w16, w32, w64, byte_len, from_be_bytes}
use Rattle.std.proofs.lemmas.Bool.{le-ltb, lt-ltb, cases_lt}
use Rattle.std.proofs.lemmas.List.{append-nil, take-append-drop, take-append-le, drop-append-le, length-take-le, length-drop, length-append}
use Rattle.channel_values.specs.declared.fault.ByteFault.{ByteFault}
use Rattle.channel_values.specs.declared.fault.ByteFault.TheVariants as faults
use Rattle.channel_values.specs.declared.value.Dest.{Dest}
use Rattle.channel_values.specs.declared.value.Dest.TheVariants.{Person, Channel}
use Rattle.channel_values.specs.declared.value.Item.{Item}
use Rattle.channel_values.specs.declared.value.AssetOutcome.{AssetOutcome}
use Rattle.channel_values.specs.declared.chain.Mark.{Mark}
use Rattle.channel_values.specs.Outcomes.{is_same, total}
use Rattle.channel_values.specs.Reading.{◌>>=◌, fault_if, byte_at, number_at, front_at, tagged, dest_at, many_at, item_at, listed_at, count_at, allocation_at, guarantee_at, shape_at, asset_at, outcome_at, turn_at, flag_at, sized_at, state_at, people_at, key_at, app_at, duration_at, fixed_at, signed_at, mark_at, next_state_at, states_at, marks_at, chain_at, all_of}
use Rattle.channel_values.proofs.Format.{IsFormat}

-- What is read from some bytes says what is read where more stands after them: the same value, with more in its rest; a
-- fault is that the bytes end, or there is one in both.
abbrev pub GoesOn : {A : Type 0} → ℕ → List ℕ → Result (A × List ℕ) ByteFault → Result (A × List ℕ) ByteFault → Type 0
GoesOn whole more (Ok x) all = all ≡ Ok (x.0, x.1 ++ more)
GoesOn whole more (Err f) all = (f ≡ faults.Cut whole) ⊎ ((g : ByteFault) × (all ≡ Err g))

abbrev pub IsSteady : {A : Type 0} → (ℕ → List ℕ → Result (A × List ℕ) ByteFault) → Type 0
IsSteady at = (whole : ℕ) (more bytes : List ℕ) → GoesOn whole more (at whole bytes) (at whole (bytes ++ more))

pub then_on : {A B : Type 0} (whole : ℕ) (more : List ℕ) (r s : Result (A × List ℕ) ByteFault) (f g : A × List ℕ → Result (B × List ℕ) ByteFault)
    → GoesOn whole more r s → ((x : A × List ℕ) → GoesOn whole more (f x) (g (x.0, x.1 ++ more))) → GoesOn whole more (r >>= f) (s >>= g)
then_on whole more (Ok x) s f g e on = subst (λ (z : Result _ ByteFault). GoesOn whole more (f x) (z >>= g)) (sym e) (on x)
then_on whole more (Err d) s f g (inl e) on = inl e
then_on whole more (Err d) s f g (inr p) on = inr (p.0, ap (λ (z : Result _ ByteFault). z >>= g) p.1)

test_on : {B : Type 0} (whole : ℕ) (more : List ℕ) (b : Bool) (d e : ByteFault) (f g : ℕ → Result (B × List ℕ) ByteFault)
    → GoesOn whole more (f 0) (g 0) → GoesOn whole more (fault_if b d >>= f) (fault_if b e >>= g)
test_on whole more true d e f g on = inr (e, refl)
test_on whole more false d e f g on = on

pub if_on : {B : Type 0} (whole : ℕ) (more : List ℕ) (b : Bool) (r s t u : Result (B × List ℕ) ByteFault)
    → GoesOn whole more r s → GoesOn whole more t u → GoesOn whole more (cond b r t) (cond b s u)
if_on whole more true r s t u on other = on
if_on whole more false r s t u on other = other

pub byte_on : IsSteady byte_at
byte_on whole more [] = inl refl
byte_on whole more (b ∷ rest) = refl

-- a front of some length, and what is made of it
part_on : {A : Type 0} (whole n : ℕ) (make : List ℕ → A) (more bytes : List ℕ)
    → GoesOn whole more (cond (ltb (length bytes) n) (Err (faults.Cut whole)) (Ok (make (take n bytes), drop n bytes))) (cond (ltb (length (bytes ++ more)) n) (Err (faults.Cut whole)) (Ok (make (take n (bytes ++ more)), drop n (bytes ++ more))))
part_on whole n make more bytes =
    elim (cases_lt (length bytes) n) [
      | inl lt ↦
          let short : ltb (length bytes) n ≡ true = lt-ltb _ _ lt in
          rw short (inl refl)
      | inr le ↦
          let long : ltb (length bytes) n ≡ false = le-ltb _ _ le in
          let longer : ltb (length (bytes ++ more)) n ≡ false = le-ltb _ _ (omega (arith, length-append bytes more)) in
          rw (long, longer, take-append-le n bytes more le, drop-append-le n bytes more le) refl
    ]

pub front_on : (n whole : ℕ) (more bytes : List ℕ) → GoesOn whole more (front_at whole n bytes) (front_at whole n (bytes ++ more))
front_on n whole more bytes = part_on whole n (λ front. front) more bytes

pub number_on : (w : Width) (whole : ℕ) (more bytes : List ℕ) → GoesOn whole more (number_at whole w bytes) (number_at whole w (bytes ++ more))
number_on w whole more bytes = part_on whole (byte_len w) (from_be_bytes w) more bytes

-- ---- outcomes

tagged_on : (make : List ℕ → Dest) (whole : ℕ) (more bytes : List ℕ) → GoesOn whole more (tagged whole make bytes) (tagged whole make (bytes ++ more))
tagged_on make whole more bytes = then_on whole more _ _ _ _ (front_on 32 whole more bytes) (λ name. refl)

dest_on : IsSteady dest_at
unfolding dest_at
dest_on whole more bytes =
    then_on whole more _ _ _ _ (byte_on whole more bytes) (λ tag.
    if_on whole more (eqb tag.0 1) _ _ _ _ (tagged_on (λ n. Person n) whole more tag.1)
    (if_on whole more (eqb tag.0 2) _ _ _ _ (tagged_on (λ n. Channel n) whole more tag.1) (inr (faults.BadTag (whole - length (bytes ++ more)), refl))))

many_on : {X : Type 0} (whole : ℕ) (more : List ℕ) (read : List X → List ℕ → Result (X × List ℕ) ByteFault)
    → ((seen : List X) (bytes : List ℕ) → GoesOn whole more (read seen bytes) (read seen (bytes ++ more)))
    → (n : ℕ) (seen : List X) (bytes : List ℕ) → GoesOn whole more (many_at read seen n bytes) (many_at read seen n (bytes ++ more))
unfolding many_at
many_on whole more read on zero seen bytes = refl
many_on whole more read on (suc n) seen bytes =
    then_on whole more _ _ _ _ (on seen bytes) (λ next. many_on whole more read on n (seen ++ next.0 ∷ []) next.1)

item_on : (whole : ℕ) (more : List ℕ) (seen : List Item) (bytes : List ℕ) → GoesOn whole more (item_at whole seen bytes) (item_at whole seen (bytes ++ more))
unfolding item_at
item_on whole more seen bytes =
    then_on whole more _ _ _ _ (dest_on whole more bytes) (λ to.
    test_on whole more (list_any (λ i. is_same i.to to.0) seen) _ _ _ _
    (then_on whole more _ _ _ _ (number_on w64 whole more to.1) (λ amount.
    test_on whole more (leb (2 ^ 64) (total seen + amount.0)) _ _ _ _ refl)))

listed_on : (whole : ℕ) (more : List ℕ) (seen : List Dest) (bytes : List ℕ) → GoesOn whole more (listed_at whole seen bytes) (listed_at whole seen (bytes ++ more))
unfolding listed_at
listed_on whole more seen bytes =
    then_on whole more _ _ _ _ (dest_on whole more bytes) (λ to.
    test_on whole more (list_any (λ d. is_same d to.0) seen) _ _ _ _ refl)

count_on : (limit whole : ℕ) (more bytes : List ℕ) → GoesOn whole more (count_at whole limit bytes) (count_at whole limit (bytes ++ more))
unfolding count_at
count_on limit whole more bytes =
    then_on whole more _ _ _ _ (byte_on whole more bytes) (λ n.
    test_on whole more (ltb limit n.0) _ _ _ _ refl)

allocation_on : IsSteady allocation_at
unfolding allocation_at
allocation_on whole more bytes =
    then_on whole more _ _ _ _ (count_on 16 whole more bytes) (λ n.
    then_on whole more _ _ _ _ (many_on whole more (item_at whole) (item_on whole more) n.0 [] n.1) (λ items. refl))

guarantee_on : IsSteady guarantee_at
unfolding guarantee_at
guarantee_on whole more bytes =
    then_on whole more _ _ _ _ (front_on 32 whole more bytes) (λ target.
    then_on whole more _ _ _ _ (count_on 16 whole more target.1) (λ n.
    then_on whole more _ _ _ _ (many_on whole more (listed_at whole) (listed_on whole more) n.0 [] n.1) (λ dests. refl)))

shape_on : IsSteady shape_at
unfolding shape_at
shape_on whole more bytes =
    then_on whole more _ _ _ _ (byte_on whole more bytes) (λ kind.
    if_on whole more (eqb kind.0 1) _ _ _ _ (allocation_on whole more kind.1)
    (if_on whole more (eqb kind.0 2) _ _ _ _ (guarantee_on whole more kind.1) (inr (faults.BadTag (whole - length (bytes ++ more)), refl))))

asset_on : (whole : ℕ) (more : List ℕ) (seen : List AssetOutcome) (bytes : List ℕ) → GoesOn whole more (asset_at whole seen bytes) (asset_at whole seen (bytes ++ more))
unfolding asset_at
asset_on whole more seen bytes =
    then_on whole more _ _ _ _ (number_on w32 whole more bytes) (λ asset.
    test_on whole more (list_any (λ o. leb asset.0 o.asset) seen) _ _ _ _
    (then_on whole more _ _ _ _ (shape_on whole more asset.1) (λ shape. refl)))

pub outcome_on : IsSteady outcome_at
unfolding outcome_at
outcome_on whole more bytes =
    then_on whole more _ _ _ _ (count_on 4 whole more bytes) (λ n. many_on whole more (asset_at whole) (asset_on whole more) n.0 [] n.1)

-- ---- states

turn_on : IsSteady turn_at
unfolding turn_at
turn_on whole more bytes =
    then_on whole more _ _ _ _ (number_on w64 whole more bytes) (λ turn.
    test_on whole more (leb (2 ^ 48) turn.0) _ _ _ _ refl)

flag_on : IsSteady flag_at
unfolding flag_at
flag_on whole more bytes =
    then_on whole more _ _ _ _ (byte_on whole more bytes) (λ flag.
    if_on whole more (eqb flag.0 0) _ _ _ _ refl
    (if_on whole more (eqb flag.0 1) _ _ _ _ refl (inr (faults.BadTag (whole - length (bytes ++ more)), refl))))

pub sized_on : (limit whole : ℕ) (more bytes : List ℕ) → GoesOn whole more (sized_at whole limit bytes) (sized_at whole limit (bytes ++ more))
unfolding sized_at
sized_on limit whole more bytes =
    then_on whole more _ _ _ _ (number_on w16 whole more bytes) (λ len.
    test_on whole more (ltb limit len.0) _ _ _ _ (front_on len.0 whole more len.1))

pub state_on : IsSteady state_at
unfolding state_at
state_on whole more bytes =
    then_on whole more _ _ _ _ (turn_on whole more bytes) (λ turn.
    then_on whole more _ _ _ _ (flag_on whole more turn.1) (λ is_final.
    then_on whole more _ _ _ _ (outcome_on whole more is_final.1) (λ outcome.
    then_on whole more _ _ _ _ (sized_on 4096 whole more outcome.1) (λ app_bytes. refl))))

-- ---- fixed parts

people_on : IsSteady people_at
unfolding people_at
people_on whole more bytes =
    then_on whole more _ _ _ _ (byte_on whole more bytes) (λ n.
    test_on whole more (ltb n.0 2) _ _ _ _
    (test_on whole more (ltb 4 n.0) _ _ _ _ refl))

key_on : (whole : ℕ) (more : List ℕ) (seen : List (List ℕ)) (bytes : List ℕ) → GoesOn whole more (key_at whole seen bytes) (key_at whole seen (bytes ++ more))
unfolding key_at
key_on whole more seen bytes =
    then_on whole more _ _ _ _ (front_on 56 whole more bytes) (λ key.
    test_on whole more (list_any (λ k. bytes_eq k key.0) seen) _ _ _ _ refl)

app_on : (n whole : ℕ) (more bytes : List ℕ) → GoesOn whole more (app_at whole n bytes) (app_at whole n (bytes ++ more))
unfolding app_at
app_on n whole more bytes =
    then_on whole more _ _ _ _ (byte_on whole more bytes) (λ app.
    test_on whole more (ltb 2 app.0) _ _ _ _
    (test_on whole more (eqb app.0 1 && not (eqb n 2)) _ _ _ _ refl))

duration_on : IsSteady duration_at
unfolding duration_at
duration_on whole more bytes =
    then_on whole more _ _ _ _ (number_on w32 whole more bytes) (λ duration.
    test_on whole more (eqb duration.0 0) _ _ _ _ refl)

pub fixed_on : IsSteady fixed_at
unfolding fixed_at
fixed_on whole more bytes =
    then_on whole more _ _ _ _ (people_on whole more bytes) (λ n.
    then_on whole more _ _ _ _ (many_on whole more (key_at whole) (key_on whole more) n.0 [] n.1) (λ keys.
    then_on whole more _ _ _ _ (number_on w64 whole more keys.1) (λ nonce.
    then_on whole more _ _ _ _ (app_on n.0 whole more nonce.1) (λ app.
    then_on whole more _ _ _ _ (duration_on whole more app.1) (λ duration. refl)))))

-- ---- signed states and chains

pub signed_on : IsSteady signed_at
unfolding signed_at
signed_on whole more bytes =
    then_on whole more _ _ _ _ (state_on whole more bytes) (λ state.
    then_on whole more _ _ _ _ (sized_on 9004 whole more state.1) (λ signature. refl))

mark_on : (whole : ℕ) (more : List ℕ) (seen : List Mark) (bytes : List ℕ) → GoesOn whole more (mark_at whole seen bytes) (mark_at whole seen (bytes ++ more))
unfolding mark_at
mark_on whole more seen bytes =
    then_on whole more _ _ _ _ (byte_on whole more bytes) (λ place.
    then_on whole more _ _ _ _ (sized_on 9004 whole more place.1) (λ signature. refl))

states_on : IsSteady states_at
unfolding states_at
states_on whole more bytes =
    then_on whole more _ _ _ _ (count_on 4 whole more bytes) (λ n.
    many_on whole more (next_state_at whole) (λ seen. state_on whole more) n.0 [] n.1)

marks_on : IsSteady marks_at
unfolding marks_at
marks_on whole more bytes =
    then_on whole more _ _ _ _ (count_on 4 whole more bytes) (λ n.
    many_on whole more (mark_at whole) (mark_on whole more) n.0 [] n.1)

pub chain_on : IsSteady chain_at
unfolding chain_at
chain_on whole more bytes =
    then_on whole more _ _ _ _ (fixed_on whole more bytes) (λ fixed.
    then_on whole more _ _ _ _ (states_on whole more fixed.1) (λ states.
    then_on whole more _ _ _ _ (marks_on whole more states.1) (λ marks. refl)))

-- ---- all of the bytes

cut_before : {A : Type 0} (n : ℕ) (more : List ℕ) (r s : Result (A × List ℕ) ByteFault) (v : A) → 0 < length more → GoesOn n more r s → s ≡ Ok (v, []) → r ≡ Err (faults.Cut n)
cut_before {A} n more (Ok x) s v some on read =
    let same : x.1 ++ more ≡ [] = ap rest_of (sym on ∙ read) in
    absurd (omega (arith, some, ap length same, length-append x.1 more))
  where
    rest_of : Result (A × List ℕ) ByteFault → List ℕ
    rest_of (Ok y) = y.1
    rest_of (Err e) = []
cut_before n more (Err f) s v some (inl e) read = ap (λ (d : ByteFault). Err d) e
cut_before n more (Err f) s v some (inr p) read = absurd (let never = sym p.1 ∙ read in cc)

-- a proper front of a spelling ends too early
pub fronts_cut : {A : Type 0} {at : ℕ → List ℕ → Result (A × List ℕ) ByteFault} {spell : A → List ℕ} {Valid : A → Type 0} → IsFormat at spell Valid → IsSteady at
    → (v : A) (n : ℕ) → Valid v → n < length (spell v) → all_of at (take n (spell v)) ≡ Err (faults.Cut n)
unfolding all_of
fronts_cut {A} {at} {spell} format steady v n valid lt =
    let front : List ℕ = take n (spell v) in
    let more : List ℕ = drop n (spell v) in
    let len : length (take n (spell v)) ≡ n = length-take-le n (spell v) (omega (arith, lt)) in
    let some : 0 < length more = omega (arith, lt, length-drop n (spell v)) in
    let parts : front ++ more ≡ spell v ++ [] = take-append-drop n (spell v) ∙ sym (append-nil (spell v)) in
    let read : at n (front ++ more) ≡ Ok (v, []) = ap (at n) parts ∙ format.again n v [] valid in
    let cut : at n (take n (spell v)) ≡ Err (faults.Cut n) = cut_before n more (at n front) (at n (front ++ more)) v some (steady n more front) read in
    rw (len, cut) refl
