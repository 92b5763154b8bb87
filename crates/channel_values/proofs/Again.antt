-- What a spelling is read as: the value, or a fault where the value isn't valid.
use Rattle.std.proofs.Common.{◌≡◌, ℕ, suc, ◌+◌, ◌-◌, ◌^◌, ◌<◌, ◌≤◌, Bool, true, false, ltb, leb, List, [], ◌∷◌, ◌++◌, length, Result, Ok, Err, refl, sym, ap, subst, ◌∙◌, append_assoc, arith, lit<, inl, inr, ◌⊎◌}
use Rattle.std.specs.List.{AllByRecursion, flat_map, list_any}
use Rattle.std.specs.Int.{Width, w32, w64, byte_len, to_be_bytes}
use Rattle.std.proofs.lemmas.Bool.{le-ltb, lt-ltb, lt-leb, cases_lt}
use Rattle.std.proofs.lemmas.List.{append-nil, take_at, drop_at, length-append}
use Rattle.std.proofs.lemmas.List.Concat.{flat_map-cons}
use Rattle.std.proofs.lemmas.List.Sums.{sum_by-append}
use Rattle.channel_values.specs.declared.fault.ByteFault.{ByteFault}
use Rattle.channel_values.specs.declared.fault.ByteFault.TheVariants as faults
use Rattle.channel_values.specs.declared.value.Dest.{Dest}
use Rattle.channel_values.specs.declared.value.Dest.TheVariants.{Person, Channel}
use Rattle.channel_values.specs.declared.value.Item.{Item}
use Rattle.channel_values.specs.declared.value.Shape.{Shape}
use Rattle.channel_values.specs.declared.value.Shape.TheVariants.{Allocation, Guarantee}
use Rattle.channel_values.specs.declared.value.AssetOutcome.{AssetOutcome}
use Rattle.channel_values.specs.Outcomes.{IsDest, is_same, pays_same, is_unordered, total, IsItem, AreItems, AreDests, FitsShape, FitsAsset, IsShape, IsAssetOutcome, AreAssets, IsOutcome}
use Rattle.channel_values.specs.Spelling.{dest, item, count, shape, asset_outcome, outcome}
use Rattle.channel_values.specs.Reading.{◌>>=◌, fault_if, number_at, front_at, name_at, dest_at, many_at, item_at, listed_at, count_at, allocation_at, guarantee_at, shape_at, asset_at, outcome_at}
use Rattle.channel_values.proofs.Fields.{IsWide, wide32, wide64}
use Rattle.channel_values.proofs.Apart.{AreApart-last, AreApart-front, Each-front, Each-last}
use Rattle.channel_values.proofs.Loop.{total-push}

-- x is read, or there is a fault, and then x isn't valid
abbrev pub Again : {A : Type 0} → Result (A × List ℕ) ByteFault → A → List ℕ → Type 0 → Type 0
Again {A} read x rest Valid = (read ≡ Ok (x, rest)) ⊎ ((f : ByteFault) × (read ≡ Err f) × (Valid → ⊥))

-- after a step that reads x
pub Again-then : {A B : Type 0} (r : Result (A × List ℕ) ByteFault) (f : A × List ℕ → Result (B × List ℕ) ByteFault) (x : A) (mid : List ℕ) (y : B) (rest : List ℕ) (V W : Type 0)
    → Again r x mid V → (W → V) → Again (f (x, mid)) y rest W → Again (r >>= f) y rest W
Again-then r f x mid y rest V W (inl e) weaken after = subst (λ (z : Result _ ByteFault). Again (z >>= f) y rest W) (sym e) after
Again-then r f x mid y rest V W (inr p) weaken after = inr (p.0, ap (λ (z : Result _ ByteFault). z >>= f) p.1, λ w. p.2 (weaken w))

-- after a test, which fails only where the value isn't valid
pub Again-test : {B : Type 0} (b : Bool) (d : ByteFault) (f : ℕ → Result (B × List ℕ) ByteFault) (y : B) (rest : List ℕ) (W : Type 0)
    → (W → b ≡ false) → Again (f 0) y rest W → Again (fault_if b d >>= f) y rest W
Again-test true d f y rest W ok after = inr (d, refl, λ w. absurd (let e = ok w in cc))
Again-test false d f y rest W ok after = after

-- after a test that fails
pub Again-failed : {B : Type 0} (b : Bool) (d : ByteFault) (f : ℕ → Result (B × List ℕ) ByteFault) (y : B) (rest : List ℕ) (W : Type 0)
    → b ≡ true → (W → ⊥) → Again (fault_if b d >>= f) y rest W
Again-failed true d f y rest W e never = inr (d, refl, never)
Again-failed false d f y rest W e never = absurd cc

-- after a step whose value is known
pub bind_again : {A B : Type 0} (r : Result A ByteFault) (f : A → Result B ByteFault) (x : A) (y : Result B ByteFault) → r ≡ Ok x → f x ≡ y → (r >>= f) ≡ y
bind_again r f x y e g = ap (λ (z : Result _ ByteFault). z >>= f) e ∙ g

-- a valid value is read
pub again_valid : {A : Type 0} (read : Result (A × List ℕ) ByteFault) (x : A) (rest : List ℕ) (Valid : Type 0) → Valid → Again read x rest Valid → read ≡ Ok (x, rest)
again_valid read x rest Valid valid (inl e) = e
again_valid read x rest Valid valid (inr p) = absurd (p.2 valid)

pub number_again : (whole : ℕ) (w : Width) (limit : ℕ) (wide : IsWide w limit) (n : ℕ) (rest : List ℕ) → n < limit → number_at whole w (to_be_bytes w n ++ rest) ≡ Ok (n, rest)
number_again whole w limit wide n rest lt =
    let len = wide.len n in
    let long : ltb (length (to_be_bytes w n ++ rest)) (byte_len w) ≡ false = le-ltb _ _ (omega (arith, length-append (to_be_bytes w n) rest)) in
    rw (long, take_at (to_be_bytes w n) rest (byte_len w) len, drop_at (to_be_bytes w n) rest (byte_len w) len, wide.again n lt) refl

pub front_again : (whole n : ℕ) (front rest : List ℕ) → length front ≡ n → front_at whole n (front ++ rest) ≡ Ok (front, rest)
front_again whole n front rest len =
    let long : ltb (length (front ++ rest)) n ≡ false = le-ltb _ _ (omega (arith, length-append front rest)) in
    rw (long, take_at front rest n len, drop_at front rest n len) refl

pub name_again : (whole : ℕ) (name rest : List ℕ) → length name ≡ 32 → name_at whole (name ++ rest) ≡ Ok (name, rest)
name_again whole name rest len = front_again whole 32 name rest len

pub dest_again : (whole : ℕ) (d : Dest) (rest : List ℕ) → IsDest d → dest_at whole (dest d ++ rest) ≡ Ok (d, rest)
unfolding dest_at
dest_again whole (Person name) rest h = rw (name_again whole name rest h.0) refl
dest_again whole (Channel name) rest h = rw (name_again whole name rest h.0) refl

pub count_again : (whole limit n : ℕ) (rest : List ℕ) → limit < 255 → Again (count_at whole limit (count n ∷ rest)) n rest (n ≤ limit)
unfolding count_at
count_again whole limit n rest lt =
    elim (cases_lt limit n) [
      | inl over ↦
          let test : ltb limit (count n) ≡ true = lt-ltb _ _ (omega arith) in
          inr (faults.OverLimit (whole - suc (length rest)), rw test refl, λ le. absurd (omega arith))
      | inr le ↦
          let same : count n ≡ n = omega arith in
          let test : ltb limit n ≡ false = le-ltb _ _ le in
          inl (rw (same, test) refl)
    ]

item_again : (whole : ℕ) (seen : List Item) (x : Item) (rest : List ℕ) → IsItem x → Again (item_at whole seen (item x ++ rest)) x rest (AreItems (seen ++ x ∷ []))
unfolding item_at
item_again whole seen x rest h =
    let regrouped : item x ++ rest ≡ dest x.to ++ (to_be_bytes w64 x.amount ++ rest) = append_assoc (dest x.to) (to_be_bytes w64 x.amount) rest in
    let Valid : Type 0 = AreItems (seen ++ x ∷ []) in
    subst (λ (w : List ℕ). Again (item_at whole seen w) x rest (AreItems (seen ++ x ∷ []))) (sym regrouped)
    (Again-then _ _ x.to (to_be_bytes w64 x.amount ++ rest) x rest Valid Valid (inl (dest_again whole x.to (to_be_bytes w64 x.amount ++ rest) h.0)) (λ v. v)
    (Again-test (list_any (λ i. is_same i.to x.to) seen) _ _ x rest Valid (λ v. AreApart-last pays_same seen x v.apart)
    (Again-then _ _ x.amount rest x rest Valid Valid (inl (number_again whole w64 (2 ^ 64) wide64 x.amount rest h.1)) (λ v. v)
    (Again-test (leb (2 ^ 64) (total seen + x.amount)) _ _ x rest Valid (λ v. lt-leb _ _ (omega (arith, v.within, total-push seen x)))
    (inl refl)))))

listed_again : (whole : ℕ) (seen : List Dest) (x : Dest) (rest : List ℕ) → IsDest x → Again (listed_at whole seen (dest x ++ rest)) x rest (AreDests (seen ++ x ∷ []))
unfolding listed_at
listed_again whole seen x rest h =
    let Valid : Type 0 = AreDests (seen ++ x ∷ []) in
    Again-then _ _ x rest x rest Valid Valid (inl (dest_again whole x rest h)) (λ v. v)
    (Again-test (list_any (λ d. is_same d x) seen) _ _ x rest Valid (λ v. AreApart-last is_same seen x v.apart) (inl refl))

pub many_again : {X : Type 0} (one : List X → List ℕ → Result (X × List ℕ) ByteFault) (spell : X → List ℕ) (Good : List X → Type 0) (Fits : X → Type 0)
    → ((xs ys : List X) → Good (xs ++ ys) → Good xs)
    → ((seen : List X) (x : X) (rest : List ℕ) → Fits x → Again (one seen (spell x ++ rest)) x rest (Good (seen ++ x ∷ [])))
    → (xs seen : List X) (rest : List ℕ) → AllByRecursion Fits xs → Again (many_at one seen (length xs) (flat_map spell xs ++ rest)) (seen ++ xs) rest (Good (seen ++ xs))
unfolding many_at
many_again one spell Good Fits front step [] seen rest h = inl (ap (λ (v : List _). Ok (v, rest)) (sym (append-nil seen)))
many_again one spell Good Fits front step (x ∷ xs) seen rest h =
    let regrouped : flat_map spell (x ∷ xs) ++ rest ≡ spell x ++ (flat_map spell xs ++ rest) = ap (λ (w : List ℕ). w ++ rest) (flat_map-cons spell x xs) ∙ append_assoc (spell x) (flat_map spell xs) rest in
    let moved : (seen ++ x ∷ []) ++ xs ≡ seen ++ x ∷ xs = append_assoc seen (x ∷ []) xs in
    let others = many_again one spell Good Fits front step xs (seen ++ x ∷ []) rest h.1 in
    subst (λ (w : List ℕ). Again (many_at one seen (suc (length xs)) w) (seen ++ x ∷ xs) rest (Good (seen ++ x ∷ xs))) (sym regrouped)
    (Again-then (one seen (spell x ++ (flat_map spell xs ++ rest))) (λ next. many_at one (seen ++ next.0 ∷ []) (length xs) next.1) x (flat_map spell xs ++ rest) (seen ++ x ∷ xs) rest (Good (seen ++ x ∷ [])) (Good (seen ++ x ∷ xs))
    (step seen x (flat_map spell xs ++ rest) h.0)
    (λ v. front (seen ++ x ∷ []) xs (rw moved v))
    (subst (λ (ys : List _). Again (many_at one (seen ++ x ∷ []) (length xs) (flat_map spell xs ++ rest)) ys rest (Good ys)) moved others))

items_front : (xs ys : List Item) → AreItems (xs ++ ys) → AreItems xs
items_front xs ys h = record {
  each = Each-front IsItem xs ys h.each;
  apart = AreApart-front pays_same xs ys h.apart;
  within = omega (arith, h.within, sum_by-append (λ (i : Item). i.amount) xs ys);
}

dests_front : (xs ys : List Dest) → AreDests (xs ++ ys) → AreDests xs
dests_front xs ys h = record { each = Each-front IsDest xs ys h.each; apart = AreApart-front is_same xs ys h.apart }

assets_front : (xs ys : List AssetOutcome) → AreAssets (xs ++ ys) → AreAssets xs
assets_front xs ys h = record { each = Each-front IsAssetOutcome xs ys h.each; rising = AreApart-front is_unordered xs ys h.rising }

shape_again : (whole : ℕ) (x : Shape) (rest : List ℕ) → FitsShape x → Again (shape_at whole (shape x ++ rest)) x rest (IsShape x)
unfolding shape_at allocation_at guarantee_at
shape_again whole (Allocation items) rest h =
    let Valid : Type 0 = IsShape (Allocation items) in
    Again-then _ _ (length items) (flat_map item items ++ rest) (Allocation items) rest (length items ≤ 16) Valid
    (count_again whole 16 (length items) (flat_map item items ++ rest) (lit< tt)) (λ v. v.0)
    (Again-then _ _ items rest (Allocation items) rest (AreItems items) Valid
    (many_again (item_at whole) item AreItems IsItem items_front (item_again whole) items [] rest h) (λ v. v.1)
    (inl refl))
shape_again whole (Guarantee target dests) rest h =
    let Valid : Type 0 = IsShape (Guarantee target dests) in
    let regrouped : shape (Guarantee target dests) ++ rest ≡ 2 ∷ (target ++ (count (length dests) ∷ (flat_map dest dests ++ rest))) = ap (λ (w : List ℕ). 2 ∷ w) (append_assoc target (count (length dests) ∷ flat_map dest dests) rest) in
    subst (λ (w : List ℕ). Again (shape_at whole w) (Guarantee target dests) rest (IsShape (Guarantee target dests))) (sym regrouped)
    (Again-then _ _ target (count (length dests) ∷ (flat_map dest dests ++ rest)) (Guarantee target dests) rest Valid Valid
    (inl (name_again whole target (count (length dests) ∷ (flat_map dest dests ++ rest)) h.0.0)) (λ v. v)
    (Again-then _ _ (length dests) (flat_map dest dests ++ rest) (Guarantee target dests) rest (length dests ≤ 16) Valid
    (count_again whole 16 (length dests) (flat_map dest dests ++ rest) (lit< tt)) (λ v. v.1)
    (Again-then _ _ dests rest (Guarantee target dests) rest (AreDests dests) Valid
    (many_again (listed_at whole) dest AreDests IsDest dests_front (listed_again whole) dests [] rest h.1) (λ v. v.2)
    (inl refl))))

asset_again : (whole : ℕ) (seen : List AssetOutcome) (x : AssetOutcome) (rest : List ℕ) → FitsAsset x → Again (asset_at whole seen (asset_outcome x ++ rest)) x rest (AreAssets (seen ++ x ∷ []))
unfolding asset_at
asset_again whole seen x rest h =
    let Valid : Type 0 = AreAssets (seen ++ x ∷ []) in
    let regrouped : asset_outcome x ++ rest ≡ to_be_bytes w32 x.asset ++ (shape x.shape ++ rest) = append_assoc (to_be_bytes w32 x.asset) (shape x.shape) rest in
    subst (λ (w : List ℕ). Again (asset_at whole seen w) x rest (AreAssets (seen ++ x ∷ []))) (sym regrouped)
    (Again-then _ _ x.asset (shape x.shape ++ rest) x rest Valid Valid (inl (number_again whole w32 (2 ^ 32) wide32 x.asset (shape x.shape ++ rest) h.0)) (λ v. v)
    (Again-test (list_any (λ o. leb x.asset o.asset) seen) _ _ x rest Valid (λ v. AreApart-last is_unordered seen x v.rising)
    (Again-then _ _ x.shape rest x rest (IsShape x.shape) Valid (shape_again whole x.shape rest h.1) (λ v. (Each-last IsAssetOutcome seen x v.each).1)
    (inl refl))))

pub outcome_again : (whole : ℕ) (os : List AssetOutcome) (rest : List ℕ) → AllByRecursion FitsAsset os → Again (outcome_at whole (outcome os ++ rest)) os rest (IsOutcome os)
unfolding outcome_at outcome
outcome_again whole os rest h =
    let Valid : Type 0 = IsOutcome os in
    Again-then _ _ (length os) (flat_map asset_outcome os ++ rest) os rest (length os ≤ 4) Valid
    (count_again whole 4 (length os) (flat_map asset_outcome os ++ rest) (lit< tt)) (λ v. v.0)
    (elim (many_again (asset_at whole) asset_outcome AreAssets FitsAsset assets_front (asset_again whole) os [] rest h) [
      | inl e ↦ inl e
      | inr p ↦ inr (p.0, p.1, λ v. p.2 v.1)
    ])

shape_fits : (s : Shape) → IsShape s → FitsShape s
shape_fits (Allocation items) h = h.1.each
shape_fits (Guarantee target dests) h = (h.0, h.2.each)

fits_valid : (os : List AssetOutcome) → AllByRecursion IsAssetOutcome os → AllByRecursion FitsAsset os
fits_valid [] h = tt
fits_valid (o ∷ os) h = ((h.0.0, shape_fits o.shape h.0.1), fits_valid os h.1)

-- a valid outcome is read again
pub outcome_valid_again : (whole : ℕ) (os : List AssetOutcome) (rest : List ℕ) → IsOutcome os → outcome_at whole (outcome os ++ rest) ≡ Ok (os, rest)
outcome_valid_again whole os rest valid = again_valid _ os rest (IsOutcome os) valid (outcome_again whole os rest (fits_valid os valid.1.each))
