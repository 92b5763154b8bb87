-- Tables of reaches that agree at the channels on which parts may stand go on to agree.
use Rattle.std.proofs.Common.{◌≡◌, ℕ, ◌≤◌, Bool, true, false, ◌||◌, List, [], ◌∷◌, refl, sym, ◌∙◌, ap, subst, arith, cond, inl, inr, ◌⊎◌}
use Rattle.std.proofs.lemmas.Bool.{false≢true}
use Rattle.std.specs.Str.{bytes_eq}
use Rattle.channel_values.specs.Outcomes.{AreApart}
use Rattle.call_history.specs.Flows.{is_among}
use Rattle.funding_plans.specs.declared.plan.Part.{Part}
use Rattle.funding_plans.specs.declared.plan.Part.TheVariants.{Root, OnLedger, End, Middle}
use Rattle.funding_plans.specs.declared.plan.Virtual.{Virtual}
use Rattle.share_laws.specs.Books.{Books}
use Rattle.share_laws.specs.Worth.{Table, with_reach, reach_after}
use Rattle.funding_plans.specs.Parts.{channels_of, channels}
use Rattle.share_laws.specs.Plans.{ledgers_after, reaches}
use Rattle.call_history.proofs.Names.{same_bytes, bytes_eq_self}
use Rattle.share_laws.proofs.Apart.{among-append, or-none, apart-once}

-- both tables give the same of each of these but one
pub record Agree (but : List ℕ) (ledgers : List (List ℕ)) (reach after : Table) : Type 0 where
  pub at : (m : List ℕ) → is_among m ledgers ≡ true → bytes_eq m but ≡ false → reach m ≡ after m

-- none of these is a channel of these parts
abbrev pub Apart : List (List ℕ) → List Part → Type 0
Apart ledgers ps = (m : List ℕ) → is_among m ledgers ≡ true → is_among m (channels ps) ≡ false

pub Agree-with : (but : List ℕ) (ledgers : List (List ℕ)) (reach after : Table) → Agree but ledgers reach after → (n : List ℕ) (r q : ℕ) → (bytes_eq n but ≡ false → r ≡ q) →
    Agree but (n ∷ ledgers) (with_reach reach n r) (with_reach after n q)
Agree-with but ledgers reach after g n r q e = record { at = λ m. by_test m (bytes_eq m n) (same_bytes m n) }
  where
    by_test : (m : List ℕ) (t : Bool) → (t ≡ true → m ≡ n) → (t || is_among m ledgers) ≡ true → bytes_eq m but ≡ false → cond t r (reach m) ≡ cond t q (after m)
    by_test m true is h ne = e (subst (λ (k : List ℕ). bytes_eq k but ≡ false) (is refl) ne)
    by_test m false is h ne = g.at m h ne

pub Agree-other : (but : List ℕ) (ledgers : List (List ℕ)) (reach after : Table) → Agree but ledgers reach after → (n : List ℕ) (r q : ℕ) →
    is_among n ledgers ≡ false → Agree but ledgers (with_reach reach n r) (with_reach after n q)
Agree-other but ledgers reach after g n r q out = record { at = λ m h. by_test m h (bytes_eq m n) (same_bytes m n) }
  where
    by_test : (m : List ℕ) → is_among m ledgers ≡ true → (t : Bool) → (t ≡ true → m ≡ n) → bytes_eq m but ≡ false → cond t r (reach m) ≡ cond t q (after m)
    by_test m h true is ne = absurd (false≢true (sym out ∙ subst (λ (z : List ℕ). is_among z ledgers ≡ true) (is refl) h))
    by_test m h false is ne = g.at m h ne

-- what is among the ledgers is no channel of a part after them
pub out-of : (ledgers : List (List ℕ)) (ps : List Part) → Apart ledgers ps → (n : List ℕ) → is_among n (channels ps) ≡ true → is_among n ledgers ≡ false
out-of ledgers ps a n h = by_test (is_among n ledgers) (a n)
  where
    by_test : (t : Bool) → (t ≡ true → is_among n (channels ps) ≡ false) → t ≡ false
    by_test true f = absurd (false≢true (sym (f refl) ∙ h))
    by_test false f = refl

last-of : (r s t u : Bool) → u ≡ true → (r || (s || (t || u))) ≡ true
last-of true s t u h = refl
last-of false true t u h = refl
last-of false false true u h = refl
last-of false false false u h = h

pub Apart-after : (ledgers : List (List ℕ)) (p : Part) (ps : List Part) → AreApart bytes_eq (channels (p ∷ ps)) → Apart ledgers (p ∷ ps) →
    Apart (ledgers_after ledgers p) ps
Apart-after ledgers p ps h a m i = by_kind p h (λ j. (or-none _ _ (sym (among-append m (channels_of p) (channels ps)) ∙ a m j)).1) i
  where
    by_kind : (q : Part) → AreApart bytes_eq (channels (q ∷ ps)) → (is_among m ledgers ≡ true → is_among m (channels ps) ≡ false) →
        is_among m (ledgers_after ledgers q) ≡ true → is_among m (channels ps) ≡ false
    by_kind (Root n) ap' old j = by_test (bytes_eq m n) refl j
      where
        by_test : (t : Bool) → bytes_eq m n ≡ t → (t || is_among m ledgers) ≡ true → is_among m (channels ps) ≡ false
        by_test true e k = apart-once (n ∷ []) (channels ps) ap' m (ap (λ (t : Bool). t || false) e)
        by_test false e k = old k
    by_kind (OnLedger l n) ap' old j = old j
    by_kind (End v) ap' old j = by_test (bytes_eq m v.channel) refl j
      where
        by_test : (t : Bool) → bytes_eq m v.channel ≡ t → (t || is_among m ledgers) ≡ true → is_among m (channels ps) ≡ false
        by_test true e k = apart-once (channels_of (End v)) (channels ps) ap' m
            (last-of (bytes_eq m v.guarantor_a) (bytes_eq m v.guarantor_b) (bytes_eq m v.joint) _ (ap (λ (t : Bool). t || false) e))
        by_test false e k = old k
    by_kind (Middle v) ap' old j = old j

-- the channel of an end is new
pub end-out : (ledgers : List (List ℕ)) (v : Virtual) (ps : List Part) → Apart ledgers (End v ∷ ps) → is_among v.channel ledgers ≡ false
end-out ledgers v ps a = out-of ledgers (End v ∷ ps) a v.channel
    (last-of (bytes_eq v.channel v.guarantor_a) (bytes_eq v.channel v.guarantor_b) (bytes_eq v.channel v.joint) _
    (ap (λ (t : Bool). t || is_among v.channel (channels ps)) (bytes_eq_self v.channel)))

pub middle-out : (ledgers : List (List ℕ)) (v : Virtual) (ps : List Part) → Apart ledgers (Middle v ∷ ps) → is_among v.channel ledgers ≡ false
middle-out ledgers v ps a = out-of ledgers (Middle v ∷ ps) a v.channel
    (last-of (bytes_eq v.channel v.guarantor_a) (bytes_eq v.channel v.guarantor_b) (bytes_eq v.channel v.joint) _
    (ap (λ (t : Bool). t || is_among v.channel (channels ps)) (bytes_eq_self v.channel)))

pub child-out : (ledgers : List (List ℕ)) (l n : List ℕ) (ps : List Part) → Apart ledgers (OnLedger l n ∷ ps) → is_among n ledgers ≡ false
child-out ledgers l n ps a = out-of ledgers (OnLedger l n ∷ ps) a n (ap (λ (t : Bool). t || is_among n (channels ps)) (bytes_eq_self n))

-- ---- a reach stays once its part is there

last-false : (r s t u : Bool) → (r || (s || (t || (u || false)))) ≡ false → u ≡ false
last-false true s t u h = absurd (false≢true (sym h))
last-false false true t u h = absurd (false≢true (sym h))
last-false false false true u h = absurd (false≢true (sym h))
last-false false false false true h = absurd (false≢true (sym h))
last-false false false false false h = refl

put-off : (reach : Table) (n l : List ℕ) (r : ℕ) → bytes_eq l n ≡ false → with_reach reach n r l ≡ reach l
put-off reach n l r ne = ap (λ (t : Bool). cond t r (reach l)) ne

after-off : (b : Books) (reach : Table) (p : Part) (l : List ℕ) → is_among l (channels_of p) ≡ false → reach_after b reach p l ≡ reach l
after-off b reach (Root n) l h = put-off reach n l _ (or-none (bytes_eq l n) false h).0
after-off b reach (OnLedger m n) l h = put-off reach n l _ (or-none (bytes_eq l n) false h).0
after-off b reach (End v) l h = put-off reach v.channel l _ (last-false (bytes_eq l v.guarantor_a) (bytes_eq l v.guarantor_b) (bytes_eq l v.joint) (bytes_eq l v.channel) h)
after-off b reach (Middle v) l h = refl

pub reaches-off : (b : Books) (ps : List Part) (reach : Table) (l : List ℕ) → is_among l (channels ps) ≡ false → reaches b reach ps l ≡ reach l
reaches-off b [] reach l h = refl
reaches-off b (p ∷ ps) reach l h =
    let w : (is_among l (channels_of p) ≡ false) × (is_among l (channels ps) ≡ false) = or-none _ _ (sym (among-append l (channels_of p) (channels ps)) ∙ h) in
    reaches-off b ps (reach_after b reach p) l w.1 ∙ after-off b reach p l w.0

-- so what the ledger reaches in the end, in either table, it reaches now
pub reaches-now : (b c : Books) (but : List ℕ) (ledgers : List (List ℕ)) (ps : List Part) (reach after : Table) → Agree but ledgers reach after → Apart ledgers ps →
    (l : List ℕ) → is_among l ledgers ≡ true → bytes_eq l but ≡ false → (k : ℕ) → (k ≤ reaches b reach ps l) ⊎ (k ≤ reaches c after ps l) → k ≤ reach l
reaches-now b c but ledgers ps reach after g a l there ne k (inl h) = let e = reaches-off b ps reach l (a l there) in omega (arith, e, h)
reaches-now b c but ledgers ps reach after g a l there ne k (inr h) =
    let e = reaches-off c ps after l (a l there) in let f = g.at l there ne in omega (arith, e, f, h)
