-- In a plan whose channels are apart, one part has a channel.
use Rattle.std.proofs.Common.{◌≡◌, ℕ, ◌+◌, ◌≤◌, Bool, true, false, ◌||◌, List, [], ◌∷◌, refl, sym, ◌∙◌, ap, subst, arith, cond, inl, inr}
use Rattle.std.specs.Str.{bytes_eq}
use Rattle.std.proofs.lemmas.Bool.{false≢true}
use Rattle.channel_values.specs.Outcomes.{AreApart}
use Rattle.call_history.specs.Flows.{is_among}
use Rattle.channel_safety.specs.Journals.{In}
use Rattle.funding_plans.specs.declared.plan.Part.{Part}
use Rattle.funding_plans.specs.Parts.{channels_of, channels}
use Rattle.share_laws.proofs.Apart.{among-append, or-none, apart-once, apart-rest, apart-front}

pub or-left : (s t : Bool) → s ≡ true → (s || t) ≡ true
or-left true t h = refl
or-left false t h = absurd (false≢true h)

pub or-right : (s t : Bool) → t ≡ true → (s || t) ≡ true
or-right true t h = refl
or-right false t h = h

-- the channels of each part are apart
pub part-apart : (ps : List Part) → AreApart bytes_eq (channels ps) → (p : Part) → In p ps → AreApart bytes_eq (channels_of p)
part-apart [] h p i = absurd i
part-apart (q ∷ qs) h p (inl e) =
    subst (λ (z : Part). AreApart bytes_eq (channels_of z)) (sym e) (apart-front (channels_of q) (channels qs) h)
part-apart (q ∷ qs) h p (inr i) = part-apart qs (apart-rest (channels_of q) (channels qs) h) p i

pub among-all : (p : Part) (ps : List Part) (y : List ℕ) → In p ps → is_among y (channels_of p) ≡ true → is_among y (channels ps) ≡ true
among-all p [] y i h = absurd i
among-all p (q ∷ qs) y (inl e) h =
    among-append y (channels_of q) (channels qs)
    ∙ or-left _ _ (subst (λ (z : Part). is_among y (channels_of z) ≡ true) e h)
among-all p (q ∷ qs) y (inr i) h =
    among-append y (channels_of q) (channels qs) ∙ or-right _ _ (among-all p qs y i h)

-- two parts with one channel are one
pub part-once : (ps : List Part) → AreApart bytes_eq (channels ps) → (p q : Part) → In p ps → In q ps →
    (y : List ℕ) → is_among y (channels_of p) ≡ true → is_among y (channels_of q) ≡ true → p ≡ q
part-once [] h p q i j y m n = absurd i
part-once (r ∷ rs) h p q (inl e) (inl f) y m n = e ∙ sym f
part-once (r ∷ rs) h p q (inl e) (inr j) y m n =
    let here : is_among y (channels_of r) ≡ true = subst (λ (z : Part). is_among y (channels_of z) ≡ true) e m in
    absurd (false≢true (sym (apart-once (channels_of r) (channels rs) h y here) ∙ among-all q rs y j n))
part-once (r ∷ rs) h p q (inr i) (inl f) y m n =
    let here : is_among y (channels_of r) ≡ true = subst (λ (z : Part). is_among y (channels_of z) ≡ true) f n in
    absurd (false≢true (sym (apart-once (channels_of r) (channels rs) h y here) ∙ among-all p rs y i m))
part-once (r ∷ rs) h p q (inr i) (inr j) y m n = part-once rs (apart-rest (channels_of r) (channels rs) h) p q i j y m n

-- the sum of what f gives of each part
unfoldable pub sum_of : (Part → ℕ) → List Part → ℕ
sum_of f [] = 0
sum_of f (p ∷ ps) = f p + sum_of f ps

pub sum_of-none : (test : Part → Bool) (k : ℕ) (y : List ℕ) → ((p : Part) → test p ≡ true → is_among y (channels_of p) ≡ true) →
    (ps : List Part) → is_among y (channels ps) ≡ false → sum_of (λ p. cond (test p) k 0) ps ≡ 0
unfolding sum_of
sum_of-none test k y needs [] h = refl
sum_of-none test k y needs (p ∷ ps) h =
    let parts : (is_among y (channels_of p) ≡ false) × (is_among y (channels ps) ≡ false) =
    or-none _ _ (sym (among-append y (channels_of p) (channels ps)) ∙ h) in
    by_test (test p) (needs p) parts.0 (sum_of-none test k y needs ps parts.1)
  where
    by_test : (t : Bool) → (t ≡ true → is_among y (channels_of p) ≡ true) → is_among y (channels_of p) ≡ false →
        sum_of (λ q. cond (test q) k 0) ps ≡ 0 → cond t k 0 + sum_of (λ q. cond (test q) k 0) ps ≡ 0
    by_test true need out rest = absurd (false≢true (sym out ∙ need refl))
    by_test false need out rest = omega (arith, rest)

-- a test that needs a channel holds of one part
pub sum_of-once : (test : Part → Bool) (k : ℕ) (y : List ℕ) → ((p : Part) → test p ≡ true → is_among y (channels_of p) ≡ true) →
    (ps : List Part) → AreApart bytes_eq (channels ps) → (p : Part) → In p ps → test p ≡ true → sum_of (λ q. cond (test q) k 0) ps ≡ k
unfolding sum_of
sum_of-once test k y needs [] h p i is = absurd i
sum_of-once test k y needs (q ∷ qs) h p (inl e) is =
    let here : test q ≡ true = subst (λ (z : Part). test z ≡ true) e is in
    let none : sum_of (λ r. cond (test r) k 0) qs ≡ 0 =
    sum_of-none test k y needs qs (apart-once (channels_of q) (channels qs) h y (needs q here)) in
    let one : cond (test q) k 0 ≡ k = ap (λ (t : Bool). cond t k 0) here in
    omega (arith, none, one)
sum_of-once test k y needs (q ∷ qs) h p (inr i) is =
    by_test (test q) (needs q) (sum_of-once test k y needs qs (apart-rest (channels_of q) (channels qs) h) p i is)
  where
    by_test : (t : Bool) → (t ≡ true → is_among y (channels_of q) ≡ true) → sum_of (λ r. cond (test r) k 0) qs ≡ k →
        cond t k 0 + sum_of (λ r. cond (test r) k 0) qs ≡ k
    by_test true need rest =
        absurd (false≢true (sym (apart-once (channels_of q) (channels qs) h y (need refl)) ∙ among-all p qs y i (needs p is)))
    by_test false need rest = omega (arith, rest)

-- and of one at most
pub sum_of-most : (test : Part → Bool) (k : ℕ) (y : List ℕ) → ((p : Part) → test p ≡ true → is_among y (channels_of p) ≡ true) →
    (ps : List Part) → AreApart bytes_eq (channels ps) → sum_of (λ q. cond (test q) k 0) ps ≤ k
unfolding sum_of
sum_of-most test k y needs [] h = omega arith
sum_of-most test k y needs (q ∷ qs) h = by_test (test q) (needs q) (sum_of-most test k y needs qs (apart-rest (channels_of q) (channels qs) h))
  where
    by_test : (t : Bool) → (t ≡ true → is_among y (channels_of q) ≡ true) → sum_of (λ r. cond (test r) k 0) qs ≤ k →
        cond t k 0 + sum_of (λ r. cond (test r) k 0) qs ≤ k
    by_test true need rest =
        let none : sum_of (λ r. cond (test r) k 0) qs ≡ 0 =
        sum_of-none test k y needs qs (apart-once (channels_of q) (channels qs) h y (need refl)) in
        omega (arith, none)
    by_test false need rest = omega (arith, rest)
