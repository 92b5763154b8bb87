-- A payment of one of two people is no worse for the other.
use Rattle.std.proofs.Common.{◌≡◌, ◌≢◌, ℕ, zero, suc, ◌-◌, ◌<◌, ◌≤◌, min, Bool, true, false, not, ◌&&◌, ◌||◌, cond, eqb, ltb, List, [], ◌∷◌, length, refl, sym, ap, subst, ◌∙◌, inl, inr, arith}
use Rattle.std.specs.Prelude.{None, ◌⊎◌}
use Rattle.std.specs.Str.{bytes_eq}
use Rattle.std.proofs.lemmas.Bool.Decides.{Decides-eqb, nat_tests}
use Rattle.std.proofs.lemmas.Slice.Eq.{bytes_eq-Decides}
use Rattle.channel_values.specs.declared.value.Dest.{Dest}
use Rattle.channel_values.specs.declared.value.Dest.TheVariants.{Person, Channel}
use Rattle.channel_values.specs.declared.value.Item.{Item}
use Rattle.channel_values.specs.declared.value.Shape.{Shape}
use Rattle.channel_values.specs.declared.value.Shape.TheVariants.{Allocation, Guarantee}
use Rattle.channel_values.specs.declared.value.AssetOutcome.{AssetOutcome}
use Rattle.channel_values.specs.Parts.{StateParts}
use Rattle.channel_values.specs.Outcomes.{is_same}
use Rattle.channel_values.specs.declared.fault.StepFault.TheVariants as faults
use Rattle.channel_values.specs.Words.{fault_if, ◌⊳◌, all_along, first_along}
use Rattle.support_rules.specs.Rules.{person_at, is_one_of, is_alike, are_shapes_alike, are_assets_alike, item_fault, items_fault, asset_fault, total_of, have_one_total, payment_fault}
use Rattle.support_rules.specs.NoWorse.{ItemsNoWorse, ShapeNoWorse, NoWorse}
use Rattle.channel_values.specs.Amounts.{amt, aff, has}
use Rattle.channel_values.proofs.Lines.{both_none, unbroken, not_not, and_true, or_true}

pub same_dest : (a b : Dest) → is_same a b ≡ true → a ≡ b
same_dest (Person a) (Person b) h = ap (λ (x : List ℕ). Person x) ((bytes_eq-Decides a b).0 h)
same_dest (Channel a) (Channel b) h = ap (λ (x : List ℕ). Channel x) ((bytes_eq-Decides a b).0 h)
same_dest (Person a) (Channel b) h = absurd cc
same_dest (Channel a) (Person b) h = absurd cc

-- one of two people, of whom one is the mover
one_of_two : (people : List (List ℕ)) (d : Dest) → length people ≡ 2 → is_one_of people d ≡ true → (is_same d (person_at people 0) ≡ true) ⊎ (is_same d (person_at people 1) ≡ true)
one_of_two [] d h e = absurd (omega arith)
one_of_two (p ∷ []) d h e = absurd (omega arith)
one_of_two (p ∷ q ∷ []) d h e = elim (or_true (is_same d (Person p)) (is_same d (Person q) || false) e) [
  | inl x ↦ inl x
  | inr x ↦ inr (last (is_same d (Person q)) x)
]
  where
    last : (b : Bool) → (b || false) ≡ true → b ≡ true
    last true e = refl
    last false e = e
one_of_two (p ∷ q ∷ r ∷ ps) d h e = absurd (omega arith)

-- The item of d doesn't fall, and no other rises.
pub record Better (d : Dest) (a b : Item) : Type 0 where
  pub to : a.to ≡ b.to
  pub mine : is_same a.to d ≡ true → a.amount ≤ b.amount
  pub others : is_same a.to d ≡ false → b.amount ≤ a.amount

guarded : (a b : Bool) → (a && b) ≡ false → a ≡ true → b ≡ false
guarded true b h e = h
guarded false b h e = absurd cc

not_less : (a b : ℕ) → ltb a b ≡ false → b ≤ a
not_less a b h = grind (arith, nat_tests)

clash : (b : Bool) → b ≡ true → b ≡ false → ⊥
clash b e f = cc

module _ (people : List (List ℕ)) (two : length people ≡ 2) (m j : ℕ) (mover : m < 2) (me : j < 2) (other : m ≢ j) where
  not_mover : 1 - m ≡ j
  not_mover = omega arith

  -- a person that isn't me is the mover
  is_mover : (d : Dest) → (is_same d (person_at people 0) ≡ true) ⊎ (is_same d (person_at people 1) ≡ true) → is_same d (person_at people j) ≡ false → is_same d (person_at people m) ≡ true
  is_mover d (inl e) f = of_two m j mover me other e f
    where
      of_two : (m j : ℕ) → m < 2 → j < 2 → m ≢ j → is_same d (person_at people 0) ≡ true → is_same d (person_at people j) ≡ false → is_same d (person_at people m) ≡ true
      of_two zero j mover me other e f = e
      of_two (suc m) zero mover me other e f = absurd (clash _ e f)
      of_two (suc m) (suc j) mover me other e f = absurd (let x : m ≡ 0 = omega arith in let y : j ≡ 0 = omega arith in other (ap suc (x ∙ sym y)))
  is_mover d (inr e) f = of_two m j mover me other e f
    where
      of_two : (m j : ℕ) → m < 2 → j < 2 → m ≢ j → is_same d (person_at people 1) ≡ true → is_same d (person_at people j) ≡ false → is_same d (person_at people m) ≡ true
      of_two zero zero mover me other e f = absurd (other refl)
      of_two zero (suc j) mover me other e f = let y : j ≡ 0 = omega arith in let g : is_same d (person_at people 1) ≡ false = subst (λ (x : ℕ). is_same d (person_at people (suc x)) ≡ false) y f in absurd (clash _ e g)
      of_two (suc m) j mover me other e f = let x : 0 ≡ m = omega arith in subst (λ (x : ℕ). is_same d (person_at people (suc x)) ≡ true) x e

  item_better : (a b : Item) → is_alike people a b ≡ true → item_fault people m a b ≡ None → Better (person_at people j) a b
  item_better a b alike h =
      let p = and_true (is_same a.to b.to) (is_one_of people a.to || eqb a.amount b.amount) alike in
      let l = both_none (fault_if (is_same a.to (person_at people m) && ltb a.amount b.amount) faults.Raised) (fault_if (is_same a.to (person_at people (1 - m)) && ltb b.amount a.amount) faults.Lowered) h in
      let raised = unbroken (is_same a.to (person_at people m) && ltb a.amount b.amount) faults.Raised l.0 in
      let lowered = unbroken (is_same a.to (person_at people (1 - m)) && ltb b.amount a.amount) faults.Lowered l.1 in
      record {
        to = same_dest a.to b.to p.0;
        mine = λ e. not_less b.amount a.amount (guarded (is_same a.to (person_at people (1 - m))) (ltb b.amount a.amount) lowered (subst (λ (k : ℕ). is_same a.to (person_at people k) ≡ true) (sym not_mover) e));
        others = λ e. by_owner e raised (or_true (is_one_of people a.to) (eqb a.amount b.amount) p.1);
      }
    where
      by_owner : is_same a.to (person_at people j) ≡ false → (is_same a.to (person_at people m) && ltb a.amount b.amount) ≡ false → (is_one_of people a.to ≡ true) ⊎ (eqb a.amount b.amount ≡ true) → b.amount ≤ a.amount
      by_owner e raised (inl o) = not_less a.amount b.amount (guarded (is_same a.to (person_at people m)) (ltb a.amount b.amount) raised (is_mover a.to (one_of_two people a.to two o) e))
      by_owner e raised (inr o) = let q = (Decides-eqb a.amount b.amount).0 o in omega arith

-- items, each better for d
abbrev pub EachBetter : Dest → List Item → List Item → Type 0
EachBetter d [] [] = Unit {0}
EachBetter d [] (y ∷ ys) = ⊥
EachBetter d (x ∷ xs) [] = ⊥
EachBetter d (x ∷ xs) (y ∷ ys) = Better d x y × EachBetter d xs ys

cond_le : (t : Bool) (x y u v : ℕ) → (t ≡ true → x ≤ u) → (t ≡ false → y ≤ v) → cond t x y ≤ cond t u v
cond_le true x y u v p q = p refl
cond_le false x y u v p q = q refl

aff_mono : (xs : List Item) (r q : ℕ) (d : Dest) → r ≤ q → aff xs r d ≤ aff xs q d
aff_mono [] r q d h = omega arith
aff_mono (x ∷ xs) r q d h = cond_le (is_same x.to d) _ _ _ _ (λ e. omega arith) (λ e. aff_mono xs (r - x.amount) (q - x.amount) d (omega arith))

le_trans : (a b c : ℕ) → a ≤ b → b ≤ c → a ≤ c
le_trans a b c h k = omega arith

pub aff_better : (d : Dest) (xs ys : List Item) → EachBetter d xs ys → (r : ℕ) → aff xs r d ≤ aff ys r d
aff_better d [] [] h r = omega arith
aff_better d [] (y ∷ ys) h r = elim h [ ]
aff_better d (x ∷ xs) [] h r = elim h [ ]
aff_better d (x ∷ xs) (y ∷ ys) h r =
    subst (λ (t : Dest). aff (x ∷ xs) r d ≤ cond (is_same t d) (min y.amount r) (aff ys (r - y.amount) d)) h.0.to
    (cond_le (is_same x.to d) (min x.amount r) (aff xs (r - x.amount) d) (min y.amount r) (aff ys (r - y.amount) d)
    (λ e. let m = h.0.mine e in omega arith)
    (λ e. let m = h.0.others e in le_trans _ (aff xs (r - y.amount) d) _ (aff_mono xs (r - x.amount) (r - y.amount) d (omega arith)) (aff_better d xs ys h.1 (r - y.amount))))

pub amt_better : (d : Dest) (xs ys : List Item) → EachBetter d xs ys → amt xs d ≤ amt ys d
amt_better d [] [] h = omega arith
amt_better d [] (y ∷ ys) h = elim h [ ]
amt_better d (x ∷ xs) [] h = elim h [ ]
amt_better d (x ∷ xs) (y ∷ ys) h =
    subst (λ (t : Dest). amt (x ∷ xs) d ≤ cond (is_same t d) y.amount (amt ys d)) h.0.to
    (cond_le (is_same x.to d) x.amount (amt xs d) y.amount (amt ys d) (λ e. h.0.mine e) (λ e. amt_better d xs ys h.1))

pub has_better : (d : Dest) (xs ys : List Item) → EachBetter d xs ys → (q : Dest) → has ys q ≡ has xs q
has_better d [] [] h q = refl
has_better d [] (y ∷ ys) h q = elim h [ ]
has_better d (x ∷ xs) [] h q = elim h [ ]
has_better d (x ∷ xs) (y ∷ ys) h q =
    ap (λ (t : Dest). is_same t q || has ys q) (sym h.0.to) ∙ ap (λ (b : Bool). is_same x.to q || b) (has_better d xs ys h.1 q)

same_dests : (ds es : List Dest) → all_along is_same ds es ≡ true → ds ≡ es
same_dests [] [] h = refl
same_dests [] (e ∷ es) h = absurd cc
same_dests (d ∷ ds) [] h = absurd cc
same_dests (d ∷ ds) (e ∷ es) h =
    let p = and_true (is_same d e) (all_along is_same ds es) h in
    ap (λ (x : Dest). x ∷ ds) (same_dest d e p.0) ∙ ap (λ (xs : List Dest). e ∷ xs) (same_dests ds es p.1)

module _ (people : List (List ℕ)) (two : length people ≡ 2) (m j : ℕ) (mover : m < 2) (me : j < 2) (other : m ≢ j) where
  items_better : (xs ys : List Item) → all_along (is_alike people) xs ys ≡ true → first_along (item_fault people m) xs ys ≡ None → EachBetter (person_at people j) xs ys
  items_better [] [] h k = tt
  items_better [] (y ∷ ys) h k = absurd cc
  items_better (x ∷ xs) [] h k = absurd cc
  items_better (x ∷ xs) (y ∷ ys) h k =
      let p = and_true (is_alike people x y) (all_along (is_alike people) xs ys) h in
      let q = both_none (item_fault people m x y) (first_along (item_fault people m) xs ys) k in
      (item_better people two m j mover me other x y p.0 q.0, items_better xs ys p.1 q.1)

  shape_better : (a b : Shape) → are_shapes_alike people a b ≡ true → items_fault people m a b ≡ None → total_of a ≡ total_of b → ShapeNoWorse (person_at people j) a b
  shape_better (Allocation xs) (Allocation ys) h k t =
      let e = items_better xs ys h k in
      record { affords = aff_better (person_at people j) xs ys e; amount = amt_better (person_at people j) xs ys e; names = has_better (person_at people j) xs ys e; total = sym t }
  shape_better (Allocation xs) (Guarantee u es) h k t = absurd cc
  shape_better (Guarantee t ds) (Allocation ys) h k e = absurd cc
  shape_better (Guarantee t ds) (Guarantee u es) h k e =
      let p = and_true (bytes_eq t u) (all_along is_same ds es) h in
      (sym ((bytes_eq-Decides t u).0 p.0), sym (same_dests ds es p.1))

  assets_better : (os ps : List AssetOutcome) → all_along (are_assets_alike people) os ps ≡ true → first_along (asset_fault people m) os ps ≡ None → all_along have_one_total os ps ≡ true → NoWorse (person_at people j) os ps
  assets_better [] [] h k t = tt
  assets_better [] (p ∷ ps) h k t = absurd cc
  assets_better (o ∷ os) [] h k t = absurd cc
  assets_better (o ∷ os) (p ∷ ps) h k t =
      let a = and_true (are_assets_alike people o p) (all_along (are_assets_alike people) os ps) h in
      let a2 = and_true (eqb o.asset p.asset) (are_shapes_alike people o.shape p.shape) a.0 in
      let q = both_none (asset_fault people m o p) (first_along (asset_fault people m) os ps) k in
      let s = and_true (have_one_total o p) (all_along have_one_total os ps) t in
      (sym ((Decides-eqb o.asset p.asset).0 a2.0), shape_better o.shape p.shape a2.1 q.0 ((Decides-eqb (total_of o.shape) (total_of p.shape)).0 s.0), assets_better os ps a.1 q.1 s.1)

  pub payment_better : (s t : StateParts) → payment_fault people m s t ≡ None → NoWorse (person_at people j) s.outcome t.outcome
  payment_better s t h =
      let d = both_none (fault_if (not (eqb (length s.app_bytes) 0) || not (eqb (length t.app_bytes) 0)) faults.Data) (fault_if (not (all_along (are_assets_alike people) s.outcome t.outcome)) faults.Outcome ⊳ first_along (asset_fault people m) s.outcome t.outcome ⊳ fault_if (not (all_along have_one_total s.outcome t.outcome)) faults.Outcome) h in
      let a = both_none (fault_if (not (all_along (are_assets_alike people) s.outcome t.outcome)) faults.Outcome) (first_along (asset_fault people m) s.outcome t.outcome ⊳ fault_if (not (all_along have_one_total s.outcome t.outcome)) faults.Outcome) d.1 in
      let i = both_none (first_along (asset_fault people m) s.outcome t.outcome) (fault_if (not (all_along have_one_total s.outcome t.outcome)) faults.Outcome) a.1 in
      assets_better s.outcome t.outcome (not_not _ (unbroken (not (all_along (are_assets_alike people) s.outcome t.outcome)) faults.Outcome a.0)) i.0 (not_not _ (unbroken (not (all_along have_one_total s.outcome t.outcome)) faults.Outcome i.1))

-- ---- no worse, twice

pub items_again : (d : Dest) (xs : List Item) → ItemsNoWorse d xs xs
items_again d xs = record { affords = λ r. omega arith; amount = omega arith; names = λ q. refl; total = refl }

pub shape_again : (d : Dest) (a : Shape) → ShapeNoWorse d a a
shape_again d (Allocation xs) = items_again d xs
shape_again d (Guarantee t ds) = (refl, refl)

pub no_worse_again : (d : Dest) (os : List AssetOutcome) → NoWorse d os os
no_worse_again d [] = tt
no_worse_again d (o ∷ os) = (refl, shape_again d o.shape, no_worse_again d os)

shape_twice : (d : Dest) (a b c : Shape) → ShapeNoWorse d a b → ShapeNoWorse d b c → ShapeNoWorse d a c
shape_twice d (Allocation xs) (Allocation ys) (Allocation zs) h k =
    record { affords = λ r. le_trans _ _ _ (h.affords r) (k.affords r); amount = le_trans _ _ _ h.amount k.amount; names = λ q. k.names q ∙ h.names q; total = k.total ∙ h.total }
shape_twice d (Allocation xs) (Allocation ys) (Guarantee u es) h k = elim k [ ]
shape_twice d (Allocation xs) (Guarantee u es) c h k = elim h [ ]
shape_twice d (Guarantee t ds) (Allocation ys) c h k = elim h [ ]
shape_twice d (Guarantee t ds) (Guarantee u es) (Allocation zs) h k = elim k [ ]
shape_twice d (Guarantee t ds) (Guarantee u es) (Guarantee v fs) h k = (k.0 ∙ h.0, k.1 ∙ h.1)

pub no_worse_twice : (d : Dest) (os ps qs : List AssetOutcome) → NoWorse d os ps → NoWorse d ps qs → NoWorse d os qs
no_worse_twice d [] [] [] h k = tt
no_worse_twice d [] [] (q ∷ qs) h k = elim k [ ]
no_worse_twice d [] (p ∷ ps) qs h k = elim h [ ]
no_worse_twice d (o ∷ os) [] qs h k = elim h [ ]
no_worse_twice d (o ∷ os) (p ∷ ps) [] h k = elim k [ ]
no_worse_twice d (o ∷ os) (p ∷ ps) (q ∷ qs) h k = (k.0 ∙ h.0, shape_twice d o.shape p.shape q.shape h.1 k.1, no_worse_twice d os ps qs h.2 k.2)
