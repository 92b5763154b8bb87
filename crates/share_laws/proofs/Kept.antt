use Rattle.std.proofs.Common.{◌≡◌, ℕ, ◌+◌, ◌≤◌, Bool, true, false, ◌||◌, List, [], ◌∷◌, ◌++◌, refl, sym, ◌∙◌, ap, subst, arith, cond, inl, inr, ◌⊎◌}
use Rattle.std.proofs.lemmas.Bool.{false≢true}
use Rattle.channel_values.specs.declared.value.Dest.{Dest}
use Rattle.channel_values.specs.declared.value.Dest.TheVariants.{Person, Channel}
use Rattle.funding_plans.specs.declared.plan.Part.{Part}
use Rattle.funding_plans.specs.declared.plan.Part.TheVariants.{Root, OnLedger}
use Rattle.std.specs.Str.{bytes_eq}
use Rattle.channel_values.specs.Amounts.{has, aff}
use Rattle.share_laws.specs.Books.{Books}
use Rattle.share_laws.specs.Worth.{Table, affords, with_reach, child, reach_after, part_worth, worth}
use Rattle.call_history.specs.Flows.{is_among}
use Rattle.share_laws.specs.Moved.{gain, lost, spent, Moved, payers, all_payers}
use Rattle.channel_values.specs.Outcomes.{AreApart}
use Rattle.share_laws.proofs.Amounts.{aff-zero}
use Rattle.share_laws.proofs.Apart.{apart-rest, apart-once, among-append}
use Rattle.call_history.proofs.Names.{same_bytes}

cond-below : (t : Bool) (x : ℕ) → cond t x 0 ≤ x
cond-below true x = omega arith
cond-below false x = omega arith

-- each ledger of the table affords what it did, but for what was spent of its items
pub record Kept (b c : Books) (s : List ℕ) (to : Dest) (k : ℕ) (reach after : Table) : Type 0 where
  pub affords : (n : List ℕ) (d : Dest) → affords b n (reach n) d ≤ affords c n (after n) d + spent s to n d k

-- what the person me may lose of items of the payers ps
abbrev pub loss : List ℕ → Dest → ℕ → List ℕ → List (List ℕ) → ℕ
loss s to k me ps = cond (is_among s ps) (gain to (Person me) k) 0

module _ (b c : Books) (f s : List ℕ) (to : Dest) (k : ℕ) (me : List ℕ) (m : Moved b c f s to k) where
  pub Kept-with : (reach after : Table) → Kept b c s to k reach after → (x : List ℕ) (r q : ℕ) →
      ((d : Dest) → affords b x r d ≤ affords c x q d + spent s to x d k) →
      Kept b c s to k (with_reach reach x r) (with_reach after x q)
  Kept-with reach after kept x r q h = record { affords = λ n d. by_test n d (bytes_eq n x) (same_bytes n x) }
    where
      by_test : (n : List ℕ) (d : Dest) (t : Bool) → (t ≡ true → n ≡ x) →
          affords b n (cond t r (reach n)) d ≤ affords c n (cond t q (after n)) d + spent s to n d k
      by_test n d true e =
          subst (λ (y : List ℕ). affords b y r d ≤ affords c y q d + spent s to y d k) (sym (e refl)) (h d)
      by_test n d false e = kept.affords n d

  -- a child's reach falls by no more than it pays itself
  pub child-le : (reach after : Table) → Kept b c s to k reach after → (l x : List ℕ) →
      child b reach l x ≤ child c after l x + lost f x k
  child-le reach after kept l x =
      by_test (has (b.items l) (Channel x)) (has (c.items l) (Channel x)) (m.names l (Channel x))
    where
      by_test : (t u : Bool) → u ≡ t →
          cond t (b.held x + affords b l (reach l) (Channel x)) 0
          ≤ cond u (c.held x + affords c l (after l) (Channel x)) 0 + lost f x k
      by_test true true e =
          let p : b.held x + gain to (Channel x) k ≤ c.held x + lost f x k = m.held x in
          let q : affords b l (reach l) (Channel x) ≤ affords c l (after l) (Channel x) + spent s to l (Channel x) k = kept.affords l (Channel x) in
          let u : spent s to l (Channel x) k ≤ gain to (Channel x) k = cond-below (bytes_eq s l) _ in
          omega arith
      by_test true false e = absurd (false≢true e)
      by_test false true e = absurd (false≢true (sym e))
      by_test false false e = omega arith

  -- what a channel affords, where its reach falls by no more than it pays
  pub affords-from : (x : List ℕ) (r q : ℕ) → (b.held x ≤ r) ⊎ (r ≡ 0) → r ≤ q + lost f x k → (d : Dest) →
      affords b x r d ≤ affords c x q d + spent s to x d k
  affords-from x r q h le d = by_test (b.owed x d) (c.owed x d) (m.opens x d) (plain h)
    where
      plain : (b.held x ≤ r) ⊎ (r ≡ 0) → aff (b.items x) r d ≤ aff (c.items x) q d + spent s to x d k
      plain (inl h) = m.spends x r q h le d
      plain (inr e) = let z : aff (b.items x) r d ≡ 0 = ap (λ (y : ℕ). aff (b.items x) y d) e ∙ aff-zero (b.items x) d in omega arith

      by_test : (t u : Bool) → u ≡ t → aff (b.items x) r d ≤ aff (c.items x) q d + spent s to x d k →
          cond t (aff (b.items x) r d) 0 ≤ cond u (aff (c.items x) q d) 0 + spent s to x d k
      by_test true true e p = p
      by_test true false e p = absurd (false≢true e)
      by_test false u e p = omega arith

  child-held : (reach : Table) (l x : List ℕ) → (b.held x ≤ child b reach l x) ⊎ (child b reach l x ≡ 0)
  child-held reach l x = by_test (has (b.items l) (Channel x))
    where
      by_test : (t : Bool) → (b.held x ≤ cond t (b.held x + affords b l (reach l) (Channel x)) 0)
          ⊎ (cond t (b.held x + affords b l (reach l) (Channel x)) 0 ≡ 0)
      by_test true = inl (omega arith)
      by_test false = inr refl

  pub child-affords : (reach after : Table) → Kept b c s to k reach after → (l x : List ℕ) (d : Dest) →
      affords b x (child b reach l x) d ≤ affords c x (child c after l x) d + spent s to x d k
  child-affords reach after kept l x d =
      affords-from x _ _ (child-held reach l x) (child-le reach after kept l x) d

  root-affords : (x : List ℕ) (d : Dest) → affords b x (b.held x) d ≤ affords c x (c.held x) d + spent s to x d k
  root-affords x d = affords-from x _ _ (inl (omega arith)) (let p : b.held x + gain to (Channel x) k ≤ c.held x + lost f x k = m.held x in omega arith) d

  -- what a part keeps
  pub record PartKept (p : Part) : Type 0 where
    pub worths : (reach after : Table) → Kept b c s to k reach after →
        part_worth b me reach p ≤ part_worth c me after p + loss s to k me (payers p)
    pub tables : (reach after : Table) → Kept b c s to k reach after →
        Kept b c s to k (reach_after b reach p) (reach_after c after p)

  one : (x : List ℕ) → spent s to x (Person me) k ≤ loss s to k me (x ∷ [])
  one x = by_test (bytes_eq s x)
    where
      by_test : (t : Bool) → cond t (gain to (Person me) k) 0 ≤ cond (t || false) (gain to (Person me) k) 0
      by_test true = omega arith
      by_test false = omega arith

  pub Root-kept : (x : List ℕ) → PartKept (Root x)
  Root-kept x = record {
    worths = λ reach after kept. let p = root-affords x (Person me) in let q = one x in omega (arith, p, q);
    tables = λ reach after kept. Kept-with reach after kept x _ _ (root-affords x);
  }

  pub OnLedger-kept : (l x : List ℕ) → PartKept (OnLedger l x)
  OnLedger-kept l x = record {
    worths = λ reach after kept. let p = child-affords reach after kept l x (Person me) in let q = one x in omega (arith, p, q);
    tables = λ reach after kept. Kept-with reach after kept x _ _ (child-affords reach after kept l x);
  }

  -- each part of a list is kept
  abbrev pub AllKept : List Part → Type 0
  AllKept [] = Unit {0}
  AllKept (p ∷ ps) = PartKept p × AllKept ps

loss-append : (s : List ℕ) (to : Dest) (k : ℕ) (me : List ℕ) (xs ys : List (List ℕ)) → AreApart bytes_eq (xs ++ ys) →
    loss s to k me xs + loss s to k me ys ≤ loss s to k me (xs ++ ys)
loss-append s to k me xs ys d =
    by_test (is_among s xs) (is_among s ys) (is_among s (xs ++ ys)) (among-append s xs ys) (apart-once xs ys d s)
  where
    by_test : (t u v : Bool) → v ≡ (t || u) → (t ≡ true → u ≡ false) →
        cond t (gain to (Person me) k) 0 + cond u (gain to (Person me) k) 0 ≤ cond v (gain to (Person me) k) 0
    by_test true true v e a = absurd (false≢true (sym (a refl)))
    by_test true false true e a = omega arith
    by_test true false false e a = absurd (false≢true e)
    by_test false true true e a = omega arith
    by_test false true false e a = absurd (false≢true e)
    by_test false false v e a = omega arith

module _ (b c : Books) (f s : List ℕ) (to : Dest) (k : ℕ) (me : List ℕ) (m : Moved b c f s to k) where
  -- the parts' worth falls by no more than their person is paid
  pub worth-kept : (ps : List Part) (reach after : Table) → AllKept b c f s to k me m ps → AreApart bytes_eq (all_payers ps) →
      Kept b c s to k reach after → worth b me ps reach ≤ worth c me ps after + loss s to k me (all_payers ps)
  worth-kept [] reach after all d kept = omega arith
  worth-kept (p ∷ ps) reach after all d kept =
      let head : part_worth b me reach p ≤ part_worth c me after p + loss s to k me (payers p) = all.0.worths reach after kept in
      let rest : worth b me ps (reach_after b reach p) ≤ worth c me ps (reach_after c after p) + loss s to k me (all_payers ps) =
      worth-kept ps _ _ all.1 (apart-rest (payers p) (all_payers ps) d) (all.0.tables reach after kept) in
      let both : loss s to k me (payers p) + loss s to k me (all_payers ps) ≤ loss s to k me (payers p ++ all_payers ps) =
      loss-append s to k me (payers p) (all_payers ps) d in
      omega arith

  loss-gain : (ps : List (List ℕ)) → loss s to k me ps ≤ gain to (Person me) k
  loss-gain ps = cond-below (is_among s ps) _

  -- paid and worth together never fall
  pub paid-worth : (ps : List Part) (paid now : ℕ) → AllKept b c f s to k me m ps → AreApart bytes_eq (all_payers ps) →
      now ≡ paid + gain to (Person me) k → paid + worth b me ps (λ _. 0) ≤ now + worth c me ps (λ _. 0)
  paid-worth ps paid now all d e =
      let start : Kept b c s to k (λ _. 0) (λ _. 0) = record { affords = λ n x. nothing n x (b.owed n x) (aff-zero (b.items n) x) } in
      let p : worth b me ps (λ _. 0) ≤ worth c me ps (λ _. 0) + loss s to k me (all_payers ps) = worth-kept ps _ _ all d start in
      let q : loss s to k me (all_payers ps) ≤ gain to (Person me) k = loss-gain (all_payers ps) in
      omega arith
    where
      nothing : (n : List ℕ) (x : Dest) (t : Bool) → aff (b.items n) 0 x ≡ 0 → cond t (aff (b.items n) 0 x) 0 ≤ affords c n 0 x + spent s to n x k
      nothing n x true e = omega arith
      nothing n x false e = omega arith
