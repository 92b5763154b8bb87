use Rattle.std.proofs.Common.{◌≡◌, ℕ, ◌+◌, ◌≤◌, min, Bool, true, false, ◌||◌, List, [], ◌∷◌, refl, sym, ◌∙◌, ap, subst, arith, cond, inl, inr, ◌⊎◌}
use Rattle.std.proofs.lemmas.Bool.{false≢true}
use Rattle.std.proofs.lemmas.Slice.Eq.{bytes_eq-Decides}
use Rattle.channel_values.specs.declared.value.Dest.{Dest}
use Rattle.channel_values.specs.declared.value.Dest.TheVariants.{Person, Channel}
use Rattle.channel_values.specs.declared.value.Item.{Item}
use Rattle.funding_plans.specs.declared.plan.Part.TheVariants.{Middle}
use Rattle.funding_plans.specs.declared.plan.Virtual.{Virtual}
use Rattle.std.specs.Str.{bytes_eq}
use Rattle.channel_values.specs.Outcomes.{is_same}
use Rattle.channel_values.specs.Amounts.{amt}
use Rattle.share_laws.specs.Books.{Books}
use Rattle.share_laws.specs.Worth.{Table, child, guarantor, second_amt, middle_worth, part_worth}
use Rattle.share_laws.specs.Moved.{gain, lost, spent, Moved}
use Rattle.share_laws.proofs.Numbers.{middle_falls_a, middle_falls_b}
use Rattle.share_laws.proofs.Kept.{Kept, PartKept, loss, child-le}

-- what the second destination of a list gains
abbrev pub second_gain : Dest → List Dest → ℕ → ℕ
second_gain to [] k = 0
second_gain to (d ∷ []) k = 0
second_gain to (d ∷ e ∷ ds) k = gain to e k

-- g doesn't pay, or doesn't count
abbrev pub Idle : Books → List ℕ → ℕ → List ℕ → Type 0
Idle b f k g = (lost f g k ≡ 0) ⊎ (b.counts g ≡ false)

-- none of an intermediary's guarantors that count pays; or one does, for an item of the joint channel that its list
-- names, and the item falls by what is paid
pub data MiddlePays (b c : Books) (f s : List ℕ) (to : Dest) (k : ℕ) (me : List ℕ) (v : Virtual) : Type 0 where
  other : Idle b f k v.guarantor_a → Idle b f k v.guarantor_b → MiddlePays b c f s to k me v
  empty : b.items v.joint ≡ [] → MiddlePays b c f s to k me v
  from_a : s ≡ v.joint → lost f v.guarantor_b k ≡ 0 →
      ((d : Dest) → amt (c.items v.joint) d + gain to d k ≤ amt (b.items v.joint) d) →
      k ≤ gain to (Channel v.channel) k + second_gain to (b.list v.guarantor_a) k + gain to (Person me) k → MiddlePays b c f s to k me v
  from_b : s ≡ v.joint → lost f v.guarantor_a k ≡ 0 →
      ((d : Dest) → amt (c.items v.joint) d + gain to d k ≤ amt (b.items v.joint) d) →
      k ≤ gain to (Channel v.channel) k + second_gain to (b.list v.guarantor_b) k + gain to (Person me) k → MiddlePays b c f s to k me v

module _ (b c : Books) (f s : List ℕ) (to : Dest) (k : ℕ) (me : List ℕ) (m : Moved b c f s to k) where
  guarantor-lost : (reach after : Table) → Kept b c s to k reach after → (l g : List ℕ) (total : ℕ) →
      guarantor b reach l g total ≤ guarantor c after l g total + lost f g k
  guarantor-lost reach after kept l g total =
      by_test (b.counts g) (c.counts g) (m.counts g) (child-le b c f s to k me m reach after kept l g)
    where
      by_test : (t u : Bool) → u ≡ t → child b reach l g ≤ child c after l g + lost f g k →
          cond t (min (child b reach l g) total) 0 ≤ cond u (min (child c after l g) total) 0 + lost f g k
      by_test true true e le = omega arith
      by_test true false e le = absurd (false≢true e)
      by_test false u e le = omega arith

  guarantor-idle : (reach after : Table) → Kept b c s to k reach after → (l g : List ℕ) (total : ℕ) → Idle b f k g →
      guarantor b reach l g total ≤ guarantor c after l g total
  guarantor-idle reach after kept l g total (inl none) =
      let r = guarantor-lost reach after kept l g total in omega (arith, r, none)
  guarantor-idle reach after kept l g total (inr out) =
      let z : guarantor b reach l g total ≡ 0 = ap (λ (t : Bool). cond t (min (child b reach l g) total) 0) out in omega (arith, z)

  second-falls : (j g : List ℕ) → second_amt (c.items j) (c.list g) ≤ second_amt (b.items j) (b.list g)
  second-falls j g = subst (λ (ds : List Dest). second_amt (c.items j) ds ≤ second_amt (b.items j) (b.list g)) (sym (m.lists g)) (each (b.list g))
    where
      each : (ds : List Dest) → second_amt (c.items j) ds ≤ second_amt (b.items j) ds
      each [] = omega arith
      each (d ∷ []) = omega arith
      each (d ∷ e ∷ ds) = m.falls j e

  second-exact : (j g : List ℕ) → ((d : Dest) → amt (c.items j) d + gain to d k ≤ amt (b.items j) d) →
      second_amt (c.items j) (c.list g) + second_gain to (b.list g) k ≤ second_amt (b.items j) (b.list g)
  second-exact j g exact = subst (λ (ds : List Dest). second_amt (c.items j) ds + second_gain to (b.list g) k ≤ second_amt (b.items j) (b.list g)) (sym (m.lists g)) (each (b.list g))
    where
      each : (ds : List Dest) → second_amt (c.items j) ds + second_gain to ds k ≤ second_amt (b.items j) ds
      each [] = omega arith
      each (d ∷ []) = omega arith
      each (d ∷ e ∷ ds) = exact e

  alone : (j : List ℕ) → spent s to j (Person me) k ≤ loss s to k me (j ∷ [])
  alone j = by_test (bytes_eq s j)
    where
      by_test : (t : Bool) → cond t (gain to (Person me) k) 0 ≤ cond (t || false) (gain to (Person me) k) 0
      by_test true = omega arith
      by_test false = omega arith

  gain-le : (d : Dest) → gain to d k ≤ k
  gain-le d = by_test (is_same to d)
    where
      by_test : (t : Bool) → cond t k 0 ≤ k
      by_test true = omega arith
      by_test false = omega arith

  lost-le : (n : List ℕ) → lost f n k ≤ k
  lost-le n = by_test (bytes_eq f n)
    where
      by_test : (t : Bool) → cond t k 0 ≤ k
      by_test true = omega arith
      by_test false = omega arith

  -- the worth after, by these tests
  abbrev under : Virtual → (reach after : Table) → (o p q : Bool) → ℕ
  under v reach after o p q =
      middle_worth o p q (amt (c.items v.joint) (Person me)) (amt (c.items v.joint) (Channel v.channel))
      (second_amt (c.items v.joint) (c.list v.guarantor_a)) (second_amt (c.items v.joint) (c.list v.guarantor_b))
      (guarantor c after v.ledger_a v.guarantor_a v.total) (guarantor c after v.ledger_b v.guarantor_b v.total)

  pub Middle-kept : (v : Virtual) → MiddlePays b c f s to k me v → PartKept b c f s to k me m (Middle v)
  Middle-kept v pays = record {
    worths = λ reach after kept.
        let p : part_worth b me reach (Middle v) ≤ under v reach after (b.owed v.guarantor_a (Channel x)) (b.owed v.guarantor_a (Person me)) (b.owed v.guarantor_b (Person me)) + spent s to j (Person me) k = falls reach after kept pays in
        let e = same reach after in
        let o = alone j in
        omega (arith, p, e, o);
    tables = λ reach after kept. kept;
  }
    where
      j : List ℕ
      j = v.joint

      x : List ℕ
      x = v.channel

      ga : List ℕ
      ga = v.guarantor_a

      gb : List ℕ
      gb = v.guarantor_b

      same : (reach after : Table) → under v reach after (b.owed ga (Channel x)) (b.owed ga (Person me)) (b.owed gb (Person me)) ≡ part_worth c me after (Middle v)
      same reach after =
          ap (λ (o : Bool). under v reach after o (b.owed ga (Person me)) (b.owed gb (Person me))) (sym (m.opens ga (Channel x)))
          ∙ ap (λ (o : Bool). under v reach after (c.owed ga (Channel x)) o (b.owed gb (Person me))) (sym (m.opens ga (Person me)))
          ∙ ap (λ (o : Bool). under v reach after (c.owed ga (Channel x)) (c.owed ga (Person me)) o) (sym (m.opens gb (Person me)))

      here : s ≡ j → spent s to j (Person me) k ≡ gain to (Person me) k
      here is = ap (λ (n : List ℕ). cond (bytes_eq n j) (gain to (Person me) k) 0) is
          ∙ ap (λ (t : Bool). cond t (gain to (Person me) k) 0) ((bytes_eq-Decides j j).1 refl)

      falls : (reach after : Table) → Kept b c s to k reach after → MiddlePays b c f s to k me v →
          part_worth b me reach (Middle v) ≤ under v reach after (b.owed ga (Channel x)) (b.owed ga (Person me)) (b.owed gb (Person me)) + spent s to j (Person me) k
      falls reach after kept (other na nb) =
          let ra = guarantor-idle reach after kept v.ledger_a ga v.total na in
          let rb = guarantor-idle reach after kept v.ledger_b gb v.total nb in
          middle_falls_a _ _ _ _ _ _ _ _ _ _ _ _ _ _ _ 0 0 0 _ (omega (arith, ra)) (omega (arith, rb))
          (let y = m.falls j (Channel x) in omega (arith, y)) (let y = second-falls j ga in omega (arith, y)) (second-falls j gb)
          (m.amounts j (Person me)) (omega arith)
      falls reach after kept (empty e) =
          let z : amt (b.items v.joint) (Person me) ≡ 0 = ap (λ (xs : List Item). amt xs (Person me)) e in omega arith
      falls reach after kept (from_a is nb exact listed) =
          let ra = guarantor-lost reach after kept v.ledger_a ga v.total in
          let rb = guarantor-lost reach after kept v.ledger_b gb v.total in
          let la = lost-le ga in
          middle_falls_a _ _ _ _ _ _ _ _ _ _ _ _ _ _ _ k (gain to (Channel x) k) (second_gain to (b.list ga) k) _ (omega (arith, ra, la)) (omega (arith, rb, nb))
          (exact (Channel x)) (second-exact j ga exact) (second-falls j gb) (m.amounts j (Person me))
          (let h = here is in omega (arith, listed, h))
      falls reach after kept (from_b is na exact listed) =
          let ra = guarantor-lost reach after kept v.ledger_a ga v.total in
          let rb = guarantor-lost reach after kept v.ledger_b gb v.total in
          let lb = lost-le gb in
          middle_falls_b _ _ _ _ _ _ _ _ _ _ _ _ _ _ _ k (gain to (Channel x) k) (second_gain to (b.list gb) k) _ (omega (arith, ra, na)) (omega (arith, rb, lb))
          (exact (Channel x)) (second-falls j ga) (second-exact j gb exact) (m.amounts j (Person me))
          (let h = here is in omega (arith, listed, h))
