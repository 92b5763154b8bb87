-- Where channels start to count or become final by an outcome that is no worse, the parts are worth no less.
use Rattle.std.proofs.Common.{◌≡◌, ℕ, ◌+◌, ◌-◌, ◌≤◌, min, max, Bool, true, false, ◌||◌, List, [], ◌∷◌, refl, sym, ◌∙◌, ap, subst, arith, cond, inl, inr, ◌⊎◌}
use Rattle.std.proofs.lemmas.Bool.{false≢true}
use Rattle.std.proofs.lemmas.Slice.Eq.{bytes_eq-Decides}
use Rattle.channel_values.specs.declared.value.Dest.{Dest}
use Rattle.channel_values.specs.declared.value.Dest.TheVariants.{Person, Channel}
use Rattle.channel_values.specs.declared.value.Item.{Item}
use Rattle.funding_plans.specs.Parts.{own_ledger, own_guarantor}
use Rattle.funding_plans.specs.declared.plan.Part.{Part}
use Rattle.funding_plans.specs.declared.plan.Part.TheVariants.{Root, OnLedger, End, Middle}
use Rattle.funding_plans.specs.declared.plan.Virtual.{Virtual}
use Rattle.std.specs.Str.{bytes_eq}
use Rattle.channel_values.specs.Amounts.{amt, has, aff}
use Rattle.share_laws.specs.Books.{Books}
use Rattle.share_laws.specs.Worth.{Table, affords, claim, own_claim, with_reach, child, guarantor, virtual, end_reach, reach_after, second_amt, middle_worth, part_worth, worth}
use Rattle.call_history.specs.Flows.{is_among}
use Rattle.share_laws.specs.Bases.{all_bases}
use Rattle.share_laws.proofs.Follow.{InOrder, Better}
use Rattle.share_laws.proofs.Amounts.{aff-mono}

-- the names `on` have each base of the parts
abbrev pub Within : List (List ℕ) → List Part → Type 0
Within on [] = Unit {0}
Within on (Root c ∷ ps) = Within on ps
Within on (OnLedger l c ∷ ps) = (is_among l on ≡ true) × Within on ps
Within on (End v ∷ ps) = (is_among (own_ledger v) on ≡ true) × (is_among v.joint on ≡ true) × Within on ps
Within on (Middle v ∷ ps) = (is_among v.ledger_a on ≡ true) × (is_among v.ledger_b on ≡ true) × (is_among v.joint on ≡ true) × Within on ps

abbrev pub AllAmong : List (List ℕ) → List (List ℕ) → Type 0
AllAmong on [] = Unit {0}
AllAmong on (n ∷ ns) = (is_among n on ≡ true) × AllAmong on ns

AllAmong-more : (on ns : List (List ℕ)) (m : List ℕ) → AllAmong on ns → AllAmong (m ∷ on) ns
AllAmong-more on [] m h = tt
AllAmong-more on (n ∷ ns) m h = (later (bytes_eq n m) (is_among n on) h.0, AllAmong-more on ns m h.1)
  where
    later : (t u : Bool) → u ≡ true → (t || u) ≡ true
    later true u e = refl
    later false u e = e

AllAmong-self : (ns : List (List ℕ)) → AllAmong ns ns
AllAmong-self [] = tt
AllAmong-self (n ∷ ns) =
    (ap (λ (t : Bool). t || is_among n ns) ((bytes_eq-Decides n n).1 refl), AllAmong-more ns ns n (AllAmong-self ns))

within : (on : List (List ℕ)) (ps : List Part) → AllAmong on (all_bases ps) → Within on ps
within on [] h = tt
within on (Root c ∷ ps) h = within on ps h
within on (OnLedger l c ∷ ps) h = (h.0, within on ps h.1)
within on (End v ∷ ps) h = (h.0, h.1.0, within on ps h.1.1)
within on (Middle v ∷ ps) h = (h.0, h.1.0, h.1.1.0, within on ps h.1.1.1)

pub within-bases : (ps : List Part) → Within (all_bases ps) ps
within-bases ps = within (all_bases ps) ps (AllAmong-self (all_bases ps))

-- a guarantor of an intermediary: its reach grows over one list, or it starts to count, by which both numbers were 0
abbrev pub Side : (a r a' r' : ℕ) → Type 0
Side a r a' r' = ((a' ≡ a) × (r ≤ r')) ⊎ ((a ≡ 0) × (r ≡ 0))

pub middle_grows : (s t u : Bool) (own x a b r q a' b' r' q' : ℕ) → Side a r a' r' → Side b q b' q' →
    (s ≡ true → (t ≡ true) × (u ≡ true)) →
    middle_worth s t u own x a b r q ≤ middle_worth s t u own x a' b' r' q'
middle_grows s t u own x a b r q a' b' r' q' p k order =
    let i : r - (x + a) ≤ r' - (x + a') = one p in
    let j : q - (x + b) ≤ q' - (x + b') = other k in
    by_tests s t u order i j (all p k i j)
  where
    one : Side a r a' r' → r - (x + a) ≤ r' - (x + a')
    one (inl e) = let e0 = e.0 in let e1 = e.1 in omega (arith, e0, e1)
    one (inr e) = let e0 = e.0 in let e1 = e.1 in omega (arith, e0, e1)

    other : Side b q b' q' → q - (x + b) ≤ q' - (x + b')
    other (inl e) = let e0 = e.0 in let e1 = e.1 in omega (arith, e0, e1)
    other (inr e) = let e0 = e.0 in let e1 = e.1 in omega (arith, e0, e1)

    -- the first sum doesn't fall, or is no more than the second one after
    all : Side a r a' r' → Side b q b' q' → r - (x + a) ≤ r' - (x + a') → q - (x + b) ≤ q' - (x + b') →
        (r + q) - (x + a + b) ≤ max ((r' + q') - (x + a' + b')) ((r' - (x + a')) + (q' - (x + b')))
    all (inl e) (inl g) i j = let e0 = e.0 in let e1 = e.1 in let g0 = g.0 in let g1 = g.1 in omega (arith, e0, e1, g0, g1, i, j)
    all (inl e) (inr g) i j = let e0 = e.0 in let e1 = e.1 in let g0 = g.0 in let g1 = g.1 in omega (arith, e0, e1, g0, g1, i, j)
    all (inr e) (inl g) i j = let e0 = e.0 in let e1 = e.1 in let g0 = g.0 in let g1 = g.1 in omega (arith, e0, e1, g0, g1, i, j)
    all (inr e) (inr g) i j = let e0 = e.0 in let e1 = e.1 in let g0 = g.0 in let g1 = g.1 in omega (arith, e0, e1, g0, g1, i, j)

    by_tests : (s t u : Bool) → (s ≡ true → (t ≡ true) × (u ≡ true)) →
        r - (x + a) ≤ r' - (x + a') → q - (x + b) ≤ q' - (x + b') →
        (r + q) - (x + a + b) ≤ max ((r' + q') - (x + a' + b')) ((r' - (x + a')) + (q' - (x + b'))) →
        middle_worth s t u own x a b r q ≤ middle_worth s t u own x a' b' r' q'
    by_tests true true true o i j m = omega arith
    by_tests true true false o i j m = absurd (false≢true (o refl).1)
    by_tests true false u o i j m = absurd (false≢true (o refl).0)
    by_tests false true true o i j m = omega arith
    by_tests false true false o i j m = omega arith
    by_tests false false true o i j m = omega arith
    by_tests false false false o i j m = omega arith

module _ (me : List ℕ) (on : List (List ℕ)) (b c : Books) (m : Better me on b c) where
  -- each ledger affords no less
  pub record Ledgers (reach after : Table) : Type 0 where
    pub affords : (n : List ℕ) → is_among n on ≡ true → (d : Dest) → affords b n (reach n) d ≤ affords c n (after n) d

  -- a test that stays: at the same test the second is no less
  same-test : (t u : Bool) → u ≡ t → (x y : ℕ) → x ≤ y → cond t x 0 ≤ cond u y 0
  same-test true true e x y h = h
  same-test true false e x y h = absurd (false≢true e)
  same-test false u e x y h = omega arith

  ledger-affords : (n : List ℕ) → is_among n on ≡ true → (r q : ℕ) → r ≤ q → (d : Dest) → affords b n r d ≤ affords c n q d
  ledger-affords n h r q le d = same-test (b.owed n d) (c.owed n d) (m.opens n d) _ _ (by_bases (m.bases n h))
    where
      by_bases : (b.items n ≡ []) ⊎ (c.items n ≡ b.items n) → aff (b.items n) r d ≤ aff (c.items n) q d
      by_bases (inl e) = let z : aff (b.items n) r d ≡ 0 = ap (λ (xs : List Item). aff xs r d) e in omega arith
      by_bases (inr e) =
          let p : aff (b.items n) r d ≤ aff (b.items n) q d = aff-mono (b.items n) r q d le in
          let i : aff (c.items n) q d ≡ aff (b.items n) q d = ap (λ (xs : List Item). aff xs q d) e in omega arith

  own-affords : (n : List ℕ) (r q : ℕ) → r ≤ q → affords b n r (Person me) ≤ affords c n q (Person me)
  own-affords n r q le =
      let p : aff (b.items n) r (Person me) ≤ aff (c.items n) r (Person me) = m.own n r in
      let i : aff (c.items n) r (Person me) ≤ aff (c.items n) q (Person me) = aff-mono (c.items n) r q (Person me) le in
      same-test (b.owed n (Person me)) (c.owed n (Person me)) (m.opens n (Person me)) _ _ (omega arith)

  Ledgers-with : (reach after : Table) → Ledgers reach after → (x : List ℕ) (r q : ℕ) → r ≤ q →
      Ledgers (with_reach reach x r) (with_reach after x q)
  Ledgers-with reach after t x r q le = record { affords = λ n h d. by_test n h d (bytes_eq n x) }
    where
      by_test : (n : List ℕ) → is_among n on ≡ true → (d : Dest) (u : Bool) → affords b n (cond u r (reach n)) d ≤ affords c n (cond u q (after n)) d
      by_test n h d true = ledger-affords n h r q le d
      by_test n h d false = t.affords n h d

  child-grows : (reach after : Table) → Ledgers reach after → (l x : List ℕ) → is_among l on ≡ true → child b reach l x ≤ child c after l x
  child-grows reach after t l x h = by_bases (m.bases l h)
    where
      by_bases : (b.items l ≡ []) ⊎ (c.items l ≡ b.items l) →
          cond (has (b.items l) (Channel x)) (b.held x + affords b l (reach l) (Channel x)) 0
          ≤ cond (has (c.items l) (Channel x)) (c.held x + affords c l (after l) (Channel x)) 0
      by_bases (inl e) =
          let z : cond (has (b.items l) (Channel x)) (b.held x + affords b l (reach l) (Channel x)) 0 ≡ 0 =
          ap (λ (xs : List Item). cond (has xs (Channel x)) (b.held x + affords b l (reach l) (Channel x)) 0) e in omega arith
      by_bases (inr e) =
          let p : affords b l (reach l) (Channel x) ≤ affords c l (after l) (Channel x) = t.affords l h (Channel x) in
          let q : b.held x ≤ c.held x = m.held x in
          same-test (has (b.items l) (Channel x)) (has (c.items l) (Channel x)) (ap (λ (xs : List Item). has xs (Channel x)) e) _ _ (omega arith)

  guarantor-grows : (reach after : Table) → Ledgers reach after → (l g : List ℕ) (total : ℕ) → is_among l on ≡ true →
      guarantor b reach l g total ≤ guarantor c after l g total
  guarantor-grows reach after t l g total h = by_test (b.counts g) (c.counts g) (m.counts g) (child-grows reach after t l g h)
    where
      by_test : (u v : Bool) → (u ≡ false) ⊎ (v ≡ true) → child b reach l g ≤ child c after l g →
          cond u (min (child b reach l g) total) 0 ≤ cond v (min (child c after l g) total) 0
      by_test true true e le = omega arith
      by_test true false (inl e) le = absurd (false≢true (sym e))
      by_test true false (inr e) le = absurd (false≢true e)
      by_test false v e le = omega arith

  virtual-grows : (g j x : List ℕ) → is_among j on ≡ true → (r q : ℕ) → r ≤ q → virtual b g j x r ≤ virtual c g j x q
  virtual-grows g j x h r q le = by_bases (m.bases j h)
    where
      by_bases : (b.items j ≡ []) ⊎ (c.items j ≡ b.items j) →
          cond (has (b.items j) (Channel x)) (b.held x + claim b g j x r) 0 ≤ cond (has (c.items j) (Channel x)) (c.held x + claim c g j x q) 0
      by_bases (inl e) =
          let z : cond (has (b.items j) (Channel x)) (b.held x + claim b g j x r) 0 ≡ 0 =
          ap (λ (xs : List Item). cond (has xs (Channel x)) (b.held x + claim b g j x r) 0) e in omega arith
      by_bases (inr e) =
          let held : b.held x ≤ c.held x = m.held x in
          let a : amt (c.items j) (Channel x) ≡ amt (b.items j) (Channel x) = ap (λ (xs : List Item). amt xs (Channel x)) e in
          let p : claim b g j x r ≤ claim c g j x q =
          same-test (b.owed g (Channel x)) (c.owed g (Channel x)) (m.opens g (Channel x))
          (min (amt (b.items j) (Channel x)) r) (min (amt (c.items j) (Channel x)) q) (omega arith) in
          same-test (has (b.items j) (Channel x)) (has (c.items j) (Channel x)) (ap (λ (xs : List Item). has xs (Channel x)) e) _ _ (omega arith)

  own_claim-grows : (g j x : List ℕ) → is_among j on ≡ true → (r q : ℕ) → r ≤ q → own_claim b me g j x r ≤ own_claim c me g j x q
  own_claim-grows g j x h r q le = same-test (b.owed g (Person me)) (c.owed g (Person me)) (m.opens g (Person me)) _ _ (by_bases (m.bases j h))
    where
      by_bases : (b.items j ≡ []) ⊎ (c.items j ≡ b.items j) →
          min (amt (b.items j) (Person me)) (r - amt (b.items j) (Channel x)) ≤ min (amt (c.items j) (Person me)) (q - amt (c.items j) (Channel x))
      by_bases (inl e) = let z : amt (b.items j) (Person me) ≡ 0 = ap (λ (xs : List Item). amt xs (Person me)) e in omega arith
      by_bases (inr e) =
          let a : amt (c.items j) (Channel x) ≡ amt (b.items j) (Channel x) = ap (λ (xs : List Item). amt xs (Channel x)) e in
          let p : amt (c.items j) (Person me) ≡ amt (b.items j) (Person me) = ap (λ (xs : List Item). amt xs (Person me)) e in
          omega arith

  -- one side of an intermediary, over the same joint items
  side : (reach after : Table) → Ledgers reach after → (l g : List ℕ) (total : ℕ) (xs : List Item) → is_among l on ≡ true →
      Side (second_amt xs (b.list g)) (guarantor b reach l g total) (second_amt xs (c.list g)) (guarantor c after l g total)
  side reach after t l g total xs h = by_list (m.lists g)
    where
      by_list : ((b.counts g ≡ false) × (b.list g ≡ [])) ⊎ (c.list g ≡ b.list g) →
          Side (second_amt xs (b.list g)) (guarantor b reach l g total) (second_amt xs (c.list g)) (guarantor c after l g total)
      by_list (inl e) = inr (ap (λ (ds : List Dest). second_amt xs ds) e.1, ap (λ (u : Bool). cond u (min (child b reach l g) total) 0) e.0)
      by_list (inr e) = inl (ap (λ (ds : List Dest). second_amt xs ds) e, guarantor-grows reach after t l g total h)

  middle-part : (v : Virtual) (reach after : Table) → Ledgers reach after →
      is_among v.ledger_a on ≡ true → is_among v.ledger_b on ≡ true → is_among v.joint on ≡ true →
      (b.owed v.guarantor_a (Channel v.channel) ≡ true → (b.owed v.guarantor_a (Person me) ≡ true) × (b.owed v.guarantor_b (Person me) ≡ true)) →
      part_worth b me reach (Middle v) ≤ part_worth c me after (Middle v)
  middle-part v reach after t ha hb hj order = by_bases (m.bases v.joint hj)
    where
      now : List Item → Bool → Bool → Bool → ℕ
      now xs s p u = middle_worth s p u (amt xs (Person me)) (amt xs (Channel v.channel))
          (second_amt xs (c.list v.guarantor_a)) (second_amt xs (c.list v.guarantor_b))
          (guarantor c after v.ledger_a v.guarantor_a v.total) (guarantor c after v.ledger_b v.guarantor_b v.total)

      same : now (b.items v.joint) (b.owed v.guarantor_a (Channel v.channel)) (b.owed v.guarantor_a (Person me)) (b.owed v.guarantor_b (Person me))
          ≡ now (b.items v.joint) (c.owed v.guarantor_a (Channel v.channel)) (c.owed v.guarantor_a (Person me)) (c.owed v.guarantor_b (Person me))
      same =
          ap (λ (z : Bool). now (b.items v.joint) z (b.owed v.guarantor_a (Person me)) (b.owed v.guarantor_b (Person me))) (sym (m.opens v.guarantor_a (Channel v.channel)))
          ∙ ap (λ (z : Bool). now (b.items v.joint) (c.owed v.guarantor_a (Channel v.channel)) z (b.owed v.guarantor_b (Person me))) (sym (m.opens v.guarantor_a (Person me)))
          ∙ ap (λ (z : Bool). now (b.items v.joint) (c.owed v.guarantor_a (Channel v.channel)) (c.owed v.guarantor_a (Person me)) z) (sym (m.opens v.guarantor_b (Person me)))

      by_bases : (b.items v.joint ≡ []) ⊎ (c.items v.joint ≡ b.items v.joint) →
          part_worth b me reach (Middle v) ≤ part_worth c me after (Middle v)
      by_bases (inl e) = let z : amt (b.items v.joint) (Person me) ≡ 0 = ap (λ (xs : List Item). amt xs (Person me)) e in omega arith
      by_bases (inr e) =
          let grown : part_worth b me reach (Middle v) ≤
          now (b.items v.joint) (b.owed v.guarantor_a (Channel v.channel)) (b.owed v.guarantor_a (Person me)) (b.owed v.guarantor_b (Person me)) =
          middle_grows (b.owed v.guarantor_a (Channel v.channel)) (b.owed v.guarantor_a (Person me)) (b.owed v.guarantor_b (Person me)) _ _ _ _ _ _ _ _ _ _
          (side reach after t v.ledger_a v.guarantor_a v.total (b.items v.joint) ha)
          (side reach after t v.ledger_b v.guarantor_b v.total (b.items v.joint) hb) order in
          subst (λ (xs : List Item). part_worth b me reach (Middle v) ≤
          now xs (c.owed v.guarantor_a (Channel v.channel)) (c.owed v.guarantor_a (Person me)) (c.owed v.guarantor_b (Person me))) (sym e)
          (subst (λ (n : ℕ). part_worth b me reach (Middle v) ≤ n) same grown)

  pub worth-grows : (ps : List Part) (reach after : Table) → Within on ps → InOrder b me ps → Ledgers reach after →
      worth b me ps reach ≤ worth c me ps after
  worth-grows [] reach after w o t = omega arith
  worth-grows (Root x ∷ ps) reach after w o t =
      let le : b.held x ≤ c.held x = m.held x in
      let p : affords b x (b.held x) (Person me) ≤ affords c x (c.held x) (Person me) = own-affords x _ _ le in
      let q : worth b me ps (with_reach reach x (b.held x)) ≤ worth c me ps (with_reach after x (c.held x)) =
      worth-grows ps _ _ w o (Ledgers-with reach after t x _ _ le) in
      omega arith
  worth-grows (OnLedger l x ∷ ps) reach after w o t =
      let le : child b reach l x ≤ child c after l x = child-grows reach after t l x w.0 in
      let p : affords b x (child b reach l x) (Person me) ≤ affords c x (child c after l x) (Person me) = own-affords x _ _ le in
      let q : worth b me ps (with_reach reach x (child b reach l x)) ≤ worth c me ps (with_reach after x (child c after l x)) =
      worth-grows ps _ _ w.1 o (Ledgers-with reach after t x _ _ le) in
      omega arith
  worth-grows (End v ∷ ps) reach after w o t =
      let g : end_reach b reach v ≤ end_reach c after v = guarantor-grows reach after t (own_ledger v) (own_guarantor v) v.total w.0 in
      let le : virtual b (own_guarantor v) v.joint v.channel (end_reach b reach v) ≤ virtual c (own_guarantor v) v.joint v.channel (end_reach c after v) =
      virtual-grows (own_guarantor v) v.joint v.channel w.1 _ _ g in
      let p : affords b v.channel (virtual b (own_guarantor v) v.joint v.channel (end_reach b reach v)) (Person me)
      ≤ affords c v.channel (virtual c (own_guarantor v) v.joint v.channel (end_reach c after v)) (Person me) = own-affords v.channel _ _ le in
      let i : own_claim b me (own_guarantor v) v.joint v.channel (end_reach b reach v) ≤ own_claim c me (own_guarantor v) v.joint v.channel (end_reach c after v) =
      own_claim-grows (own_guarantor v) v.joint v.channel w.1 _ _ g in
      let q : worth b me ps (reach_after b reach (End v)) ≤ worth c me ps (reach_after c after (End v)) =
      worth-grows ps _ _ w.2 o (Ledgers-with reach after t v.channel _ _ le) in
      omega arith
  worth-grows (Middle v ∷ ps) reach after w o t =
      let p : part_worth b me reach (Middle v) ≤ part_worth c me after (Middle v) = middle-part v reach after t w.0 w.1 w.2 o.0 in
      let q : worth b me ps reach ≤ worth c me ps after = worth-grows ps _ _ w.3 o.1 t in
      omega arith
