-- A call that has nothing left may be closed: what its edge pays counts no more, and the worth doesn't fall.
use Rattle.std.proofs.Common.{◌≡◌, ℕ, zero, suc, ◌+◌, ◌-◌, ◌≤◌, min, max, Bool, true, false, ◌||◌, ◌&&◌, List, [], ◌∷◌, refl, sym, ◌∙◌, ap, subst, arith, cond, inl, inr, ◌⊎◌}
use Rattle.std.proofs.lemmas.Bool.{false≢true}
use Rattle.std.specs.Str.{bytes_eq}
use Rattle.channel_values.specs.Outcomes.{is_same}
use Rattle.channel_values.specs.declared.value.Dest.{Dest}
use Rattle.channel_values.specs.declared.value.Dest.TheVariants.{Person, Channel}
use Rattle.call_history.proofs.Names.{same_bytes}
use Rattle.funding_plans.specs.declared.plan.Part.{Part}
use Rattle.funding_plans.specs.declared.plan.Part.TheVariants.{Root, OnLedger, End, Middle}
use Rattle.funding_plans.specs.declared.plan.Virtual.{Virtual}
use Rattle.channel_values.specs.Amounts.{amt, has, aff}
use Rattle.share_laws.specs.Books.{Books}
use Rattle.share_laws.specs.Worth.{Table, affords, child, guarantor, claim, own_claim, virtual, end_reach, second_amt, middle_worth, with_reach, part_worth, worth}
use Rattle.funding_plans.specs.Parts.{own_ledger, own_guarantor}
use Rattle.share_laws.proofs.Amounts.{aff-zero, aff-mono}
use Rattle.channel_exits.proofs.Edges.{Edge, payer, payee, is_shut, still, shut}

-- an amount that is 0 where it is closed now
closing : (hit u : Bool) (m n : ℕ) → m ≤ n → (hit ≡ true → m ≡ 0) → cond (still u) m 0 ≤ cond (still (hit || u)) n 0
closing true true m n le z = omega arith
closing true false m n le z = let e = z refl in omega (arith, e)
closing false true m n le z = omega arith
closing false false m n le z = le

-- an amount of an intermediary, which its own item bounds
dropping : (hit u : Bool) (own m n : ℕ) → m ≤ n → (hit ≡ true → min own m ≡ 0) →
    (cond (still u) m 0 ≤ cond (still (hit || u)) n 0) ⊎ (own ≡ 0)
dropping true true own m n le z = inl (omega arith)
dropping true false own m n le z = zero_of own m (z refl)
  where
    zero_of : (own m : ℕ) → min own m ≡ 0 → (m ≤ 0) ⊎ (own ≡ 0)
    zero_of zero m e = inr refl
    zero_of (suc own) zero e = inl (omega arith)
    zero_of (suc own) (suc m) e = absurd (omega arith)
dropping false true own m n le z = inl (omega arith)
dropping false false own m n le z = inl le

both : (own s s' t t' u u' : ℕ) → s ≤ s' → (t ≤ t') ⊎ (own ≡ 0) → (u ≤ u') ⊎ (own ≡ 0) → min own (max s (t + u)) ≤ min own (max s' (t' + u'))
both own s s' t t' u u' p (inl q) (inl r) = omega arith
both own s s' t t' u u' p (inl q) (inr r) = omega arith
both own s s' t t' u u' p (inr q) r = omega arith

-- an intermediary, whose tests s, t and u say what was closed before, and i, j and k what is closed now
middle_closed : (i j k s t u : Bool) (own x a b r r' q q' : ℕ) → r ≤ r' → q ≤ q' →
    (i ≡ true → (j ≡ false) × (k ≡ false) × (t ≡ false) × (u ≡ false) × (min x r ≡ 0)) →
    (j ≡ true → min own (r - (x + a)) ≡ 0) → (k ≡ true → min own (q - (x + b)) ≡ 0) →
    middle_worth (still s) (still t) (still u) own x a b r q ≤ middle_worth (still (i || s)) (still (j || t)) (still (k || u)) own x a b r' q'
middle_closed false j k s t u own x a b r r' q q' le me f g h =
    both own _ _ _ _ _ _ (closing false s _ _ (omega arith) (λ e. absurd (false≢true e)))
    (dropping j t own _ _ (omega arith) g) (dropping k u own _ _ (omega arith) h)
middle_closed true false false true false false own x a b r r' q q' le me f g h = omega arith
middle_closed true false false false false false own x a b r r' q q' le me f g h = let e = (f refl).4 in omega (arith, e)
middle_closed true true k s t u own x a b r r' q q' le me f g h = absurd (false≢true (sym (f refl).0))
middle_closed true j true s t u own x a b r r' q q' le me f g h = absurd (false≢true (sym (f refl).1))
middle_closed true j k s true u own x a b r r' q q' le me f g h = absurd (false≢true (sym (f refl).2))
middle_closed true j k s t true own x a b r r' q q' le me f g h = absurd (false≢true (sym (f refl).3))

-- a guarantor whose ledger has paid it reaches no more than it holds, and nothing where it doesn't count
reach_zero : (counts named : Bool) (held total m x : ℕ) → (counts ≡ true → min m (held - x) ≡ 0) →
    min m (cond counts (min (cond named (held + 0) 0) total) 0 - x) ≡ 0
reach_zero false named held total m x z = omega arith
reach_zero true true held total m x z = let e = z refl in omega (arith, e)
reach_zero true false held total m x z = omega arith

shut_adds : (u : Bool) (m n : ℕ) → u ≡ true → n + cond (still u) m 0 ≡ n + 0
shut_adds u m n h = ap (λ (t : Bool). n + cond (still t) m 0) h

module _ (b : Books) (done : List Edge) (call : Edge) (me : List ℕ) where
  -- whether the call pays from n to e
  abbrev pub hit : List ℕ → Dest → Bool
  hit n e = bytes_eq n (payer call) && is_same e (payee call)

  -- what must hold so that an end is right to close what the call paid
  pub record EndCloses (v : Virtual) : Type 0 where
    pub own_item : (e : Dest) → hit v.channel e ≡ true →
        (is_shut done (own_guarantor v) (Channel v.channel) ≡ true) × (aff (b.items v.channel) (b.held v.channel) e ≡ 0)
    pub for_channel : hit (own_guarantor v) (Channel v.channel) ≡ true →
        (is_shut done (own_ledger v) (Channel (own_guarantor v)) ≡ true)
        × (b.counts (own_guarantor v) ≡ true → min (amt (b.items v.joint) (Channel v.channel)) (b.held (own_guarantor v)) ≡ 0)
    pub for_me : hit (own_guarantor v) (Person me) ≡ true →
        (is_shut done (own_ledger v) (Channel (own_guarantor v)) ≡ true)
        × (b.counts (own_guarantor v) ≡ true →
        min (amt (b.items v.joint) (Person me)) (b.held (own_guarantor v) - amt (b.items v.joint) (Channel v.channel)) ≡ 0)

  -- and an intermediary
  pub record MiddleCloses (v : Virtual) : Type 0 where
    pub for_channel : hit v.guarantor_a (Channel v.channel) ≡ true →
        (is_shut done v.guarantor_a (Person me) ≡ false) × (is_shut done v.guarantor_b (Person me) ≡ false)
        × (is_shut done v.ledger_a (Channel v.guarantor_a) ≡ true)
        × (b.counts v.guarantor_a ≡ true → min (amt (b.items v.joint) (Channel v.channel)) (b.held v.guarantor_a) ≡ 0)
    pub from_a : hit v.guarantor_a (Person me) ≡ true →
        (is_shut done v.ledger_a (Channel v.guarantor_a) ≡ true)
        × (b.counts v.guarantor_a ≡ true → min (amt (b.items v.joint) (Person me)) (b.held v.guarantor_a
        - (amt (b.items v.joint) (Channel v.channel) + second_amt (b.items v.joint) (b.list v.guarantor_a))) ≡ 0)
    pub from_b : hit v.guarantor_b (Person me) ≡ true →
        (is_shut done v.ledger_b (Channel v.guarantor_b) ≡ true)
        × (b.counts v.guarantor_b ≡ true → min (amt (b.items v.joint) (Person me)) (b.held v.guarantor_b
        - (amt (b.items v.joint) (Channel v.channel) + second_amt (b.items v.joint) (b.list v.guarantor_b))) ≡ 0)

  abbrev pub MayClose : Part → Type 0
  MayClose (Root x) = (e : Dest) → hit x e ≡ true → aff (b.items x) (b.held x) e ≡ 0
  MayClose (OnLedger l x) = (e : Dest) → hit x e ≡ true →
      (is_shut done l (Channel x) ≡ true) × (aff (b.items x) (b.held x) e ≡ 0)
  MayClose (End v) = EndCloses v
  MayClose (Middle v) = MiddleCloses v

  abbrev pub AllMayClose : List Part → Type 0
  AllMayClose [] = Unit {0}
  AllMayClose (p ∷ ps) = MayClose p × AllMayClose ps

  abbrev pub before : Books
  before = shut done b

  abbrev pub after : Books
  after = shut (call ∷ done) b

  affords-closed : (n : List ℕ) (r q : ℕ) → r ≤ q → (e : Dest) → (hit n e ≡ true → aff (b.items n) r e ≡ 0) →
      affords before n r e ≤ affords after n q e
  affords-closed n r q le e z = closing (hit n e) (is_shut done n e) _ _ (aff-mono (b.items n) r q e le) z

  -- the later table affords no less
  pub record Tables (reach next : Table) : Type 0 where
    pub no_less : (n : List ℕ) (e : Dest) → affords before n (reach n) e ≤ affords after n (next n) e

  Tables-with : (reach next : Table) → Tables reach next → (x : List ℕ) (r q : ℕ) →
      ((e : Dest) → affords before x r e ≤ affords after x q e) → Tables (with_reach reach x r) (with_reach next x q)
  Tables-with reach next t x r q h = record { no_less = λ n e. by_test n e (bytes_eq n x) (same_bytes n x) }
    where
      by_test : (n : List ℕ) (e : Dest) (u : Bool) → (u ≡ true → n ≡ x) → affords before n (cond u r (reach n)) e ≤ affords after n (cond u q (next n)) e
      by_test n e true is = subst (λ (y : List ℕ). affords before y r e ≤ affords after y q e) (sym (is refl)) (h e)
      by_test n e false is = t.no_less n e

  child-closed : (reach next : Table) → Tables reach next → (l x : List ℕ) → child before reach l x ≤ child after next l x
  child-closed reach next t l x = by_test (has (b.items l) (Channel x)) (t.no_less l (Channel x))
    where
      by_test : (u : Bool) → affords before l (reach l) (Channel x) ≤ affords after l (next l) (Channel x) →
          cond u (b.held x + affords before l (reach l) (Channel x)) 0 ≤ cond u (b.held x + affords after l (next l) (Channel x)) 0
      by_test true h = omega arith
      by_test false h = omega arith

  guarantor-closed : (reach next : Table) → Tables reach next → (l g : List ℕ) (total : ℕ) →
      guarantor before reach l g total ≤ guarantor after next l g total
  guarantor-closed reach next t l g total = by_test (b.counts g) (child-closed reach next t l g)
    where
      by_test : (u : Bool) → child before reach l g ≤ child after next l g →
          cond u (min (child before reach l g) total) 0 ≤ cond u (min (child after next l g) total) 0
      by_test true h = omega arith
      by_test false h = omega arith

  -- what the ledger has paid a child doesn't count any more
  child-shut : (reach : Table) (l x : List ℕ) → is_shut done l (Channel x) ≡ true →
      child before reach l x ≡ cond (has (b.items l) (Channel x)) (b.held x + 0) 0
  child-shut reach l x h = ap (λ (t : Bool). cond (has (b.items l) (Channel x)) (b.held x + cond (still t) (aff (b.items l) (reach l) (Channel x)) 0) 0) h

  child-held : (reach : Table) (l x : List ℕ) → is_shut done l (Channel x) ≡ true → child before reach l x ≤ b.held x
  child-held reach l x h = by_test (has (b.items l) (Channel x)) (child-shut reach l x h)
    where
      by_test : (t : Bool) → child before reach l x ≡ cond t (b.held x + 0) 0 → child before reach l x ≤ b.held x
      by_test true e = omega arith
      by_test false e = omega arith

  guarantor-zero : (reach : Table) (l g : List ℕ) (total m x : ℕ) → is_shut done l (Channel g) ≡ true →
      (b.counts g ≡ true → min m (b.held g - x) ≡ 0) → min m (guarantor before reach l g total - x) ≡ 0
  guarantor-zero reach l g total m x h z =
      ap (λ (r : ℕ). min m (cond (b.counts g) (min r total) 0 - x)) (child-shut reach l g h)
      ∙ reach_zero (b.counts g) (has (b.items l) (Channel g)) (b.held g) total m x z

  nil-where-less : (n : List ℕ) (r : ℕ) (e : Dest) → r ≤ b.held n → aff (b.items n) (b.held n) e ≡ 0 → aff (b.items n) r e ≡ 0
  nil-where-less n r e le z = let p = aff-mono (b.items n) r (b.held n) e le in omega (arith, p, z)

  virtual-closed : (v : Virtual) → EndCloses v → (reach next : Table) → Tables reach next →
      virtual before (own_guarantor v) v.joint v.channel (end_reach before reach v) ≤ virtual after (own_guarantor v) v.joint v.channel (end_reach after next v)
  virtual-closed v may reach next t =
      by_test (has (b.items v.joint) (Channel v.channel))
      (closing (hit (own_guarantor v) (Channel v.channel)) (is_shut done (own_guarantor v) (Channel v.channel)) _ _
      (let le = guarantor-closed reach next t (own_ledger v) (own_guarantor v) v.total in omega (arith, le))
      (λ h. let z = guarantor-zero reach (own_ledger v) (own_guarantor v) v.total (amt (b.items v.joint) (Channel v.channel)) 0 (may.for_channel h).0
      (λ c. let y = (may.for_channel h).1 c in omega (arith, y)) in omega (arith, z)))
    where
      by_test : (u : Bool) → claim before (own_guarantor v) v.joint v.channel (end_reach before reach v) ≤ claim after (own_guarantor v) v.joint v.channel (end_reach after next v) →
          cond u (b.held v.channel + claim before (own_guarantor v) v.joint v.channel (end_reach before reach v)) 0
          ≤ cond u (b.held v.channel + claim after (own_guarantor v) v.joint v.channel (end_reach after next v)) 0
      by_test true h = omega arith
      by_test false h = omega arith

  virtual-held : (v : Virtual) (r : ℕ) → is_shut done (own_guarantor v) (Channel v.channel) ≡ true →
      virtual before (own_guarantor v) v.joint v.channel r ≤ b.held v.channel
  virtual-held v r h =
      by_test (has (b.items v.joint) (Channel v.channel)) (is_shut done (own_guarantor v) (Channel v.channel)) h
    where
      by_test : (t u : Bool) → u ≡ true → cond t (b.held v.channel + cond (still u) (min (amt (b.items v.joint) (Channel v.channel)) r) 0) 0 ≤ b.held v.channel
      by_test true true e = omega arith
      by_test false true e = omega arith
      by_test t false e = absurd (false≢true e)

  own-closed : (v : Virtual) → EndCloses v → (reach next : Table) → Tables reach next →
      own_claim before me (own_guarantor v) v.joint v.channel (end_reach before reach v) ≤ own_claim after me (own_guarantor v) v.joint v.channel (end_reach after next v)
  own-closed v may reach next t =
      closing (hit (own_guarantor v) (Person me)) (is_shut done (own_guarantor v) (Person me)) _ _
      (let le = guarantor-closed reach next t (own_ledger v) (own_guarantor v) v.total in omega (arith, le))
      (λ h. guarantor-zero reach (own_ledger v) (own_guarantor v) v.total _ _ (may.for_me h).0 (may.for_me h).1)

  item-closed : (v : Virtual) → EndCloses v → (reach next : Table) → Tables reach next → (e : Dest) →
      affords before v.channel (virtual before (own_guarantor v) v.joint v.channel (end_reach before reach v)) e
      ≤ affords after v.channel (virtual after (own_guarantor v) v.joint v.channel (end_reach after next v)) e
  item-closed v may reach next t e =
      affords-closed v.channel _ _ (virtual-closed v may reach next t) e
      (λ h. nil-where-less v.channel _ e (virtual-held v _ (may.own_item e h).0) (may.own_item e h).1)

  and-true : (t u : Bool) → (t && u) ≡ true → (t ≡ true) × (u ≡ true)
  and-true true true h = (refl, refl)
  and-true true false h = absurd (false≢true h)
  and-true false u h = absurd (false≢true h)

  and-false : (t u : Bool) → u ≡ false → (t && u) ≡ false
  and-false true u h = h
  and-false false u h = refl

  -- a call that pays the channel doesn't pay the person
  hit-apart : (n m x : List ℕ) → hit n (Channel x) ≡ true → hit m (Person me) ≡ false
  hit-apart n m x h = and-false (bytes_eq m (payer call)) _ (other (payee call) (and-true (bytes_eq n (payer call)) _ h).1)
    where
      other : (d : Dest) → is_same (Channel x) d ≡ true → is_same (Person me) d ≡ false
      other (Person a) e = absurd (false≢true e)
      other (Channel a) e = refl

  Middle-closed : (v : Virtual) → MiddleCloses v → (reach next : Table) → Tables reach next →
      part_worth before me reach (Middle v) ≤ part_worth after me next (Middle v)
  Middle-closed v may reach next t =
      middle_closed (hit ga (Channel v.channel)) (hit ga (Person me)) (hit gb (Person me))
      (is_shut done ga (Channel v.channel)) (is_shut done ga (Person me)) (is_shut done gb (Person me)) _ _ _ _ _ _ _ _
      (guarantor-closed reach next t v.ledger_a ga v.total) (guarantor-closed reach next t v.ledger_b gb v.total)
      (λ h. (
        hit-apart ga ga v.channel h,
        hit-apart ga gb v.channel h,
        (may.for_channel h).0,
        (may.for_channel h).1,
        (let z = guarantor-zero reach v.ledger_a ga v.total (amt (b.items v.joint) (Channel v.channel)) 0 (may.for_channel h).2
            (λ c. let y = (may.for_channel h).3 c in omega (arith, y)) in omega (arith, z)),
      ))
      (λ h. guarantor-zero reach v.ledger_a ga v.total _ _ (may.from_a h).0 (may.from_a h).1)
      (λ h. guarantor-zero reach v.ledger_b gb v.total _ _ (may.from_b h).0 (may.from_b h).1)
    where
      ga : List ℕ
      ga = v.guarantor_a

      gb : List ℕ
      gb = v.guarantor_b

  -- a call that has nothing left may be closed: the worth doesn't fall
  pub worth-closed : (ps : List Part) (reach next : Table) → AllMayClose ps → Tables reach next →
      worth before me ps reach ≤ worth after me ps next
  worth-closed [] reach next h t = omega arith
  worth-closed (Root x ∷ ps) reach next h t =
      let here : (e : Dest) → affords before x (b.held x) e ≤ affords after x (b.held x) e =
      λ e. affords-closed x (b.held x) (b.held x) (omega arith) e (h.0 e) in
      let p = here (Person me) in
      let q = worth-closed ps _ _ h.1 (Tables-with reach next t x _ _ here) in
      omega (arith, p, q)
  worth-closed (OnLedger l x ∷ ps) reach next h t =
      let here : (e : Dest) → affords before x (child before reach l x) e ≤ affords after x (child after next l x) e =
      λ e. affords-closed x _ _ (child-closed reach next t l x) e
      (λ y. nil-where-less x _ e (child-held reach l x (h.0 e y).0) (h.0 e y).1) in
      let p = here (Person me) in
      let q = worth-closed ps _ _ h.1 (Tables-with reach next t x _ _ here) in
      omega (arith, p, q)
  worth-closed (End v ∷ ps) reach next h t =
      let here = item-closed v h.0 reach next t in
      let p = here (Person me) in
      let o = own-closed v h.0 reach next t in
      let q = worth-closed ps _ _ h.1 (Tables-with reach next t v.channel _ _ here) in
      omega (arith, p, o, q)
  worth-closed (Middle v ∷ ps) reach next h t =
      let p = Middle-closed v h.0 reach next t in
      let q = worth-closed ps _ _ h.1 t in
      omega (arith, p, q)

  pub close : (ps : List Part) → AllMayClose ps → worth before me ps (λ n. 0) ≤ worth after me ps (λ n. 0)
  close ps may = worth-closed ps _ _ may (record { no_less = λ n e. nothing n e (is_shut done n e) (aff-zero (b.items n) e) })
    where
      nothing : (n : List ℕ) (e : Dest) (t : Bool) → aff (b.items n) 0 e ≡ 0 → cond (still t) (aff (b.items n) 0 e) 0 ≤ affords after n 0 e
      nothing n e true z = omega arith
      nothing n e false z = omega arith
