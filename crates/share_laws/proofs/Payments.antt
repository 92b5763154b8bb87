-- A payment in a channel on which no part stands lowers what the plan is worth by no more than the payment.
use Rattle.std.proofs.Common.{◌≡◌, ℕ, ◌+◌, ◌-◌, ◌≤◌, min, Bool, true, false, ◌||◌, List, [], ◌∷◌, refl, sym, ◌∙◌, ap, subst, arith, cond}
use Rattle.std.proofs.lemmas.Bool.{false≢true}
use Rattle.std.specs.Str.{bytes_eq}
use Rattle.channel_values.specs.declared.value.Dest.{Dest}
use Rattle.channel_values.specs.declared.value.Dest.TheVariants.{Person, Channel}
use Rattle.channel_values.specs.declared.value.Item.{Item}
use Rattle.channel_values.specs.Amounts.{amt, has, aff}
use Rattle.call_history.specs.Flows.{is_among}
use Rattle.funding_plans.specs.declared.plan.Part.{Part}
use Rattle.funding_plans.specs.declared.plan.Part.TheVariants.{Root, OnLedger, End, Middle}
use Rattle.funding_plans.specs.declared.plan.Virtual.{Virtual}
use Rattle.share_laws.specs.Books.{Books}
use Rattle.share_laws.specs.Worth.{Table, no_reach, with_reach, child, guarantor, virtual, end_reach, reach_after, own_claim, second_amt, middle_worth, part_worth, worth}
use Rattle.funding_plans.specs.Parts.{own_ledger, own_guarantor, channels_of}
use Rattle.share_laws.specs.Bases.{bases_of, all_bases}
use Rattle.share_laws.specs.Moves.{owing}
use Rattle.share_laws.specs.SigningLaws.{PaymentsLowerWorth}
use Rattle.call_history.proofs.Names.{same_bytes, bytes_eq_self}
use Rattle.share_laws.proofs.Choices.{differ-flip}
use Rattle.share_laws.proofs.Apart.{among-append, or-none}
use Rattle.share_laws.proofs.Counts.{or-left, sum_of, sum_of-most}

-- the part whose own channel is n
unfoldable pub pays_from : List ℕ → Part → Bool
pays_from n (Root c) = bytes_eq c n
pays_from n (OnLedger l c) = bytes_eq c n
pays_from n (End v) = bytes_eq v.channel n
pays_from n (Middle v) = false

flip : (a b : List ℕ) → bytes_eq a b ≡ true → bytes_eq b a ≡ true
flip a b h = subst (λ (z : List ℕ). bytes_eq b z ≡ true) (sym (same_bytes a b h)) (bytes_eq_self b)

fourth : (g h j n : Bool) → n ≡ true → (g || (h || (j || (n || false)))) ≡ true
fourth true h j n e = refl
fourth false true j n e = refl
fourth false false true n e = refl
fourth false false false n e = or-left n false e

pays_from-has : (n : List ℕ) (p : Part) → pays_from n p ≡ true → is_among n (channels_of p) ≡ true
unfolding pays_from
pays_from-has n (Root c) h = or-left _ false (flip c n h)
pays_from-has n (OnLedger l c) h = or-left _ false (flip c n h)
pays_from-has n (End v) h = fourth (bytes_eq n v.guarantor_a) (bytes_eq n v.guarantor_b) (bytes_eq n v.joint) _ (flip v.channel n h)
pays_from-has n (Middle v) h = absurd (false≢true h)

module _ (held : List ℕ → ℕ) (counts : List ℕ → Bool) (list : List ℕ → List Dest) (before after : List ℕ → List Item) (me n : List ℕ)
    (others : (m : List ℕ) → bytes_eq m n ≡ false → after m ≡ before m) (k : ℕ)
    (pays : (r : ℕ) → aff (before n) r (Person me) ≤ aff (after n) r (Person me) + k) where
  abbrev b : Books
  b = owing held counts list before

  abbrev c : Books
  c = owing held counts list after

  -- what a channel affords the person
  own : (m : List ℕ) (r : ℕ) → aff (before m) r (Person me) ≤ aff (after m) r (Person me) + cond (bytes_eq m n) k 0
  own m r = by_test (bytes_eq m n) (same_bytes m n) (others m)
    where
      by_test : (t : Bool) → (t ≡ true → m ≡ n) → (t ≡ false → after m ≡ before m) → aff (before m) r (Person me) ≤ aff (after m) r (Person me) + cond t k 0
      by_test true is rest = subst (λ (z : List ℕ). aff (before z) r (Person me) ≤ aff (after z) r (Person me) + k) (sym (is refl)) (pays r)
      by_test false is rest = let e : aff (after m) r (Person me) ≡ aff (before m) r (Person me) = ap (λ (xs : List Item). aff xs r (Person me)) (rest refl) in omega (arith, e)

  same : (m : List ℕ) → bytes_eq n m ≡ false → after m ≡ before m
  same m ne = others m (differ-flip n m ne)

  child-same : (reach : Table) (l y : List ℕ) → bytes_eq n l ≡ false → child b reach l y ≡ child c reach l y
  child-same reach l y ne = ap (λ (xs : List Item). cond (has xs (Channel y)) (held y + aff xs (reach l) (Channel y)) 0) (sym (same l ne))

  guarantor-same : (reach : Table) (l y : List ℕ) (t : ℕ) → bytes_eq n l ≡ false → guarantor b reach l y t ≡ guarantor c reach l y t
  guarantor-same reach l y t ne = ap (λ (z : ℕ). cond (counts y) (min z t) 0) (child-same reach l y ne)

  virtual-same : (j x : List ℕ) (r q : ℕ) → bytes_eq n j ≡ false → r ≡ q →
      cond (has (before j) (Channel x)) (held x + min (amt (before j) (Channel x)) r) 0 ≡ cond (has (after j) (Channel x)) (held x + min (amt (after j) (Channel x)) q) 0
  virtual-same j x r q ne e =
      ap (λ (z : ℕ). cond (has (before j) (Channel x)) (held x + min (amt (before j) (Channel x)) z) 0) e
      ∙ ap (λ (js : List Item). cond (has js (Channel x)) (held x + min (amt js (Channel x)) q) 0) (sym (same j ne))

  claim-same : (j x : List ℕ) (r q : ℕ) → bytes_eq n j ≡ false → r ≡ q →
      min (amt (before j) (Person me)) (r - amt (before j) (Channel x)) ≡ min (amt (after j) (Person me)) (q - amt (after j) (Channel x))
  claim-same j x r q ne e =
      ap (λ (z : ℕ). min (amt (before j) (Person me)) (z - amt (before j) (Channel x))) e
      ∙ ap (λ (js : List Item). min (amt js (Person me)) (q - amt js (Channel x))) (sym (same j ne))

  middle_worth_of : List Item → Virtual → ℕ → ℕ → ℕ
  middle_worth_of js v r q =
      middle_worth true true true (amt js (Person me)) (amt js (Channel v.channel)) (second_amt js (list v.guarantor_a)) (second_amt js (list v.guarantor_b)) r q

  part-pays : (reach : Table) (p : Part) → is_among n (bases_of p) ≡ false →
      part_worth b me reach p ≤ part_worth c me reach p + cond (pays_from n p) k 0
  unfolding pays_from middle_worth_of
  part-pays reach (Root m) out = own m (held m)
  part-pays reach (OnLedger l m) out =
      let e : child b reach l m ≡ child c reach l m = child-same reach l m (or-none (bytes_eq n l) false out).0 in
      let p : aff (before m) (child b reach l m) (Person me) ≤ aff (after m) (child b reach l m) (Person me) + cond (bytes_eq m n) k 0 = own m (child b reach l m) in
      subst (λ (z : ℕ). aff (before m) (child b reach l m) (Person me) ≤ aff (after m) z (Person me) + cond (bytes_eq m n) k 0) e p
  part-pays reach (End v) out =
      let o : (bytes_eq n (own_ledger v) ≡ false) × ((bytes_eq n v.joint || false) ≡ false) = or-none (bytes_eq n (own_ledger v)) _ out in
      let nj : bytes_eq n v.joint ≡ false = (or-none (bytes_eq n v.joint) false o.1).0 in
      let r : end_reach b reach v ≡ end_reach c reach v = guarantor-same reach (own_ledger v) (own_guarantor v) v.total o.0 in
      let e = virtual-same v.joint v.channel _ _ nj r in
      let f : own_claim b me (own_guarantor v) v.joint v.channel (end_reach b reach v) ≡ own_claim c me (own_guarantor v) v.joint v.channel (end_reach c reach v) =
      claim-same v.joint v.channel _ _ nj r in
      let p : aff (before v.channel) (virtual b (own_guarantor v) v.joint v.channel (end_reach b reach v)) (Person me)
      ≤ aff (after v.channel) (virtual c (own_guarantor v) v.joint v.channel (end_reach c reach v)) (Person me) + cond (bytes_eq v.channel n) k 0 =
      subst (λ (z : ℕ). aff (before v.channel) (virtual b (own_guarantor v) v.joint v.channel (end_reach b reach v)) (Person me)
      ≤ aff (after v.channel) z (Person me) + cond (bytes_eq v.channel n) k 0) e (own v.channel _) in
      omega (arith, f, p)
  part-pays reach (Middle v) out =
      let o : (bytes_eq n v.ledger_a ≡ false) × ((bytes_eq n v.ledger_b || (bytes_eq n v.joint || false)) ≡ false) = or-none (bytes_eq n v.ledger_a) _ out in
      let q : (bytes_eq n v.ledger_b ≡ false) × ((bytes_eq n v.joint || false) ≡ false) = or-none (bytes_eq n v.ledger_b) _ o.1 in
      let nj : bytes_eq n v.joint ≡ false = (or-none (bytes_eq n v.joint) false q.1).0 in
      let e : part_worth b me reach (Middle v) ≡ part_worth c me reach (Middle v) =
      ap (λ (z : ℕ). middle_worth_of (before v.joint) v z (guarantor b reach v.ledger_b v.guarantor_b v.total)) (guarantor-same reach v.ledger_a v.guarantor_a v.total o.0)
      ∙ ap (λ (z : ℕ). middle_worth_of (before v.joint) v (guarantor c reach v.ledger_a v.guarantor_a v.total) z) (guarantor-same reach v.ledger_b v.guarantor_b v.total q.0)
      ∙ ap (λ (js : List Item). middle_worth_of js v (guarantor c reach v.ledger_a v.guarantor_a v.total) (guarantor c reach v.ledger_b v.guarantor_b v.total)) (sym (same v.joint nj)) in
      omega (arith, e)

  table-same : (reach : Table) (p : Part) → is_among n (bases_of p) ≡ false → reach_after b reach p ≡ reach_after c reach p
  table-same reach (Root m) out = refl
  table-same reach (OnLedger l m) out = ap (λ (z : ℕ). with_reach reach m z) (child-same reach l m (or-none (bytes_eq n l) false out).0)
  table-same reach (End v) out =
      let o : (bytes_eq n (own_ledger v) ≡ false) × ((bytes_eq n v.joint || false) ≡ false) = or-none (bytes_eq n (own_ledger v)) _ out in
      ap (λ (z : ℕ). with_reach reach v.channel z)
      (virtual-same v.joint v.channel _ _ (or-none (bytes_eq n v.joint) false o.1).0 (guarantor-same reach (own_ledger v) (own_guarantor v) v.total o.0))
  table-same reach (Middle v) out = refl

  pub worth-pays : (ps : List Part) (reach : Table) → is_among n (all_bases ps) ≡ false →
      worth b me ps reach ≤ worth c me ps reach + sum_of (λ p. cond (pays_from n p) k 0) ps
  unfolding sum_of
  worth-pays [] reach out = omega arith
  worth-pays (p ∷ ps) reach out =
      let o : (is_among n (bases_of p) ≡ false) × (is_among n (all_bases ps) ≡ false) =
      or-none _ _ (sym (among-append n (bases_of p) (all_bases ps)) ∙ out) in
      let e : part_worth b me reach p ≤ part_worth c me reach p + cond (pays_from n p) k 0 = part-pays reach p o.0 in
      let r : worth b me ps (reach_after b reach p) ≤ worth c me ps (reach_after b reach p) + sum_of (λ q. cond (pays_from n q) k 0) ps =
      worth-pays ps (reach_after b reach p) o.1 in
      let t : worth c me ps (reach_after b reach p) ≡ worth c me ps (reach_after c reach p) = ap (λ (z : Table). worth c me ps z) (table-same reach p o.0) in
      omega (arith, e, r, t)

pub payments_lower : PaymentsLowerWorth
payments_lower me ps plan held counts list before after n others out k pays =
    let e : worth (owing held counts list before) me ps no_reach ≤ worth (owing held counts list after) me ps no_reach + sum_of (λ q. cond (pays_from n q) k 0) ps =
    worth-pays held counts list before after me n others k pays ps no_reach out in
    let m : sum_of (λ q. cond (pays_from n q) k 0) ps ≤ k = sum_of-most (pays_from n) k n (pays_from-has n) ps plan.apart in
    omega (arith, e, m)
