-- A funded part that is named is worth what its outcomes pay.
use Rattle.std.proofs.Common.{◌≡◌, ℕ, ◌+◌, ◌-◌, ◌≤◌, min, Bool, true, false, ◌&&◌, List, refl, ◌∙◌, ap, arith, cond, nat_le}
use Rattle.std.proofs.lemmas.Bool.{false≢true}
use Rattle.channel_values.specs.declared.value.Dest.{Dest}
use Rattle.channel_values.specs.declared.value.Dest.TheVariants.{Person, Channel}
use Rattle.channel_values.specs.declared.value.Item.{Item}
use Rattle.channel_values.specs.Amounts.{amt, has, aff}
use Rattle.funding_plans.specs.declared.plan.Part.{Part}
use Rattle.funding_plans.specs.declared.plan.Part.TheVariants.{Root, OnLedger, End, Middle}
use Rattle.funding_plans.specs.declared.plan.Virtual.{Virtual}
use Rattle.share_laws.specs.Books.{Books}
use Rattle.share_laws.specs.Worth.{Table, child, guarantor, virtual, end_reach, second_amt, left_between, part_worth}
use Rattle.funding_plans.specs.Parts.{own_ledger, own_guarantor}
use Rattle.share_laws.specs.Funded.{up_to, if_so, is_covered, reaches_me, is_part_funded}
use Rattle.share_laws.specs.Moves.{owing}
use Rattle.share_laws.specs.Nominal.{nominal, IsNamed, FundedIsNominal}
use Rattle.share_laws.proofs.Amounts.{aff-zero, aff-up_to}
use Rattle.share_laws.proofs.Funded.{and-left, and-right, nat_le-true}

so-then : (u v : Bool) → u ≡ true → if_so u v ≡ true → v ≡ true
so-then true v e h = h
so-then false v e h = absurd (false≢true e)

both-true : (u v : Bool) → u ≡ true → v ≡ true → (u && v) ≡ true
both-true true true e f = refl
both-true true false e f = absurd (false≢true f)
both-true false v e f = absurd (false≢true e)

module _ (held : List ℕ → ℕ) (counts : List ℕ → Bool) (list : List ℕ → List Dest) (items : List ℕ → List Item) (me : List ℕ) (reach : Table) where
  abbrev b : Books
  b = owing held counts list items

  reached : (from c : List ℕ) (r : ℕ) → reaches_me b me from c r ≡ true → counts c ≡ true → has (items from) (Channel c) ≡ true →
      aff (items c) r (Person me) ≡ amt (items c) (Person me)
  reached from c r h on named =
      aff-up_to (items c) r (Person me)
      (nat_le-true (up_to (items c) (Person me)) r (so-then (counts c && has (items from) (Channel c)) _ (both-true (counts c) _ on named) h))

  end-nominal : (v : Virtual) → is_part_funded b me reach (End v) ≡ true → IsNamed b me (End v) → part_worth b me reach (End v) ≡ nominal b me (End v)
  end-nominal v f n = by_test (has (items v.joint) (Channel v.channel)) refl
    where
      second : (reaches_me b me v.joint v.channel (virtual b (own_guarantor v) v.joint v.channel (end_reach b reach v))
          && if_so (has (items (own_ledger v)) (Channel (own_guarantor v)))
          (nat_le (amt (items v.joint) (Channel v.channel) + amt (items v.joint) (Person me)) (end_reach b reach v))) ≡ true
      second = and-right (is_covered b reach (own_ledger v)) _ f

      enough : amt (items v.joint) (Channel v.channel) + amt (items v.joint) (Person me) ≤ end_reach b reach v
      enough = nat_le-true _ _ (so-then (has (items (own_ledger v)) (Channel (own_guarantor v))) _ n.1
          (and-right (reaches_me b me v.joint v.channel (virtual b (own_guarantor v) v.joint v.channel (end_reach b reach v))) _ second))

      own : min (amt (items v.joint) (Person me)) (end_reach b reach v - amt (items v.joint) (Channel v.channel)) ≡ amt (items v.joint) (Person me)
      own = let e = enough in omega (arith, e)

      by_test : (t : Bool) → has (items v.joint) (Channel v.channel) ≡ t → part_worth b me reach (End v) ≡ cond t (amt (items v.channel) (Person me)) 0 + amt (items v.joint) (Person me)
      by_test true e =
          let x : aff (items v.channel) (virtual b (own_guarantor v) v.joint v.channel (end_reach b reach v)) (Person me) ≡ amt (items v.channel) (Person me) =
          reached v.joint v.channel _ (and-left (reaches_me b me v.joint v.channel (virtual b (own_guarantor v) v.joint v.channel (end_reach b reach v))) _ second) n.0 e in
          let o = own in
          omega (arith, x, o)
      by_test false e =
          let z : virtual b (own_guarantor v) v.joint v.channel (end_reach b reach v) ≡ 0 =
          ap (λ (t : Bool). cond t (held v.channel + min (amt (items v.joint) (Channel v.channel)) (end_reach b reach v)) 0) e in
          let x : aff (items v.channel) (virtual b (own_guarantor v) v.joint v.channel (end_reach b reach v)) (Person me) ≡ 0 =
          ap (λ (r : ℕ). aff (items v.channel) r (Person me)) z ∙ aff-zero (items v.channel) (Person me) in
          let o = own in
          omega (arith, x, o)

  nominal-is : (p : Part) → is_part_funded b me reach p ≡ true → IsNamed b me p → part_worth b me reach p ≡ nominal b me p
  nominal-is (Root c) f n = aff-up_to (items c) (held c) (Person me) n
  nominal-is (OnLedger l c) f n = reached l c (child b reach l c) (and-right (is_covered b reach l) _ f) n.0 n.1
  nominal-is (End v) f n = end-nominal v f n
  nominal-is (Middle v) f n =
      let both : (has (items v.ledger_a) (Channel v.guarantor_a) && has (items v.ledger_b) (Channel v.guarantor_b)) ≡ true = both-true _ _ n.0 n.1 in
      let e : amt (items v.joint) (Person me) ≤ left_between true true true (amt (items v.joint) (Channel v.channel))
      (second_amt (items v.joint) (list v.guarantor_a)) (second_amt (items v.joint) (list v.guarantor_b))
      (guarantor b reach v.ledger_a v.guarantor_a v.total) (guarantor b reach v.ledger_b v.guarantor_b v.total) =
      nat_le-true _ _ (so-then _ _ both (and-right (is_covered b reach v.ledger_b) _ (and-right (is_covered b reach v.ledger_a) _ f))) in
      least _ _ e
    where
      least : (m n : ℕ) → m ≤ n → min m n ≡ m
      least m n h = omega (arith, h)

pub funded_is_nominal : FundedIsNominal
funded_is_nominal held counts list items me reach p f n = nominal-is held counts list items me reach p f n
