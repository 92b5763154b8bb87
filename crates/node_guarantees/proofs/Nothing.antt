-- Where channels hold nothing of an asset, and nothing was paid, the share of it is 0.
use Rattle.std.proofs.Common.{◌≡◌, ℕ, ◌+◌, ◌-◌, min, max, Bool, true, false, cond, List, [], ◌∷◌, refl, sym, subst, arith}
use Rattle.std.specs.Str.{bytes_eq}
use Rattle.channel_values.specs.declared.value.Dest.{Dest}
use Rattle.channel_values.specs.declared.value.Dest.TheVariants.{Person, Channel}
use Rattle.channel_values.specs.Amounts.{amt, has, aff}
use Rattle.funding_plans.specs.declared.plan.Part.{Part}
use Rattle.funding_plans.specs.declared.plan.Part.TheVariants.{Root, OnLedger, End, Middle}
use Rattle.funding_plans.specs.declared.plan.Virtual.{Virtual}
use Rattle.funding_plans.specs.Parts.{own_ledger, own_guarantor}
use Rattle.share_laws.proofs.Amounts.{aff-zero}
use Rattle.share_laws.specs.Books.{Books, Counting, varying, books_under}
use Rattle.share_laws.specs.Share.{least_over, worth_under, share_of}
use Rattle.share_laws.specs.Worth.{Table, no_reach, affords, child, guarantor, claim, own_claim, virtual, end_reach, reach_after, second_amt, left_between, part_worth, worth}

-- ---- numbers

both-none : (t : Bool) (x y : ℕ) → x ≡ 0 → y ≡ 0 → cond t x y ≡ 0
both-none true x y e f = e
both-none false x y e f = f

if-none : (t : Bool) (x : ℕ) → x ≡ 0 → cond t x 0 ≡ 0
if-none t x e = both-none t x 0 e refl

sum-none : (x y : ℕ) → x ≡ 0 → y ≡ 0 → x + y ≡ 0
sum-none x y e f = omega arith

less-none : (x y : ℕ) → x ≡ 0 → x - y ≡ 0
less-none x y e = omega arith

first-least : (x y : ℕ) → x ≡ 0 → min x y ≡ 0
first-least x y e = omega arith

second-least : (x y : ℕ) → y ≡ 0 → min x y ≡ 0
second-least x y e = omega arith

most-none : (x y : ℕ) → x ≡ 0 → y ≡ 0 → max x y ≡ 0
most-none x y e f = omega arith

least-none : (cs : List (List ℕ)) (value : List (List ℕ) → ℕ) → ((taken : List (List ℕ)) → value taken ≡ 0) → (taken : List (List ℕ)) → least_over cs value taken ≡ 0
least-none [] value none taken = none taken
least-none (c ∷ cs) value none taken = first-least (least_over cs value taken) (least_over cs value (c ∷ taken)) (least-none cs value none taken)

-- ---- worth

module _ (b : Books) (none : (n : List ℕ) → b.held n ≡ 0) where
  affords-none : (n : List ℕ) (r : ℕ) (d : Dest) → r ≡ 0 → affords b n r d ≡ 0
  affords-none n r d e = if-none (b.owed n d) (aff (b.items n) r d) (subst (λ (q : ℕ). aff (b.items n) q d ≡ 0) (sym e) (aff-zero (b.items n) d))

  claim-none : (g j x : List ℕ) (r : ℕ) → r ≡ 0 → claim b g j x r ≡ 0
  claim-none g j x r e = if-none (b.owed g (Channel x)) (min (amt (b.items j) (Channel x)) r) (second-least (amt (b.items j) (Channel x)) r e)

  own-claim-none : (me g j x : List ℕ) (r : ℕ) → r ≡ 0 → own_claim b me g j x r ≡ 0
  own-claim-none me g j x r e =
      if-none (b.owed g (Person me)) (min (amt (b.items j) (Person me)) (r - amt (b.items j) (Channel x)))
      (second-least (amt (b.items j) (Person me)) (r - amt (b.items j) (Channel x)) (less-none r (amt (b.items j) (Channel x)) e))

  virtual-none : (g j x : List ℕ) (r : ℕ) → r ≡ 0 → virtual b g j x r ≡ 0
  virtual-none g j x r e = if-none (has (b.items j) (Channel x)) (b.held x + claim b g j x r) (sum-none (b.held x) (claim b g j x r) (none x) (claim-none g j x r e))

  module _ (reach : Table) (nowhere : (n : List ℕ) → reach n ≡ 0) where
    child-none : (l c : List ℕ) → child b reach l c ≡ 0
    child-none l c =
        if-none (has (b.items l) (Channel c)) (b.held c + affords b l (reach l) (Channel c))
        (sum-none (b.held c) (affords b l (reach l) (Channel c)) (none c) (affords-none l (reach l) (Channel c) (nowhere l)))

    guarantor-none : (l g : List ℕ) (total : ℕ) → guarantor b reach l g total ≡ 0
    guarantor-none l g total = if-none (b.counts g) (min (child b reach l g) total) (first-least (child b reach l g) total (child-none l g))

    end-none : (v : Virtual) → end_reach b reach v ≡ 0
    end-none v = guarantor-none (own_ledger v) (own_guarantor v) v.total

    with-none : (c : List ℕ) (r : ℕ) → r ≡ 0 → (n : List ℕ) → cond (bytes_eq n c) r (reach n) ≡ 0
    with-none c r e n = both-none (bytes_eq n c) r (reach n) e (nowhere n)

    after-none : (p : Part) (n : List ℕ) → reach_after b reach p n ≡ 0
    after-none (Root c) n = with-none c (b.held c) (none c) n
    after-none (OnLedger l c) n = with-none c (child b reach l c) (child-none l c) n
    after-none (End v) n =
        with-none v.channel (virtual b (own_guarantor v) v.joint v.channel (end_reach b reach v))
        (virtual-none (own_guarantor v) v.joint v.channel (end_reach b reach v) (end-none v)) n
    after-none (Middle v) n = nowhere n

    left-none : (s t u : Bool) (x a c ra rb : ℕ) → ra ≡ 0 → rb ≡ 0 → left_between s t u x a c ra rb ≡ 0
    left-none s t u x a c ra rb e f =
        most-none (cond s ((ra + rb) - (x + a + c)) 0) (cond t (ra - (x + a)) 0 + cond u (rb - (x + c)) 0)
        (if-none s ((ra + rb) - (x + a + c)) (less-none (ra + rb) (x + a + c) (sum-none ra rb e f)))
        (sum-none (cond t (ra - (x + a)) 0) (cond u (rb - (x + c)) 0) (if-none t (ra - (x + a)) (less-none ra (x + a) e)) (if-none u (rb - (x + c)) (less-none rb (x + c) f)))

    part-none : (me : List ℕ) (p : Part) → part_worth b me reach p ≡ 0
    part-none me (Root c) = affords-none c (b.held c) (Person me) (none c)
    part-none me (OnLedger l c) = affords-none c (child b reach l c) (Person me) (child-none l c)
    part-none me (End v) =
        sum-none (affords b v.channel (virtual b (own_guarantor v) v.joint v.channel (end_reach b reach v)) (Person me))
        (own_claim b me (own_guarantor v) v.joint v.channel (end_reach b reach v))
        (affords-none v.channel (virtual b (own_guarantor v) v.joint v.channel (end_reach b reach v)) (Person me)
        (virtual-none (own_guarantor v) v.joint v.channel (end_reach b reach v) (end-none v)))
        (own-claim-none me (own_guarantor v) v.joint v.channel (end_reach b reach v) (end-none v))
    part-none me (Middle v) =
        second-least (amt (b.items v.joint) (Person me))
        (left_between (b.owed v.guarantor_a (Channel v.channel)) (b.owed v.guarantor_a (Person me)) (b.owed v.guarantor_b (Person me))
        (amt (b.items v.joint) (Channel v.channel)) (second_amt (b.items v.joint) (b.list v.guarantor_a)) (second_amt (b.items v.joint) (b.list v.guarantor_b))
        (guarantor b reach v.ledger_a v.guarantor_a v.total) (guarantor b reach v.ledger_b v.guarantor_b v.total))
        (left-none (b.owed v.guarantor_a (Channel v.channel)) (b.owed v.guarantor_a (Person me)) (b.owed v.guarantor_b (Person me))
        (amt (b.items v.joint) (Channel v.channel)) (second_amt (b.items v.joint) (b.list v.guarantor_a)) (second_amt (b.items v.joint) (b.list v.guarantor_b))
        (guarantor b reach v.ledger_a v.guarantor_a v.total) (guarantor b reach v.ledger_b v.guarantor_b v.total)
        (guarantor-none v.ledger_a v.guarantor_a v.total) (guarantor-none v.ledger_b v.guarantor_b v.total))

  worth-none : (me : List ℕ) (parts : List Part) (reach : Table) → ((n : List ℕ) → reach n ≡ 0) → worth b me parts reach ≡ 0
  worth-none me [] reach nowhere = refl
  worth-none me (p ∷ parts) reach nowhere =
      sum-none (part_worth b me reach p) (worth b me parts (reach_after b reach p)) (part-none reach nowhere me p)
      (worth-none me parts (reach_after b reach p) (after-none reach nowhere p))

pub share-none : (me : List ℕ) (paid : ℕ) (parts : List Part) (held : List ℕ → ℕ) (counting : List Counting) (asset : ℕ) → paid ≡ 0 → ((n : List ℕ) → held n ≡ 0)
    → share_of me paid parts held counting asset ≡ 0
share-none me paid parts held counting asset unpaid unheld =
    sum-none paid (least_over (varying counting) (worth_under me parts held counting asset) []) unpaid
    (least-none (varying counting) (worth_under me parts held counting asset)
    (λ taken. worth-none (books_under held counting asset taken) unheld me parts no_reach (λ n. refl)) [])
