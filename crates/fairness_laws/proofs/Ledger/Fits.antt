-- What a part wants on a ledger, up or down, moves it by what the part has there.
use Rattle.std.proofs.Common.{◌≡◌, ℕ, ◌+◌, ◌≤◌, Bool, true, false, cond, List, ◌⊎◌, inl, inr, refl, sym, ◌∙◌, ap, subst}
use Rattle.std.specs.Prelude.{Option, Some}
use Rattle.channel_values.specs.Outcomes.{IsOutcome}
use Rattle.channel_values.specs.Parts.{StateParts}
use Rattle.channel_values.specs.declared.value.AssetOutcome.{AssetOutcome}
use Rattle.channel_values.specs.declared.value.Dest.TheVariants.{Person}
use Rattle.channel_safety.proofs.Tests.{some-eq, clash}
use Rattle.call_history.specs.History.{mode}
use Rattle.call_history.specs.declared.entry.Entry.{Entry}
use Rattle.channel_values.specs.Amounts.{amt}
use Rattle.channel_values.specs.Digests.{name_of_person}
use Rattle.call_history.specs.Mode.{is_final}
use Rattle.funding_plans.specs.Shapes.{items_in}
use Rattle.funding_plans.specs.declared.plan.Part.{Part}
use Rattle.channel_safety.specs.Journals.{In, Line}
use Rattle.channel_node.specs.Minds.{facts_of}
use Rattle.channel_node.specs.Places.{Told, lines_of, mind_at}
use Rattle.channel_node.specs.Playing.{Signing}
use Rattle.node_guarantees.specs.Orders.{orders_of}
use Rattle.fairness_laws.proofs.Apps.{no-payments}
use Rattle.fairness_laws.proofs.Ledger.Moving.{up_is_up, down_is_up_before, up_is_outcome, down_is_outcome}
use Rattle.fairness_laws.proofs.Signing.{sits, planned-there}
use Rattle.fairness_laws.proofs.Seat.Based.{Based, based}
use Rattle.fairness_laws.specs.LedgerKeeping.{Backs}
use Rattle.fairness_laws.specs.LedgerLaws.{LedgersKeep}
use Rattle.fairness_laws.specs.LedgerLending.{Lent, lent}
use Rattle.fairness_laws.specs.LedgerMoving.{Afford, IsUp}
use Rattle.fairness_laws.specs.LedgerWanting.{IsChild}
use Rattle.fairness_laws.specs.PaymentLaws.{At}
use Rattle.fairness_laws.specs.PlanParts.{LedgerIs}
use Rattle.fairness_laws.specs.PlanSettings.{IsFair}
use Rattle.fairness_laws.specs.SeatSitting.{Sits}
use Rattle.funding_plans.specs.Limits.{is_valid}
use Rattle.funding_plans.specs.Outcomes as outcomes
use Rattle.funding_plans.specs.Outcomes.{names, up, down}
use Rattle.funding_plans.specs.declared.child.Child.{Child}
use Rattle.share_laws.specs.Places.{Order, plan}
use Rattle.share_laws.specs.Moves.{SetsAside}
use Rattle.share_laws.specs.Settled.{Has}
use Rattle.share_laws.specs.Wanted.{IsTarget}
use Rattle.share_laws.specs.Wanted as wanted
use Rattle.funding_plans.specs.Seats.{up_in, up_after, down_in, down_after}
use Rattle.support_rules.specs.Real.{real}

-- which part of what is set aside for the child is the person's
abbrev pub Sets : (me : List ℕ) → Child → ℕ → Type 0
Sets me k mine = (from to : List AssetOutcome) → IsUp k from to → SetsAside me k.name mine (k.a + k.b) (items_in k.asset from) (items_in k.asset to)

module _ (s : Signing) (h : List Entry) (journal : List Told) (fair : IsFair s h journal) (past : List Entry) (front : List Told) (at : At s h journal past front)
    (p : Part) (there : In p (mind_at real s.key past front).parts) (l : List ℕ) (k : Lent) (lends : lent (facts_of (mind_at real s.key past front)) l p ≡ Some k) (child : IsChild k.child)
    (on : LedgerIs s.key past (lines_of s.key front) k.child.first k.child.second l k.ledger) (ledgers : LedgersKeep (facts_of (mind_at real s.key past front)))
    (going : is_final (mode real (real.named on.fixed) past) ≡ false) where
  abbrev lines : List Line
  lines = lines_of s.key front

  abbrev orders : ℕ → Order
  orders = orders_of real s.key journal

  abbrev me : List ℕ
  me = name_of_person s.key

  -- what the target is to the latest outcome
  abbrev Fits : List AssetOutcome → List AssetOutcome → Type 0
  Fits from to = IsOutcome to × ((to ≡ from) ⊎ IsTarget real me orders past lines on.fixed from to)

  in-plan : In p (plan orders lines)
  in-plan = planned-there s h journal fair past front at p there

  sit : Sits s.key orders past lines on.fixed k.ledger.opening k.ledger
  sit = sits s h journal fair past front at on.fixed k.ledger.opening k.ledger on.seat going

  module _ (top : StateParts) (top-is : k.ledger.top ≡ Some top) where
    base : Based s.key orders past lines on.fixed k.ledger.opening k.ledger sit top
    base = based s.key orders past lines on.fixed k.ledger.opening k.ledger sit (no-payments on.fixed on.app) top top-is

    backs : Backs k base.last top.outcome
    backs = (ledgers p l k base.last there lends base.own_is).backs p k top.outcome there lends base.among

    -- ---- up

    pub up-fits : k.closing ≡ false → k.is_up ≡ false → (mine : ℕ) → Has real me past lines p (real.named on.fixed) k.child.name k.child.asset mine (k.child.a + k.child.b) → Sets me k.child mine
        → (t : List AssetOutcome) → up_in k.child k.ledger ≡ Some t → is_valid t ≡ true → Fits top.outcome t
    up-fits stays early mine has sets t aim valid =
        subst (Fits top.outcome) t-is
        (up_is_outcome k.child top.outcome base.valid child.named (subst (λ (x : List AssetOutcome). is_valid x ≡ true) (sym t-is) valid), by (names k.child top.outcome) refl)
      where
        t-is : up k.child top.outcome ≡ t
        t-is = some-eq (up k.child top.outcome) t (sym (ap (up_after k.child) top-is) ∙ aim)

        by : (n : Bool) → names k.child top.outcome ≡ n → (up k.child top.outcome ≡ top.outcome) ⊎ IsTarget real me orders past lines on.fixed top.outcome (up k.child top.outcome)
        by true named = inl (ap (λ (z : Bool). cond z top.outcome (outcomes.changed true k.child top.outcome)) named)
        by false absent = inr (record {
          asset = k.child.asset;
          moves = wanted.up p k.child.name mine (k.child.a + k.child.b) in-plan has (sets top.outcome (up k.child top.outcome) u);
          list = u.list;
          others = u.others;
        })
          where
            room : Afford k.child top.outcome
            room = afford (backs.room stays early)
              where
                afford : (names k.child top.outcome ≡ true)
                    ⊎ ((k.child.a ≤ amt (items_in k.child.asset top.outcome) (Person k.child.first)) × (k.child.b ≤ amt (items_in k.child.asset top.outcome) (Person k.child.second))) → Afford k.child top.outcome
                afford (inl named) = absurd (clash (names k.child top.outcome) named absent)
                afford (inr r) = record { one = r.0; other = r.1 }

            u : IsUp k.child top.outcome (up k.child top.outcome)
            u = up_is_up k.child top.outcome base.valid child.people child.sum absent (record { one = backs.one; other = backs.other }) room

    -- ---- down

    -- by amounts of both people that make up what was set aside
    module _ (ab : ℕ × ℕ) (back : k.back ≡ Some ab) (sum : ab.0 + ab.1 ≡ k.child.a + k.child.b) where
      abbrev j : Child
      j = record k.child { a = ab.0; b = ab.1 }

      pub down-fits : (mine : ℕ) → Has real me past lines p (real.named on.fixed) k.child.name k.child.asset mine (ab.0 + ab.1) → Sets me j mine
          → (t : List AssetOutcome) → down_in k.child k.ledger k.back ≡ Some t → is_valid t ≡ true → Fits top.outcome t
      down-fits mine has sets t aim valid =
          subst (Fits top.outcome) t-is
          (down_is_outcome j top.outcome base.valid (subst (λ (x : List AssetOutcome). is_valid x ≡ true) (sym t-is) valid), by (names j top.outcome) refl)
        where
          t-is : down j top.outcome ≡ t
          t-is =
              some-eq (down j top.outcome) t
              (sym (ap (λ (x : Option (ℕ × ℕ)). down_after k.child (Some top) x) back) ∙ (sym (ap (λ (x : Option StateParts). down_after k.child x k.back) top-is) ∙ aim))

          by : (n : Bool) → names j top.outcome ≡ n → (down j top.outcome ≡ top.outcome) ⊎ IsTarget real me orders past lines on.fixed top.outcome (down j top.outcome)
          by false absent = inl (ap (λ (z : Bool). cond z (outcomes.changed false j top.outcome) top.outcome) absent)
          by true named = inr (record {
            asset = k.child.asset;
            moves = wanted.down p k.child.name mine (ab.0 + ab.1) in-plan has (sets (down j top.outcome) top.outcome u);
            list = sym u.list;
            others = λ a other. sym (u.others a other);
          })
            where
              u : IsUp j (down j top.outcome) top.outcome
              u = down_is_up_before j top.outcome base.valid child.people named (backs.amount named ∙ sym sum) (record { one = backs.one; other = backs.other })
