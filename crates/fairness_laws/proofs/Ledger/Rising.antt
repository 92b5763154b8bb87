-- A channel that isn't a ledger is signed: a part goes past its set-up only once its ledger has gone up.
use Rattle.std.proofs.Common.{◌≡◌, ℕ, ◌≤◌, true, false, List, [], ◌∷◌, ◌⊎◌, inl, inr, length, sym, ◌∙◌, ap, subst}
use Rattle.std.specs.Prelude.{is_ok, Option, Some, Result}
use Rattle.channel_values.proofs.Format.{valid_again, spelled_once}
use Rattle.channel_values.proofs.Formats.{outcome_format}
use Rattle.channel_values.specs.Outcomes.{IsOutcome}
use Rattle.channel_values.specs.Parts.{StateParts}
use Rattle.channel_values.specs.Reading.{outcome_of}
use Rattle.channel_values.specs.Spelling.{outcome}
use Rattle.channel_values.specs.declared.fault.ByteFault.{ByteFault}
use Rattle.channel_values.specs.declared.value.AssetOutcome.{AssetOutcome}
use Rattle.support_rules.specs.Ballots.{ballot_of}
use Rattle.support_rules.specs.Rules.{is_same_outcome}
use Rattle.support_rules.specs.Toward.{is_settled, has_no_votes}
use Rattle.channel_safety.proofs.Tests.{clash, and-left, and-right, cond-true}
use Rattle.call_history.proofs.Names.{same_bytes}
use Rattle.channel_values.specs.declared.value.Dest.TheVariants.{Person}
use Rattle.channel_values.specs.Amounts.{amt}
use Rattle.funding_plans.specs.Shapes.{items_in}
use Rattle.funding_plans.specs.Limits.{is_valid}
use Rattle.funding_plans.specs.Outcomes.{names, up, changed}
use Rattle.share_laws.specs.Places.{outcomes_of}
use Rattle.funding_plans.specs.Seats.{settled_on, up_in, up_after}
use Rattle.fairness_laws.proofs.Truths.{either}
use Rattle.fairness_laws.proofs.Outcomes.{alone as alone-if, bare-data}
use Rattle.fairness_laws.specs.LedgerKeeping.{HasGoneUp, Backs}
use Rattle.fairness_laws.specs.LedgerLending.{Lent}
use Rattle.fairness_laws.specs.LedgerMoving.{Afford}
use Rattle.fairness_laws.specs.LedgerWanting.{IsChild}
use Rattle.fairness_laws.proofs.Ledger.Moving.{up_is_up, up_is_outcome}

-- settled on the target up
pub went-up : (k : Lent) (last top : StateParts) → k.ledger.top ≡ Some top → k.ledger.own ≡ Some last → IsOutcome last.outcome → IsOutcome top.outcome → IsChild k.child
    → Backs k last top.outcome → k.closing ≡ false → k.is_up ≡ false → settled_on (up_in k.child k.ledger) k.ledger ≡ true → HasGoneUp k last
went-up k last top top-is own-is valid-last valid-top child backs closing early settled =
    record { alone = alone; named = subst (λ (o : List AssetOutcome). names k.child o ≡ true) (sym same) (target-names (either (names k.child top.outcome))) }
  where
    target : List AssetOutcome
    target = up k.child top.outcome

    is-settled-on : is_settled (length k.ledger.people) target (Some last) ≡ true
    is-settled-on =
        subst (λ (o : Option StateParts). is_settled (length k.ledger.people) (up k.child top.outcome) o ≡ true) own-is
        (subst (λ (o : Option StateParts). settled_on (up_after k.child o) k.ledger ≡ true) top-is settled)

    spelled : is_same_outcome last.outcome target ≡ true
    spelled = and-left (is_same_outcome last.outcome target) (has_no_votes (ballot_of (length k.ledger.people) last.app_bytes)) is-settled-on

    alone : outcomes_of last ≡ last.outcome ∷ []
    alone =
        alone-if last
        (bare-data (length k.ledger.people) last.app_bytes (and-right (is_same_outcome last.outcome target) (has_no_votes (ballot_of (length k.ledger.people) last.app_bytes)) is-settled-on))

    readable : is_valid target ≡ true
    readable =
        ap (λ (bytes : List ℕ). is_ok (outcome_of bytes)) (sym (same_bytes (outcome last.outcome) (outcome target) spelled))
        ∙ ap (λ (r : Result (List AssetOutcome) ByteFault). is_ok r) (valid_again outcome_format last.outcome valid-last)

    same : last.outcome ≡ target
    same = spelled_once outcome_format last.outcome target valid-last (up_is_outcome k.child top.outcome valid-top child.named readable) (same_bytes (outcome last.outcome) (outcome target) spelled)

    target-names : (names k.child top.outcome ≡ true) ⊎ (names k.child top.outcome ≡ false) → names k.child target ≡ true
    target-names (inl named) = subst (λ (o : List AssetOutcome). names k.child o ≡ true) (sym (cond-true (names k.child top.outcome) top.outcome (changed true k.child top.outcome) named)) named
    target-names (inr none) =
        (up_is_up k.child top.outcome valid-top child.people child.sum none (record { one = backs.one; other = backs.other }) (afford (backs.room closing early))).one.named
      where
        afford : (names k.child top.outcome ≡ true) ⊎ ((k.child.a ≤ amt (items_in k.child.asset top.outcome) (Person k.child.first)) × (k.child.b ≤ amt (items_in k.child.asset top.outcome) (Person k.child.second))) → Afford k.child top.outcome
        afford (inl named) = absurd (clash (names k.child top.outcome) named none)
        afford (inr room) = record { one = room.0; other = room.1 }
