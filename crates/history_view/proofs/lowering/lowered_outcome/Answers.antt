use Rattle.std.proofs.Common.{List, sym, ◌∙◌, ap, subst}
use Rattle.channel_values.specs.Outcomes.{IsOutcome}
use Rattle.channel_values.specs.declared.value.AssetOutcome.{AssetOutcome}
use Rattle.call_history.specs.Rest.{lower_outcome}
use Rattle.history_view.proofs.Lowered.{lowered_is_outcome}
use Rattle.history_view.proofs.lowering.lowered_outcome.Goals as goal

pub outcome_of-requires : goal.outcome_of-requires
outcome_of-requires c =
    subst (λ (os : List AssetOutcome). IsOutcome os)
    (sym (c.in_ok-assets.ensures ∙ ap (λ (os : List AssetOutcome). lower_outcome os c.args.asset c.args.place c.args.amount) c.assets.ensures.value))
    (lowered_is_outcome c.args.outcome.now c.args.asset c.args.place c.args.amount c.assets.ensures.valid)
