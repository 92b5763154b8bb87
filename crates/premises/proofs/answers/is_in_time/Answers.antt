use Rattle.std.proofs.Common.{ℕ, IfOk, IsTrue, ◌↔◌, List, reverse, subst}
use Rattle.channel_values.specs.Parts.{FixedParts}
use Rattle.call_history.specs.History.{newest_first}
use Rattle.call_history.specs.declared.event.Event.{Event}
use Rattle.channel_safety.specs.Journals.{lines}
use Rattle.channel_safety.specs.Premises.{InTime}
use Rattle.support_rules.specs.Real.{real}
use Rattle.premises.proofs.answers.is_in_time.Goals as goal

pub returns : goal.returns
returns c =
    subst (λ (events : List Event). IfOk c.looks_in_time.result (λ b. (adds : ℕ → List FixedParts) → IsTrue b ↔ InTime real (newest_first c.args.history.now) (lines adds (reverse events)))) c.as_slice.ensures
    c.looks_in_time.ensures
