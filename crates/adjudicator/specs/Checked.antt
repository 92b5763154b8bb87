-- Truth values of the signatures in an op, in their order.
use Rattle.std.specs.Prelude.{◌≡◌, Bool, List, [], Option, Some, None}
use Rattle.channel_values.specs.Rules.{Rules}
use Rattle.channel_values.specs.Support.{verified_marks}
use Rattle.call_history.specs.declared.call.Call.TheVariants.{Challenge, Respond, Refute, Checkpoint, Conclude}
use Rattle.call_history.specs.declared.call.Op.{Op}
use Rattle.call_history.specs.declared.call.Op.TheVariants as ops
use Rattle.adjudicator.specs.Values.{challenge_values, answer_values}

-- whether each signature verifies: those of a chain's marks, and last a call's own
abbrev pub values_of : Rules → Op → List Bool
values_of r (ops.Call (Challenge k)) = challenge_values r k.chain k.challenger k.signature
values_of r (ops.Call (Respond k)) = answer_values r k.fixed k.next
values_of r (ops.Call (Refute fixed next)) = answer_values r fixed next
values_of r (ops.Call (Checkpoint chain)) = verified_marks r chain
values_of r (ops.Call (Conclude chain)) = verified_marks r chain
values_of r _ = []

-- the signatures were checked, with these values, or are yet to be
abbrev pub AreKnown : List Bool → Option (List Bool) → Type 0
AreKnown values None = Unit {0}
AreKnown values (Some verified) = verified ≡ values
