-- The fixed part, the states and the outcomes of a valid op are such.
use Rattle.std.specs.Prelude.{IfSome}
use Rattle.std.specs.List.{AllByRecursion}
use Rattle.channel_values.specs.Outcomes.{IsOutcome}
use Rattle.channel_values.specs.Parts.{IsFixed, IsState}
use Rattle.call_history.specs.Rows.{fixed_of}
use Rattle.call_history.specs.declared.call.Call.TheVariants.{Deposit, Challenge, Respond, Refute, Checkpoint, Conclude, Transfer, Claim}
use Rattle.call_history.specs.declared.call.Op.{Op}
use Rattle.call_history.specs.declared.call.Op.TheVariants as ops
use Rattle.channel_safety.specs.Strings.{states_in, given_in}
use Rattle.channel_safety.specs.Valid.{IsValidOp}

pub valid-fixed : (op : Op) → IsValidOp op → IfSome (fixed_of op) IsFixed
valid-fixed (ops.Call (Deposit d)) v = tt
valid-fixed (ops.Call (Challenge k)) v = v.0
valid-fixed (ops.Call (Respond k)) v = v.0
valid-fixed (ops.Call (Refute f next)) v = v.0
valid-fixed (ops.Call (Checkpoint chain)) v = v.0
valid-fixed (ops.Call (Conclude chain)) v = v.0
valid-fixed (ops.Call (Transfer k)) v = tt
valid-fixed (ops.Call (Claim k)) v = tt
valid-fixed (ops.Time t) v = tt

pub valid-states : (op : Op) → IsValidOp op → AllByRecursion IsState (states_in op)
valid-states (ops.Call (Deposit d)) v = tt
valid-states (ops.Call (Challenge k)) v = v.1
valid-states (ops.Call (Respond k)) v = (v.1, (v.2, tt))
valid-states (ops.Call (Refute f next)) v = (v.1, tt)
valid-states (ops.Call (Checkpoint chain)) v = v.1
valid-states (ops.Call (Conclude chain)) v = v.1
valid-states (ops.Call (Transfer k)) v = tt
valid-states (ops.Call (Claim k)) v = tt
valid-states (ops.Time t) v = tt

pub valid-given : (op : Op) → IsValidOp op → AllByRecursion IsOutcome (given_in op)
valid-given (ops.Call (Deposit d)) v = tt
valid-given (ops.Call (Challenge k)) v = tt
valid-given (ops.Call (Respond k)) v = tt
valid-given (ops.Call (Refute f next)) v = tt
valid-given (ops.Call (Checkpoint chain)) v = tt
valid-given (ops.Call (Conclude chain)) v = tt
valid-given (ops.Call (Transfer k)) v = (v, tt)
valid-given (ops.Call (Claim k)) v = (v.0, (v.1, tt))
valid-given (ops.Time t) v = tt
