-- What an entry says of a row by its op and its reply alone.
use Rattle.std.specs.Prelude.{ℕ, Option, Some, None}
use Rattle.channel_values.specs.Rules.{top_turn}
use Rattle.call_history.specs.declared.call.Call.TheVariants.{Challenge}
use Rattle.call_history.specs.declared.call.Op.{Op}
use Rattle.call_history.specs.declared.call.Op.TheVariants as ops
use Rattle.call_history.specs.declared.refusal.Reply.{Reply}
use Rattle.call_history.specs.declared.refusal.Reply.TheVariants.{Until, Opened, Concluded}

-- the turn of a challenge's chain
abbrev pub challenged_turn : Op → ℕ
challenged_turn (ops.Call (Challenge k)) = top_turn k.chain.states
challenged_turn _ = 0

-- the recorded turn and the deadline after an accepted call on a row, from the time of the call
abbrev pub told_row : ℕ → Op → Reply → Option (ℕ × Option ℕ)
told_row now op (Until deadline) = Some (challenged_turn op, Some deadline)
told_row now op (Opened turn) = Some (turn, None)
told_row now op (Concluded turn) = Some (turn, Some now)
told_row now op _ = None
