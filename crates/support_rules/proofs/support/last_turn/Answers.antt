use Rattle.std.proofs.Common.{arith}
use Rattle.channel_values.proofs.Turns.{turn_none, turn_here}
use Rattle.support_rules.proofs.support.last_turn.Goals as goal

pub returns-after-loop-last : goal.returns-after-loop-last
returns-after-loop-last c = grind (arith, turn_none, turn_here, c.loop-last.invariant)
