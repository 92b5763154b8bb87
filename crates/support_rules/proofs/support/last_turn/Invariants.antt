use Rattle.std.proofs.Common.{◌≡◌}
use Rattle.channel_values.specs.Rows as rows
use Rattle.support_rules.proofs.support.last_turn.Given as goal

abbrev pub invariant-loop-last : goal.invariant-loop-last
invariant-loop-last l = rows.last_turn l.n l.j l.last ≡ rows.last_turn l.n l.j l.turn

abbrev pub decreases-loop-last : goal.decreases-loop-last
decreases-loop-last l = l.last
