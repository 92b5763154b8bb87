use Rattle.std.proofs.Common.{◌≡◌, drop, length}
use Rattle.channel_values.specs.Rows as rows
use Rattle.support_rules.proofs.support.marked_turn.Given as goal

abbrev pub invariant-loop-j : goal.invariant-loop-j
invariant-loop-j l =
    rows.marks_fault (length l.chain.fixed.keys) l.turn l.chain.states l.j (drop l.j l.chain.marks) (drop l.j l.verified)
    ≡ rows.marks_fault (length l.chain.fixed.keys) l.turn l.chain.states 0 l.chain.marks l.verified
