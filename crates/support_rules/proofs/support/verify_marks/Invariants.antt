use Rattle.std.proofs.Common.{◌≡◌, ◌++◌, drop, length}
use Rattle.channel_values.specs.Support.{verified_from}
use Rattle.support_rules.specs.Real.{real}
use Rattle.support_rules.proofs.support.verify_marks.Given as goal

abbrev pub invariant-loop-j : goal.invariant-loop-j
invariant-loop-j l =
    (length l.verified.items ≡ l.j)
    × (l.verified.items ++ verified_from real l.fixed l.states l.j (drop l.j l.marks) ≡ verified_from real l.fixed l.states 0 l.marks)
