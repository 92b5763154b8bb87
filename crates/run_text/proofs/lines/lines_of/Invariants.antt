use Rattle.std.proofs.Common.{◌≡◌, ◌≤◌, length, take}
use Rattle.run_text.specs.Lines.{line_feeds}
use Rattle.run_text.proofs.lines.lines_of.Given as goal

abbrev pub invariant-loop-i : goal.invariant-loop-i
invariant-loop-i l = (l.start ≤ l.i) × (length l.lines.items ≡ line_feeds (take l.i l.text))
