use Rattle.std.proofs.Common.{◌≡◌, ◌/◌, ◌^◌}
use Rattle.lms_signatures.specs.Tree.{climb}
use Rattle.lms_signatures.proofs.tree.climb.Given as goal

abbrev pub invariant-loop-i : goal.invariant-loop-i
invariant-loop-i l = record { tmp : l.tmp ≡ climb l.id l.r l.path l.fn.start l.i; node : l.node ≡ l.r / 2 ^ l.i }
