use Rattle.std.proofs.Common.{◌≡◌, ◌-◌}
use Rattle.lms_signatures.specs.Ots.{chain}
use Rattle.lms_signatures.proofs.ots.chain.Given as goal

abbrev pub invariant-loop-j : goal.invariant-loop-j
invariant-loop-j l = l.tmp ≡ chain l.id l.index l.fn.i l.from (l.j - l.from) l.fn.start
