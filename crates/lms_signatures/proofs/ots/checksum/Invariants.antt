use Rattle.std.proofs.Common.{◌≡◌, ◌≤◌, ◌*◌}
use Rattle.lms_signatures.specs.Types.{width}
use Rattle.lms_signatures.specs.Ots.{coef_gap}
use Rattle.lms_signatures.proofs.ots.checksum.Given as goal

abbrev pub invariant-loop-i : goal.invariant-loop-i
invariant-loop-i l = record { gap : l.sum ≡ coef_gap l.s (width l.ots) l.i; small : l.sum ≤ l.max_digit * l.i }
