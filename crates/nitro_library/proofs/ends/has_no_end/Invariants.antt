use Rattle.std.proofs.Common.{◌≡◌, length}
use Rattle.nitro_library.specs.Endings.{is_part}
use Rattle.nitro_library.proofs.ends.has_no_end.Given as goal

abbrev pub invariant-loop-rest : goal.invariant-loop-rest
invariant-loop-rest l = is_part l.line ≡ is_part l.rest

abbrev pub decreases-loop-rest : goal.decreases-loop-rest
decreases-loop-rest l = length l.rest
