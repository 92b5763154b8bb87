use Rattle.std.proofs.Common.{◌++◌}
use Rattle.lms_signatures.specs.Ots.{D_PBLC, opening, joined}
use Rattle.lms_signatures.specs.Runs.{run_at, end_of}
use Rattle.sha2.specs.Hashers.{Holds256}
use Rattle.lms_signatures.proofs.runs.hash_of_ends.Given as goal

abbrev pub invariant-loop-i : goal.invariant-loop-i
invariant-loop-i l = Holds256 l.hasher (opening l.id l.index D_PBLC ++ joined (λ i. end_of l.id l.index i (run_at l.runs i)) l.i)
