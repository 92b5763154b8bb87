use Rattle.std.proofs.Common.{◌≡◌, length}
use Rattle.lms_signatures.specs.Runs.{EndsAlike}
use Rattle.lms_signatures.proofs.runs.run_chains.Given as goal

abbrev pub invariant-loop-i : goal.invariant-loop-i
invariant-loop-i l = record {
  long : length l.runs ≡ length l.fn.runs;
  alike : EndsAlike l.id l.index l.fn.runs l.runs;
}
