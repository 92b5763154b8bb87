use Rattle.std.proofs.Common.{◌≡◌, ℕ, ◌<◌, length, slice_index}
use Rattle.lms_signatures.specs.Runs.{EndsAlike}
use Rattle.lms_signatures.proofs.runs.sweep.Given as goal

abbrev pub invariant-loop-i : goal.invariant-loop-i
invariant-loop-i l = record {
  long : length l.runs ≡ length l.fn.runs;
  alike : EndsAlike l.id l.index l.fn.runs l.runs;
  lanes : (k : ℕ) → k < 4 → slice_index l.lanes k < length l.fn.runs;
  n : l.n < 4;
}
