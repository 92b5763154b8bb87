use Rattle.std.proofs.Common.{◌≡◌, ℕ, ◌<◌, length}
use Rattle.lms_signatures.specs.Types.{chain_count}
use Rattle.lms_signatures.specs.Runs.{run_at, signed_run}
use Rattle.lms_signatures.proofs.ots.start_runs.Given as goal

abbrev pub invariant-loop-i : goal.invariant-loop-i
invariant-loop-i l = record {
  long : length l.runs ≡ chain_count l.ots;
  done : (k : ℕ) → k < l.i → run_at l.runs k ≡ signed_run l.ots l.hash l.chains k;
}
