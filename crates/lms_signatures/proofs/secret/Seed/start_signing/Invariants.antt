use Rattle.std.proofs.Common.{◌≡◌, ℕ, ◌<◌, ◌≤◌, ◌-◌, ◌^◌, length}
use Rattle.lms_signatures.specs.Types.{chain_count, width}
use Rattle.lms_signatures.specs.Ots.{digit}
use Rattle.lms_signatures.specs.Runs.{run_at}
use Rattle.lms_signatures.specs.Starts.{private_run}
use Rattle.lms_signatures.proofs.secret.Seed.start_signing.Given as goal

abbrev pub invariant-loop-i : goal.invariant-loop-i
invariant-loop-i l = record {
  long : length l.runs ≡ chain_count l.self.ots;
  done : (k : ℕ) → k < l.i → run_at l.runs k ≡ private_run l.self l.q (digit l.self.ots l.hash k) k;
  rest : (k : ℕ) → l.i ≤ k → k < chain_count l.self.ots → run_at l.runs k ≡ private_run l.self l.q (2 ^ width l.self.ots - 1) k;
}
