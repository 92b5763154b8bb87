use Rattle.std.proofs.Common.{◌≡◌, ◌*◌, ◌-◌, ◌^◌, length}
use Rattle.lms_signatures.specs.Types.{chain_count, width}
use Rattle.lms_signatures.specs.Starts.{private_run}
use Rattle.lms_signatures.proofs.Filling.{Filled}
use Rattle.lms_signatures.proofs.secret.Seed.start_runs.Given as goal

abbrev pub invariant-loop-g : goal.invariant-loop-g
invariant-loop-g l = record {
  long : length l.runs ≡ chain_count l.self.ots;
  done : Filled (private_run l.self l.q (2 ^ width l.self.ots - 1)) (chain_count l.self.ots) l.runs (4 * l.g);
}
