use Rattle.std.proofs.Common.{arith}
use Rattle.lms_signatures.proofs.Beside.{ended}
use Rattle.lms_signatures.proofs.runs.end_of.Goals as goal

pub returns-else-run : goal.returns-else-run
returns-else-run c = ended _ _ _ _ _ _ (omega arith)
