use Rattle.std.proofs.Common.{arith}
use Rattle.lms_signatures.proofs.Beside.{moved_alike}
use Rattle.lms_signatures.proofs.runs.moved.Goals as goal

pub returns-then-run : goal.returns-then-run
returns-then-run c = λ id q i e. moved_alike id q i _ _ _ _ (omega arith) e
