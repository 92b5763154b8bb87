use Rattle.lms_signatures.proofs.StartRuns.{no_index_twice}
use Rattle.lms_signatures.proofs.sign_laws.no_index_twice.Goals as goal

pub returns : goal.returns
returns c = no_index_twice
