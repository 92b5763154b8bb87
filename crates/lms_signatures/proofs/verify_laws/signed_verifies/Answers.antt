use Rattle.lms_signatures.proofs.Signed.{is_signed-Decides}
use Rattle.lms_signatures.proofs.verify_laws.signed_verifies.Goals as goal

pub returns : goal.returns
returns c = is_signed-Decides
