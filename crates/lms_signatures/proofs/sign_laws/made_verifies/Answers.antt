use Rattle.lms_signatures.proofs.Signatures.{made_verifies}
use Rattle.lms_signatures.proofs.sign_laws.made_verifies.Goals as goal

pub returns : goal.returns
returns c = made_verifies
