use Rattle.lms_signatures.proofs.Signers.{made_is_signed}
use Rattle.lms_signatures.proofs.sign_laws.made_is_signed.Goals as goal

pub returns : goal.returns
returns c = made_is_signed
