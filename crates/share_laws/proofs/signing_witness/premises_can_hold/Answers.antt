use Rattle.share_laws.proofs.MovesExample.{premises_hold}
use Rattle.share_laws.proofs.signing_witness.premises_can_hold.Goals as goal

pub returns : goal.returns
returns c = premises_hold
