use Rattle.share_laws.proofs.ShareExample.{example_holds as holds}
use Rattle.share_laws.proofs.share_witness.example_holds.Goals as goal

pub returns : goal.returns
returns c = holds
