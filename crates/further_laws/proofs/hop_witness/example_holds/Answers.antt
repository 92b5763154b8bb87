use Rattle.further_laws.proofs.HopExample.{example_holds as holds}
use Rattle.further_laws.proofs.hop_witness.example_holds.Goals as goal

pub returns : goal.returns
returns c = holds
