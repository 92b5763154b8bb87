use Rattle.further_laws.proofs.RacePremised.{premises-hold}
use Rattle.further_laws.proofs.race_witness.premises_can_hold.Goals as goal

pub returns : goal.returns
returns c = premises-hold
