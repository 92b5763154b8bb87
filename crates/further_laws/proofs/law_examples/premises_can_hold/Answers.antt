use Rattle.further_laws.proofs.Premises.{premises_hold}
use Rattle.further_laws.proofs.law_examples.premises_can_hold.Goals as goal

pub returns : goal.returns
returns c = premises_hold
