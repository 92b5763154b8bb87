use Rattle.fairness_laws.proofs.Ledger.Upright.{ledgers_stand_at_places}
use Rattle.fairness_laws.proofs.fair_laws.ledgers_stand_at_places.Goals as goal

pub returns : goal.returns
returns c = ledgers_stand_at_places
