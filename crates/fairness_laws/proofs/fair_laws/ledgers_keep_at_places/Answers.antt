use Rattle.fairness_laws.proofs.Ledger.AtPlaces.{ledgers_keep_at_places}
use Rattle.fairness_laws.proofs.fair_laws.ledgers_keep_at_places.Goals as goal

pub returns : goal.returns
returns c = ledgers_keep_at_places
