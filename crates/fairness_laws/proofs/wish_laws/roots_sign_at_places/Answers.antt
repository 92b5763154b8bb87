use Rattle.fairness_laws.proofs.Places.{at_places}
use Rattle.fairness_laws.proofs.wish_laws.roots_sign_at_places.Goals as goal

pub returns : goal.returns
returns c = at_places
