use Rattle.fairness_laws.proofs.Guard.Parts.{parts_sign_at_places}
use Rattle.fairness_laws.proofs.fair_laws.parts_sign_at_places.Goals as goal

pub returns : goal.returns
returns c = parts_sign_at_places
