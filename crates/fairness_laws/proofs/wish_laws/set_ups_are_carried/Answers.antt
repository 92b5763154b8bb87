use Rattle.fairness_laws.proofs.Carried.{set_ups_are_carried as carried}
use Rattle.fairness_laws.proofs.wish_laws.set_ups_are_carried.Goals as goal

pub returns : goal.returns
returns c = carried
