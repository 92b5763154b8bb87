use Rattle.funding_plans.proofs.Found.{means, found}
use Rattle.funding_plans.proofs.laws.amounts_are_found.Goals as goal

pub returns-clause-means : goal.returns-clause-means
returns-clause-means c v os ab h = means v os ab h

pub returns-clause-found : goal.returns-clause-found
returns-clause-found c v ab e = found v ab e
