use Rattle.fairness_laws.proofs.RootWishes.{roots_sign}
use Rattle.fairness_laws.proofs.wish_laws.roots_sign_what_they_want.Goals as goal

pub returns : goal.returns
returns c = roots_sign
