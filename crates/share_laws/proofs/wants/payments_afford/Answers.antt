use Rattle.share_laws.proofs.Wishes as wanted
use Rattle.share_laws.proofs.wants.payments_afford.Goals as goal

pub returns : goal.returns
returns c = wanted.payments_afford
