use Rattle.share_laws.proofs.Payments.{payments_lower}
use Rattle.share_laws.proofs.moves.payments_lower_worth.Goals as goal

pub returns : goal.returns
returns c = payments_lower
