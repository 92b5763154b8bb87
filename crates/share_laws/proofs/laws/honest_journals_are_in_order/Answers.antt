use Rattle.share_laws.proofs.Lasting.{journals_in_order}
use Rattle.share_laws.proofs.laws.honest_journals_are_in_order.Goals as goal

pub returns : goal.returns
returns c = journals_in_order
