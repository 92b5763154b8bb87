use Rattle.share_laws.proofs.Becoming as becoming
use Rattle.share_laws.proofs.shares.payments_lower_shares.Goals as goal

pub returns : goal.returns
returns c = becoming.payments_lower_shares
