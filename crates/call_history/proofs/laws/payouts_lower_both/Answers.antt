use Rattle.call_history.proofs.Payouts.{transfer_lowers, claim_lowers}
use Rattle.call_history.proofs.laws.payouts_lower_both.Goals as goal

pub returns-clause-transfer : goal.returns-clause-transfer
returns-clause-transfer c = transfer_lowers

pub returns-clause-claim : goal.returns-clause-claim
returns-clause-claim c = claim_lowers
