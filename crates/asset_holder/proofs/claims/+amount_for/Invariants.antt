use Rattle.std.proofs.Common.{length}
use Rattle.asset_holder.proofs.claims.+amount_for.Given as goal

abbrev pub decreases-amount_for : goal.decreases-amount_for
decreases-amount_for l = length l.items.now
