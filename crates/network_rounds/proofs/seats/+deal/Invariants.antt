use Rattle.std.proofs.Common.{length}
use Rattle.network_rounds.proofs.seats.+deal.Given as goal

abbrev pub decreases-deal : goal.decreases-deal
decreases-deal g l = length l.workers.items
