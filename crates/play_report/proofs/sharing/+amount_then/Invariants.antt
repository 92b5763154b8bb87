use Rattle.std.proofs.Common.{length}
use Rattle.play_report.proofs.sharing.+amount_then.Given as goal

abbrev pub decreases-amount_then : goal.decreases-amount_then
decreases-amount_then l = length l.amounts.now
