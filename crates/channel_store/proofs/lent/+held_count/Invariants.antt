use Rattle.std.proofs.Common.{length}
use Rattle.channel_store.proofs.lent.+held_count.Given as goal

abbrev pub decreases-held_count : goal.decreases-held_count
decreases-held_count l = length l.kept.now
