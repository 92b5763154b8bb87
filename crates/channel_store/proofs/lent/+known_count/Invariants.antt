use Rattle.std.proofs.Common.{length}
use Rattle.channel_store.proofs.lent.+known_count.Given as goal

abbrev pub decreases-known_count : goal.decreases-known_count
decreases-known_count l = length l.kept.now
