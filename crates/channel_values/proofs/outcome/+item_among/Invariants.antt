use Rattle.std.proofs.Common.{length}
use Rattle.channel_values.proofs.outcome.+item_among.Given as goal

abbrev pub decreases-item_among : goal.decreases-item_among
decreases-item_among l = length l.assets.now
