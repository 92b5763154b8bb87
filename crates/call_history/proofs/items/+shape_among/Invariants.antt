use Rattle.std.proofs.Common.{length}
use Rattle.call_history.proofs.items.+shape_among.Given as goal

abbrev pub decreases-shape_among : goal.decreases-shape_among
decreases-shape_among l = length l.assets.now
