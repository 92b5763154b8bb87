use Rattle.std.proofs.Common.{length}
use Rattle.plan_share.proofs.owed.+is_owed_among.Given as goal

abbrev pub decreases-is_owed_among : goal.decreases-is_owed_among
decreases-is_owed_among l = length l.assets.now
