use Rattle.std.proofs.Common.{length}
use Rattle.channel_exits.proofs.exits.+first_not_final.Given as goal

abbrev pub decreases-first_not_final : goal.decreases-first_not_final
decreases-first_not_final l = length l.parts.now
