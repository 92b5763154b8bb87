use Rattle.std.proofs.Common.{length}
use Rattle.channel_exits.proofs.assets.+assets_of.Given as goal

abbrev pub decreases-assets_of : goal.decreases-assets_of
decreases-assets_of l = length l.channels.now
