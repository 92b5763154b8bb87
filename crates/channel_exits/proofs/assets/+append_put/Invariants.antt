use Rattle.std.proofs.Common.{length}
use Rattle.channel_exits.proofs.assets.+append_put.Given as goal

abbrev pub decreases-append_put : goal.decreases-append_put
decreases-append_put l = length l.others.now
