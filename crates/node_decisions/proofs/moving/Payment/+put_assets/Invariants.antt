use Rattle.std.proofs.Common.{length}
use Rattle.node_decisions.proofs.moving.Payment.+put_assets.Given as goal

abbrev pub decreases-put_assets : goal.decreases-put_assets
decreases-put_assets l = length l.assets.now
