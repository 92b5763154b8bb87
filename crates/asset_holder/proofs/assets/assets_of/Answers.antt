use Rattle.asset_holder.proofs.Fronts.{assets_of_more}
use Rattle.asset_holder.proofs.assets.assets_of.Goals as goal

pub loop-flow-preserved : goal.loop-flow-preserved
loop-flow-preserved c = assets_of_more _ _ _ _ _ c.loop-flow-test.true c.loop-flow.invariant c.in_ok-insert.ensures.keys
