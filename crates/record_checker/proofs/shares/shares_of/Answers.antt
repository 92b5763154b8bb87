use Rattle.record_checker.specs.Seen.{share_by}
use Rattle.record_checker.proofs.Joining.{shares_more}
use Rattle.record_checker.proofs.shares.shares_of.Goals as goal

pub loop-asset-preserved : goal.loop-asset-preserved
loop-asset-preserved c =
    shares_more (share_by c.args.past.now c.args.plan.now c.args.known.now) c.args.assets.now c.loop-asset.asset-index c.loop-asset.all.items c.push.new.self.items c.in_ok-amount.amount
    c.loop-asset-test.true c.in_ok-amount.ensures c.loop-asset.invariant c.in_ok-push.ensures.items
