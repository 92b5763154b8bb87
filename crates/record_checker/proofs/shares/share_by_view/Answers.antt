use Rattle.record_checker.proofs.Joining.{share_told}
use Rattle.record_checker.proofs.shares.share_by_view.Goals as goal

pub returns : goal.returns
returns c = share_told c.share.result c.args.past.now c.args.plan.now c.args.known.now c.args.asset c.in_ok-view.view c.requires c.in_ok-view.ensures c.share.ensures
