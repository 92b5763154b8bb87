use Rattle.history_view.proofs.Lowered.{lower_more}
use Rattle.history_view.proofs.lowering.lowered_assets.Goals as goal

pub loop-o-preserved : goal.loop-o-preserved
loop-o-preserved c =
    lower_more c.args.assets.now c.args.asset c.args.place c.args.amount c.loop-o.o-index c.o-item.result c.in_ok-less.less c.loop-o.lowered.items c.push.new.self.items
    c.loop-o-test.true c.o-item.is c.in_ok-less.ensures c.loop-o.invariant c.in_ok-push.ensures.items
