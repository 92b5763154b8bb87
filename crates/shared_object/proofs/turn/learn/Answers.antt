use Rattle.std.proofs.Common.{arith}
use Rattle.shared_object.proofs.Steps.{learns}
use Rattle.shared_object.proofs.turn.learn.Goals as goal

pub load-requires : goal.load-requires
load-requires g c = (c.requires.table.1, omega arith, learns g.O.OneThread.stands g.O.OneThread.gives _ _ c.args.token.now.me c.requires.idle.0 c.requires.idle.1 c.requires.idle.2)
