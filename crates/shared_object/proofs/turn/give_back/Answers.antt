use Rattle.std.proofs.Common.{None, ◌∙◌, arith}
use Rattle.shared_object.proofs.Tokens.{carried, with_desk, left_at}
use Rattle.shared_object.proofs.Steps.{gives_back_at}
use Rattle.shared_object.proofs.turn.give_back.Goals as goal

pub exchange-requires : goal.exchange-requires
exchange-requires g c = (c.requires.table.1, (None, carried _ _ c.requires.turn.0))

pub fetch_add-requires : goal.fetch_add-requires
fetch_add-requires g c = (
  c.exchange.ensures.0 ∙ c.requires.table.1,
  omega arith,
  gives_back_at g.O.OneThread.stands g.O.OneThread.gives _ _ _ c.args.token.now.me.0 c.args.desk (with_desk _ _ _ c.requires.turn.0 c.exchange.ensures.3) c.requires.turn.1 c.requires.turn.2 c.requires.same c.requires.stands,
)

pub returns : goal.returns
returns g c = (
  c.fetch_add.ensures.0 ∙ c.exchange.ensures.0 ∙ c.requires.table.1,
  left_at _ _ c.args.token.now.me.0 c.args.desk (with_desk _ _ _ c.requires.turn.0 c.exchange.ensures.3) c.fetch_add.ensures.2,
)
