use Rattle.std.proofs.Common.{None, ◌∙◌, arith}
use Rattle.shared_object.proofs.Tokens.{carried, with_desk, noted_at, passed_at}
use Rattle.shared_object.proofs.Steps.{notes_same_at, passes_at}
use Rattle.shared_object.proofs.turn.give_same.Goals as goal

pub exchange-requires : goal.exchange-requires
exchange-requires g c = (c.requires.table.1, (None, carried _ _ c.requires.turn.0))

pub store-requires : goal.store-requires
store-requires g c = (
  c.exchange.ensures.0 ∙ c.requires.table.1,
  omega arith,
  notes_same_at g.O.OneThread.stands g.O.OneThread.gives _ _ _ c.args.token.now.me.0 c.args.desk _ (with_desk _ _ _ c.requires.turn.0 c.exchange.ensures.3) c.requires.turn.1 c.requires.same (c.len-count.ensures ∙ c.args.desk.history.ok.0),
)

pub fetch_add-requires : goal.fetch_add-requires
fetch_add-requires g c = (
  c.store.ensures.0 ∙ c.exchange.ensures.0 ∙ c.requires.table.1,
  omega arith,
  passes_at g.O.OneThread.stands g.O.OneThread.gives _ _ _ c.args.token.now.me.0 c.args.desk _ (noted_at _ _ _ c.args.desk (λ l. l) (with_desk _ _ _ c.requires.turn.0 c.exchange.ensures.3) c.store.ensures.2) c.requires.turn.1 c.requires.turn.2 c.requires.stands,
)

pub returns : goal.returns
returns g c =
    let at = noted_at _ _ _ c.args.desk (λ l. l) (with_desk _ _ _ c.requires.turn.0 c.exchange.ensures.3) c.store.ensures.2 in (
      c.fetch_add.ensures.0 ∙ c.store.ensures.0 ∙ c.exchange.ensures.0 ∙ c.requires.table.1,
      passed_at _ _ c.args.token.now.me.0 c.args.desk _ _ at c.fetch_add.ensures.2,
    )
