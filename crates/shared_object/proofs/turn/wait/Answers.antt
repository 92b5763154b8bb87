use Rattle.std.proofs.Common.{sym, ◌∙◌, arith}
use Rattle.shared_object.proofs.Steps.{sees}
use Rattle.shared_object.proofs.Tokens.{took_from}
use Rattle.shared_object.proofs.turn.wait.Goals as goal

pub load-served-requires : goal.load-served-requires
load-served-requires g c = let i = c.loop.invariant in (
  i.table,
  omega arith,
  sees g.O.OneThread.stands g.O.OneThread.gives _ _ c.loop.token.me i.one i.free i.none_told,
)

pub returns-then-served-ticket : goal.returns-then-served-ticket
returns-then-served-ticket g c = let i = c.loop.invariant in let e = c.load-served.ensures in (
  e.0 ∙ i.table,
  took_from g.O.OneThread.stands g.O.OneThread.gives _ _ _ i.keeps i.empty (e.2.0 (c.if-served-ticket.true ∙ sym i.ticket_is)),
)
