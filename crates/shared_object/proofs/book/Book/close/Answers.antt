use Rattle.std.proofs.Common.{◌≡◌, ap, sym, ◌∙◌, subst}
use Rattle.shared_object.specs.declared.desk.Desk.{Desk}
use Rattle.shared_object.specs.Caller.{Caller, Ends}
use Rattle.shared_object.proofs.Steps.{closes, level}
use Rattle.shared_object.proofs.Facts.{rests}
use Rattle.shared_object.proofs.book.Book.close.Goals as goal

pub returns-then-ticket-served-clause-whole : goal.returns-then-ticket-served-clause-whole
returns-then-ticket-served-clause-whole g c = λ all. let r = rests _ _ c.seat.invariant in
    absurd (c.if-ticket-served.true (level g.O.OneThread.stands g.O.OneThread.gives _ c.seat.inside.token.me.0 _ _ _ _ c.close_with-closed.ensures.values.2 c.word-ticket.ensures c.word-served.ensures r.0 (r.2 ∙ ap (λ x. x.part) c.seat.view_is ∙ all)))

pub unreachable-requires : goal.unreachable-requires
unreachable-requires g c =
    let e = closes g.O.OneThread.stands g.O.OneThread.gives c.seat.inside.token.table_id _ c.seat.inside.token.me.0 _ _ _ _ _ c.close_with-closed.ensures.values.2 (rests _ _ c.seat.invariant).3 c.word-ticket.ensures c.word-served.ensures c.if-ticket-served.false c.take-slot.ensures.value in
    let is = sym c.in-None.is ∙ e.1 in
    absurd (cc)

pub returns-clause-ok : goal.returns-clause-ok
returns-clause-ok g c =
    let e = closes g.O.OneThread.stands g.O.OneThread.gives c.seat.inside.token.table_id _ c.seat.inside.token.me.0 _ _ _ _ _ c.close_with-closed.ensures.values.2 (rests _ _ c.seat.invariant).3 c.word-ticket.ensures c.word-served.ensures c.if-ticket-served.false c.take-slot.ensures.value in
    let is = sym e.1 ∙ c.in-Some.is in
    let same : e.0 ≡ c.in-Some.desk = cc in
    let v = c.seat.inside.token.me.0 in
    let whose : record { book = c.seat.inside.token.table_id; seen = v.seen; made = v.made; part = v.part } ≡ c.args.seat = (λ i. record { book = c.seat.inside.token.table_id; seen = v.seen; made = v.made; part = (rests _ _ c.seat.invariant).2 i }) ∙ c.seat.view_is in
    subst (λ (x : Caller g.row.O-Entry.Denot). Ends g.O.OneThread.gives x c.in-Some.desk.history.items) whose (subst (λ (d : Desk g.row.O.Denot g.row.O-Entry.Denot). Ends g.O.OneThread.gives (record { book = c.seat.inside.token.table_id; seen = v.seen; made = v.made; part = v.part }) d.history.items) same e.2)
