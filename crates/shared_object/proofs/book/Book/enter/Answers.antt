use Rattle.std.proofs.Common.{[], length, Err, sym, ap, ◌∙◌, arith}
use Rattle.shared_object.specs.Turns.{idle}
use Rattle.shared_object.proofs.Facts.{entered, looked}
use Rattle.shared_object.proofs.Entries.{has_own}
use Rattle.shared_object.proofs.book.Book.enter.Goals as goal

pub invariant_of-seat : goal.invariant_of-seat
invariant_of-seat g c =
    (entered g.O.OneThread.stands g.O.OneThread.gives g.O.OneThread.reply _ _ _ _ _ _ _ c.seat.inside.token c.take-desk.new.token c.give_more.new.token _ _ c.seat.invariant c.seat.view_is (ap (λ x. x.book) c.seat.view_is ∙ c.requires ∙ sym c.self.view_is) c.take-desk.ensures c.in-Ok.ensures.ok c.give_more.ensures.0 c.give_more.ensures.1).0

pub returns-in-Ok-clause-sound : goal.returns-in-Ok-clause-sound
returns-in-Ok-clause-sound g c = (invariant_of-seat g c).sound

pub returns-in-Ok-clause-ok : goal.returns-in-Ok-clause-ok
returns-in-Ok-clause-ok g c =
    (entered g.O.OneThread.stands g.O.OneThread.gives g.O.OneThread.reply _ _ _ _ _ _ _ c.seat.inside.token c.take-desk.new.token c.give_more.new.token _ _ c.seat.invariant c.seat.view_is (ap (λ x. x.book) c.seat.view_is ∙ c.requires ∙ sym c.self.view_is) c.take-desk.ensures c.in-Ok.ensures.ok c.give_more.ensures.0 c.give_more.ensures.1).1

pub returns-in-Ok-clause-entry : goal.returns-in-Ok-clause-entry
returns-in-Ok-clause-entry g c =
    has_own g.O.OneThread.number_of g.O.OneThread.by_of g.O.OneThread.kept_of g.O.OneThread.gives g.O.OneThread.reply g.O.OneThread.kept g.met.O.OneThread.keeps _ _ _ _ _ _ (returns-in-Ok-clause-ok g c)

pub returns-in-Err-Full-clause-full : goal.returns-in-Err-Full-clause-full
returns-in-Err-Full-clause-full g c n is =
    let full = c.add.ensures.full n (c.in-Err-Full.is ∙ ap (λ f. Err f) c.in-Err-Full.field-0-is ∙ is) in
    let same = c.in-Err-Full.ensures.err.0 in
    let few = c.take-desk.ensures.few in
    let turn = c.take-desk.new.token.me.0 in
    let l = looked g.O.OneThread.stands g.O.OneThread.gives g.O.OneThread.reply _ _ _ c.seat.inside.token c.take-desk.new.token c.give_same.new.token _ c.seat.invariant c.seat.view_is (ap (λ x. x.book) c.seat.view_is ∙ c.requires ∙ sym c.self.view_is) c.take-desk.ensures c.give_same.ensures.0 (c.give_same.ensures.1 ∙ ap (λ h. (idle h turn.made turn.part, [])) same) in
    (l.1, omega (arith, full.0, full.1, ap length l.2), full.0)
