use Rattle.std.proofs.Common.{ap, sym, ◌∙◌, arith}
use Rattle.shared_object.proofs.Steps.{joins}
use Rattle.shared_object.proofs.Facts.{rests}
use Rattle.shared_object.proofs.book.Book.join.Goals as goal

pub join_seat-requires : goal.join_seat-requires
join_seat-requires g c = let r = rests _ _ c.seat.invariant in let o = rests _ _ c.other.invariant in let some_part = c.seat.invariant.sound.some_part in let part = r.2 in let words = c.self.invariant.0 in (
  ap (λ x. x.book) c.seat.view_is ∙ c.requires.seat ∙ sym c.self.view_is,
  ap (λ x. x.book) c.other.view_is ∙ c.requires.other ∙ sym c.self.view_is,
  c.other.invariant.empty,
  omega arith,
  joins g.O.OneThread.stands g.O.OneThread.gives _ c.seat.inside.token.me.0 _ c.other.inside.token.me.0 r.0 r.1 r.3 (omega arith) o.0 o.1 o.3,
)
