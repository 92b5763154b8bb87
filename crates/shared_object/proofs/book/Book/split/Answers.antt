use Rattle.std.proofs.Common.{ap, ◌∙◌, sym, arith}
use Rattle.shared_object.proofs.Steps.{splits}
use Rattle.shared_object.proofs.Facts.{rests}
use Rattle.shared_object.proofs.book.Book.split.Goals as goal

pub split_seat-token-requires : goal.split_seat-token-requires
split_seat-token-requires g c = let r = rests _ _ c.seat.invariant in let part = r.2 in let some_part = c.seat.invariant.sound.some_part in let words = c.self.invariant.0 in (
  ap (λ x. x.book) c.seat.view_is ∙ c.requires ∙ sym c.self.view_is,
  omega arith,
  splits g.O.OneThread.stands g.O.OneThread.gives _ c.seat.inside.token.me.0 r.0 r.1 r.3 (omega arith),
)
