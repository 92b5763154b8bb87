use Rattle.std.proofs.Common.{◌≡◌, ◌+◌}
use Rattle.shared_object.specs.History.{StartsWith}
use Rattle.thread_tests.specs.Seats.{AreOf, parts}
use Rattle.thread_tests.proofs.seats.gather.Given as goal

abbrev pub invariant-loop-other : goal.invariant-loop-other
invariant-loop-other l = record {
  book : l.seat.book ≡ l.initial.seat.book;
  seats : AreOf l.book l.seats.items;
  part : l.seat.part + parts l.seats.items ≡ l.initial.seat.part + parts l.initial.seats.items;
  later : StartsWith l.seat.seen l.initial.seat.seen;
}

abbrev pub decreases-loop-other : goal.decreases-loop-other
decreases-loop-other l = goal.left-loop-other l
