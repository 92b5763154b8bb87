use Rattle.std.proofs.Common.{◌≡◌, ◌+◌, ◌≤◌, length}
use Rattle.shared_object.specs.History.{StartsWith}
use Rattle.thread_tests.proofs.callers.enter_ones.Given as goal

abbrev pub invariant-loop : goal.invariant-loop
invariant-loop g l = record {
  book : l.seat.book ≡ l.initial.seat.book;
  part : l.seat.part ≡ l.initial.seat.part;
  later : StartsWith l.seat.seen l.initial.seat.seen;
  made : length l.seat.made ≡ length l.initial.seat.made + l.tally.entered;
  few : l.tally.entered ≤ l.counter;
}
