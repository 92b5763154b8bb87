use Rattle.std.proofs.Common.{◌≡◌, ℕ, ◌≤◌, ◌++◌, List, length}
use Rattle.call_history.specs.declared.call.Call.{Call}
use Rattle.network_rounds.specs.Working.{Works, given_at}
use Rattle.network_rounds.proofs.callers.enter_all.Given as goal

abbrev pub invariant-loop-alloc : goal.invariant-loop-alloc
invariant-loop-alloc g l = record {
  book : l.seat.book ≡ l.initial.seat.book;
  done : (taken : List Call) × (l.initial.calls.items ≡ taken ++ l.calls.items)
      × ((seen : ℕ) → seen ≤ length l.initial.seat.seen → Works (given_at l.by seen taken) l.initial.seat l.seat);
}

abbrev pub decreases-loop-alloc : goal.decreases-loop-alloc
decreases-loop-alloc g l = length l.calls.items
