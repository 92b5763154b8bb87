use Rattle.std.proofs.Common.{◌≡◌, ℕ, ◌<◌, ◌++◌, List, length, map, get_or}
use Rattle.std.specs.Prelude.{Ok, IfOk}
use Rattle.network_rounds.specs.Seats.{Gathers}
use Rattle.network_rounds.specs.Jobs.{seats_of, workers_of}
use Rattle.network_rounds.proofs.seats.collect.Given as goal

abbrev pub invariant-loop-results : goal.invariant-loop-results
invariant-loop-results g l = record {
  book : l.seat.book ≡ l.initial.seat.book;
  of_book : (i : ℕ) (d : _) → i < length l.results.items → IfOk (get_or l.results.items i d) (λ job. job.seat.book ≡ l.book);
  done : (taken : List _) × (l.initial.results.items ≡ map (λ job. Ok job) taken ++ l.results.items) × (l.workers.items ≡ workers_of taken)
      × Gathers (seats_of taken) l.initial.seat l.seat;
}

abbrev pub decreases-loop-results : goal.decreases-loop-results
decreases-loop-results g l = length l.results.items
