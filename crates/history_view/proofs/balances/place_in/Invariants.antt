use Rattle.std.proofs.Common.{◌≡◌, ℕ, ◌<◌, ◌≤◌, length, false}
use Rattle.std.specs.Prelude.{slice_index_or}
use Rattle.history_view.specs.Views.{is_in}
use Rattle.history_view.proofs.Amounts.{no_balance}
use Rattle.history_view.proofs.balances.place_in.Given as goal

abbrev pub invariant-loop-place : goal.invariant-loop-place
invariant-loop-place l = (l.place ≤ length l.held) × ((k : ℕ) → k < l.place → is_in l.asset (slice_index_or l.held k no_balance) ≡ false)
