use Rattle.std.proofs.Common.{◌≡◌, ℕ, ◌<◌, ◌≤◌, length, false}
use Rattle.std.specs.Prelude.{slice_index_or}
use Rattle.channel_values.specs.Outcomes.{is_same}
use Rattle.call_history.specs.Dues.{no_item}
use Rattle.call_history.proofs.items.place_of.Given as goal

abbrev pub invariant-loop-place : goal.invariant-loop-place
invariant-loop-place l = (l.place ≤ length l.items) × ((k : ℕ) → k < l.place → is_same (slice_index_or l.items k no_item).to l.to ≡ false)
