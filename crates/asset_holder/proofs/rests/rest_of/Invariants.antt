use Rattle.std.proofs.Common.{◌≡◌, ◌≤◌, take, length}
use Rattle.call_history.specs.Rest.{less_paid}
use Rattle.asset_holder.specs.Payments.{amount_of_item}
use Rattle.asset_holder.proofs.rests.rest_of.Given as goal

abbrev pub invariant-loop-place : goal.invariant-loop-place
invariant-loop-place l = (l.place ≤ length l.items) × (length l.rest.items ≡ l.place) × (l.rest.items ≡ less_paid (amount_of_item l.paid l.channel l.asset) 0 (take l.place l.items))
