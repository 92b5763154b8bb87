use Rattle.std.proofs.Common.{◌≡◌, ◌-◌}
use Rattle.channel_values.specs.Amounts.{before}
use Rattle.channel_values.specs.Places.{amount_at}
use Rattle.asset_holder.proofs.items.affordable.Given as goal

abbrev pub invariant-loop-place : goal.invariant-loop-place
invariant-loop-place l = l.left ≡ l.balance - before (amount_at l.items) l.place
