use Rattle.std.proofs.Common.{◌≡◌, ◌-◌}
use Rattle.channel_values.specs.Amounts.{amt, before}
use Rattle.channel_values.specs.Places.{dest_in}
use Rattle.asset_holder.proofs.claims.claimable.Given as goal

abbrev pub invariant-loop-k : goal.invariant-loop-k
invariant-loop-k l = l.left ≡ l.balance - before (λ k. amt l.target_items (dest_in l.list k)) l.k
