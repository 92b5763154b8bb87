use Rattle.std.proofs.Common.{◌≡◌, ◌++◌}
use Rattle.asset_holder.specs.Receipts.{assets_of}
use Rattle.asset_holder.proofs.balances.Balances.listed_assets.Given as goal

abbrev pub invariant-loop-asset : goal.invariant-loop-asset
invariant-loop-asset l = l.assets.items ++ l.asset-iterator ≡ assets_of l.self
