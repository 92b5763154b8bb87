use Rattle.std.proofs.Common.{◌≡◌, take}
use Rattle.asset_holder.specs.Receipts.{assets_of}
use Rattle.asset_holder.proofs.assets.assets_of.Given as goal

abbrev pub invariant-loop-flow : goal.invariant-loop-flow
invariant-loop-flow l = l.assets.keys ≡ assets_of (take l.flow-index l.flows)
