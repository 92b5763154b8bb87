use Rattle.std.proofs.Common.{take}
use Rattle.asset_holder.specs.Sums.{AreSources}
use Rattle.asset_holder.proofs.sources.Sources.of.Given as goal

abbrev pub invariant-loop-place : goal.invariant-loop-place
invariant-loop-place l = AreSources (take l.place l.flows) l.sources.spent.entries l.sources.deposited.entries
