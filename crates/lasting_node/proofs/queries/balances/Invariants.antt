use Rattle.std.proofs.Common.{◌≡◌, map, take}
use Rattle.lasting_node.specs.Queries.{balance}
use Rattle.lasting_node.proofs.queries.balances.Given as goal

abbrev pub invariant-loop-asset : goal.invariant-loop-asset
invariant-loop-asset l = l.all.items ≡ map (balance l.me l.outcome) (take l.asset-index l.outcome)
