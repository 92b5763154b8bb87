use Rattle.std.proofs.Common.{◌≡◌, take}
use Rattle.std.specs.List.{flat_map}
use Rattle.node_guarantees.specs.Gains.{shares_in}
use Rattle.network_node.proofs.sharing.shares_of.Given as goal

abbrev pub invariant-loop-view : goal.invariant-loop-view
invariant-loop-view l = l.all.items ≡ flat_map (shares_in l.known) (take l.view-index l.views)
