use Rattle.network_node.proofs.Followed.{Seeing}
use Rattle.network_node.proofs.node.see_all.Given as goal

abbrev pub invariant-loop-entry : goal.invariant-loop-entry
invariant-loop-entry l = Seeing l.entries l.initial.node l.entry-index l.node
