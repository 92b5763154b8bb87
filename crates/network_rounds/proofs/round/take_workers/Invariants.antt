use Rattle.std.proofs.Common.{◌≡◌, ◌++◌, [], List, length}
use Rattle.network_rounds.specs.Views.{Taking, Adding}
use Rattle.network_rounds.proofs.round.take_workers.Given as goal

abbrev pub invariant-loop-nodes : goal.invariant-loop-nodes
invariant-loop-nodes g l = record {
  done : (taken : List _) × (l.initial.nodes.items ≡ taken ++ l.nodes.items) × Taking taken [] l.workers.items;
}

abbrev pub decreases-loop-nodes : goal.decreases-loop-nodes
decreases-loop-nodes g l = length l.nodes.items

abbrev pub invariant-loop-alloc : goal.invariant-loop-alloc
invariant-loop-alloc g l = record {
  done : (taken : List _) × (l.initial.actors.items ≡ taken ++ l.actors.items) × Adding l.initial.workers.items taken l.workers.items;
}

abbrev pub decreases-loop-alloc : goal.decreases-loop-alloc
decreases-loop-alloc g l = length l.actors.items
