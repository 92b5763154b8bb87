use Rattle.std.proofs.Common.{◌≡◌, ◌++◌, List, length}
use Rattle.network_rounds.specs.Views.{Giving}
use Rattle.network_rounds.proofs.round.give_back.Given as goal

abbrev pub invariant-loop-workers : goal.invariant-loop-workers
invariant-loop-workers g l = record {
  done : (taken : List _) × (l.initial.workers.items ≡ taken ++ l.workers.items) × Giving taken l.crew.nodes.items l.crew.cast.items l.crew.post.items;
}

abbrev pub decreases-loop-workers : goal.decreases-loop-workers
decreases-loop-workers g l = length l.workers.items
