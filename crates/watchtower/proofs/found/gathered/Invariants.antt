use Rattle.std.proofs.Common.{List, length}
use Rattle.std.specs.List.{All}
use Rattle.network.specs.Watching.{Watching}
use Rattle.watchtower.specs.declared.client.Client.{Client}
use Rattle.watchtower.specs.Sharing.{AreFor}
use Rattle.watchtower.proofs.found.gathered.Given as goal

abbrev pub invariant-loop-list : goal.invariant-loop-list
invariant-loop-list l =
    (w : Watching) (clients : List Client) → All (λ list. AreFor w clients list.items) l.initial.lists.items
    → All (λ list. AreFor w clients list.items) l.lists.items × AreFor w clients l.found.items

abbrev pub decreases-loop-list : goal.decreases-loop-list
decreases-loop-list l = length l.lists.items
