-- What a node's ways keep.
use Rattle.node_guarantees.specs.Ways.{ways}
use Rattle.node_guarantees.specs.Placed.{IsPlaced}
use Rattle.network.specs.Standing.{AreKept}

-- whatever a node with these ways is commanded, handed or shown, it stands for the history, over which its journal is
-- honest
abbrev pub NodesAreKept : Type 0
NodesAreKept = AreKept ways IsPlaced
