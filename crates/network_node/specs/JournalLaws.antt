-- What the network's node writes.
use Rattle.std.specs.Prelude.{Bool}
use Rattle.node_guarantees.specs.Ways.{Numbered, ways}
use Rattle.network_rounds.specs.Journals.{WritesJournals}

abbrev pub is_lost : Numbered → Bool
is_lost p = p.node.is_lost

abbrev pub NodesWriteJournals : Type 0
NodesWriteJournals = WritesJournals ways is_lost
