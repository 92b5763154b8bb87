-- What a checker finds of how a person with a node ended.
use Rattle.std.specs.Prelude.{◌≡◌, List}
use Rattle.call_history.specs.History.{newest_first}
use Rattle.call_history.specs.declared.entry.Entry.{Entry}
use Rattle.fairness_laws.specs.FairLaws.{OfEachNode}
use Rattle.node_guarantees.specs.Endings.{EndsWell}

-- of each node, whatever history in the order of time it is
abbrev pub NodesEndWell : Type 0
NodesEndWell = OfEachNode (λ s h journal. (history : List Entry) → newest_first history ≡ h → EndsWell history s.key journal)
