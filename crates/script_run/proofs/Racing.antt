-- The network's node writes its journal as a race asks, and its watchers are in time in one.
use Rattle.network_node.proofs.Writing.{nodes_write_journals}
use Rattle.network_node.specs.JournalLaws.{is_lost}
use Rattle.fairness_laws.specs.Owning.{StandsOwning}
use Rattle.node_guarantees.specs.Ways.{ways}
use Rattle.network_node.proofs.Racing.{nodes-in_time}
use Rattle.script_race.specs.Raced.{RacersAreInTime}
use Rattle.network_rounds.specs.Journals.{WritesJournals}

pub node_writes : WritesJournals ways is_lost
node_writes = nodes_write_journals

pub node_in_time : RacersAreInTime ways StandsOwning
node_in_time h p ends legal st = nodes-in_time h p ends legal st.placed
