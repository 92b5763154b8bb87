-- The node of the network races.
use Rattle.script_run.proofs.Racing.{node_writes, node_in_time}
use Rattle.script_run.proofs.run.end_in_race.Goals as goal

pub race_source-requires-clause-writes : goal.race_source-requires-clause-writes
race_source-requires-clause-writes g c κs within = node_writes

pub race_source-requires-clause-timely : goal.race_source-requires-clause-timely
race_source-requires-clause-timely g c κs within = node_in_time
