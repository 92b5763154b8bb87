use Rattle.channel_node.proofs.Once.{played_journals_are_honest}
use Rattle.channel_node.proofs.node_laws.played_journals_are_honest.Goals as goal

pub returns : goal.returns
returns c = played_journals_are_honest
