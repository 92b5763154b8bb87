use Rattle.channel_node.proofs.Exits.{played_journals_leave_for_good}
use Rattle.channel_node.proofs.node_laws.played_journals_leave_for_good.Goals as goal

pub returns : goal.returns
returns c = played_journals_leave_for_good
