use Rattle.network_node.proofs.Writing.{nodes_write_journals}
use Rattle.network_node.proofs.journal_laws.nodes_write_journals.Goals as goal

pub returns : goal.returns
returns c = nodes_write_journals
