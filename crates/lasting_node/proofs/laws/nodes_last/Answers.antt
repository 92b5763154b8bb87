use Rattle.lasting_node.proofs.Lasting.{nodes_last}
use Rattle.lasting_node.proofs.laws.nodes_last.Goals as goal

pub returns : goal.returns
returns c = nodes_last c.nodes_own_challenges.ensures.keeps c.nodes_own_challenges.ensures.owns
