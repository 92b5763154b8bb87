use Rattle.further_laws.proofs.Race.{plays_round}
use Rattle.further_laws.proofs.NodeExample.{stands_with_journal}
use Rattle.further_laws.proofs.law_examples.races_can_be_played.Goals as goal

pub returns : goal.returns
returns c = (stands_with_journal, plays_round)
