use Rattle.further_laws.proofs.NodeExample.{stands_with_journal}
use Rattle.further_laws.proofs.law_examples.journals_can_be_played.Goals as goal

pub returns : goal.returns
returns c = stands_with_journal
