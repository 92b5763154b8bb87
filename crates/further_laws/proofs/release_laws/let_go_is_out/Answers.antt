use Rattle.further_laws.proofs.LetGo.{let_go_is_out, let_go_is_as_without, let_go_is_called_for}
use Rattle.further_laws.proofs.release_laws.let_go_is_out.Goals as goal

pub returns-clause-out : goal.returns-clause-out
returns-clause-out c = let_go_is_out

pub returns-clause-others : goal.returns-clause-others
returns-clause-others c = let_go_is_as_without

pub returns-clause-due : goal.returns-clause-due
returns-clause-due c = let_go_is_called_for
