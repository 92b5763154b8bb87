use Rattle.fairness_laws.proofs.Owning.{nodes_stand, own_calls}
use Rattle.fairness_laws.proofs.challenge_laws.nodes_call_own_challenges.Goals as goal

pub returns-clause-keeps : goal.returns-clause-keeps
returns-clause-keeps c = nodes_stand

pub returns-clause-calls : goal.returns-clause-calls
returns-clause-calls c = own_calls
