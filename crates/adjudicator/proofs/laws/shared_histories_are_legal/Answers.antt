use Rattle.support_rules.specs.Real.{real}
use Rattle.adjudicator.proofs.SharedSteps.{shared_legal}
use Rattle.adjudicator.proofs.laws.shared_histories_are_legal.Goals as goal

pub returns : goal.returns
returns c = shared_legal real
