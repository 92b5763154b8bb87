use Rattle.call_history.proofs.Sames.{same-calls-one}
use Rattle.call_history.proofs.laws.same_calls_are_one.Goals as goal

pub returns : goal.returns
returns c = same-calls-one
