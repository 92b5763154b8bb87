use Rattle.record_checker.proofs.Faults.{one_of_each}
use Rattle.record_checker.proofs.laws.verdicts_are_one.Goals as goal

pub returns : goal.returns
returns c = one_of_each
