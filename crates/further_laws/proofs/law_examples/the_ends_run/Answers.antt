use Rattle.further_laws.proofs.EndRuns.{runs}
use Rattle.further_laws.proofs.law_examples.the_ends_run.Goals as goal

pub returns : goal.returns
returns c = runs
