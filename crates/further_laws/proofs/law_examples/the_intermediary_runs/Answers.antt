use Rattle.further_laws.proofs.MiddleRuns.{runs}
use Rattle.further_laws.proofs.law_examples.the_intermediary_runs.Goals as goal

pub returns : goal.returns
returns c = runs
