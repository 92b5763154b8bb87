use Rattle.further_laws.proofs.ChildRuns.{runs}
use Rattle.further_laws.proofs.law_examples.a_channel_on_a_ledger_runs.Goals as goal

pub returns : goal.returns
returns c = runs
