use Rattle.further_laws.proofs.LettingGo.{ticks_call_for_it}
use Rattle.further_laws.proofs.release_laws.ticks_call_for_it.Goals as goal

pub returns : goal.returns
returns c = ticks_call_for_it
