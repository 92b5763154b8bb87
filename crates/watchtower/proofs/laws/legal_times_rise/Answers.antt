use Rattle.watchtower.proofs.Timing.{legal_times_rise}
use Rattle.watchtower.proofs.laws.legal_times_rise.Goals as goal

pub returns : goal.returns
returns c = legal_times_rise
