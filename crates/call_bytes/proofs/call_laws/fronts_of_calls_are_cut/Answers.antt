use Rattle.channel_values.proofs.Fronts.{fronts_cut}
use Rattle.call_history.proofs.Formats.{call_format}
use Rattle.call_bytes.proofs.Fronts.{call_on}
use Rattle.call_bytes.proofs.call_laws.fronts_of_calls_are_cut.Goals as goal

pub returns : goal.returns
returns c v n valid lt = fronts_cut call_format call_on v n valid lt
