use Rattle.channel_values.proofs.Fronts.{fronts_cut}
use Rattle.call_history.proofs.Formats.{message_format}
use Rattle.call_bytes.proofs.Fronts.{message_on}
use Rattle.call_bytes.proofs.call_laws.fronts_of_messages_are_cut.Goals as goal

pub returns : goal.returns
returns c v n valid lt = fronts_cut message_format message_on v n valid lt
