use Rattle.channel_values.proofs.Telling.{messages_tell}
use Rattle.channel_values.proofs.name_laws.messages_tell.Goals as goal

pub returns : goal.returns
returns c = messages_tell
