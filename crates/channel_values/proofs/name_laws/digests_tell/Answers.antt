use Rattle.channel_values.proofs.Telling.{digests_tell}
use Rattle.channel_values.proofs.name_laws.digests_tell.Goals as goal

pub returns : goal.returns
returns c = digests_tell
