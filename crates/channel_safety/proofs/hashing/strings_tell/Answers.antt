use Rattle.channel_safety.proofs.Telling.{tells}
use Rattle.channel_safety.proofs.hashing.strings_tell.Goals as goal

pub returns : goal.returns
returns c = tells
