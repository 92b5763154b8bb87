use Rattle.share_laws.proofs.Noted.{noted_tell}
use Rattle.share_laws.proofs.held_laws.hashes_tell_noted.Goals as goal

pub returns : goal.returns
returns c = noted_tell
