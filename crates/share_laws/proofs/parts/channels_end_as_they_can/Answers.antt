use Rattle.share_laws.proofs.Alone.{ends_as_it_can}
use Rattle.share_laws.proofs.parts.channels_end_as_they_can.Goals as goal

pub returns : goal.returns
returns c = ends_as_it_can
