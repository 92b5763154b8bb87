use Rattle.node_guarantees.proofs.Telling.{places_tell_shares}
use Rattle.node_guarantees.proofs.node_share_laws.places_tell_shares.Goals as goal

pub returns : goal.returns
returns c = places_tell_shares
