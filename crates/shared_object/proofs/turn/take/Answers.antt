use Rattle.std.proofs.Common.{Some}
use Rattle.shared_object.proofs.Tokens.{carried}
use Rattle.shared_object.proofs.turn.take.Goals as goal

pub exchange-requires : goal.exchange-requires
exchange-requires g c = let e = c.wait.ensures in (e.0, (Some e.1.desk, carried _ _ e.1.slot))
