use Rattle.network.proofs.Safe.{safe_after}
use Rattle.network.proofs.world_laws.nothing_old_becomes_final.Goals as goal

pub returns : goal.returns
returns g c = safe_after g.P.Party.ways g.P.Party.stands
