use Rattle.network.proofs.Standing.{stays, honest}
use Rattle.network.proofs.world_laws.every_happening_keeps_the_world.Goals as goal

pub returns-clause-stays : goal.returns-clause-stays
returns-clause-stays g c = λ kept w event is. stays g.P.Party.ways g.P.Party.stands kept w event is

pub returns-clause-honest : goal.returns-clause-honest
returns-clause-honest g c = λ kept w is. honest g.P.Party.ways g.P.Party.stands kept w is
