use Rattle.script_play.proofs.Played.{plays_are_kept}
use Rattle.script_play.proofs.play_laws.every_play_keeps_the_world.Goals as goal

pub returns : goal.returns
returns g c = λ kept. plays_are_kept g.P.Party.ways g.P.Party.stands kept
