use Rattle.script_run.proofs.Sound.{plays_sound}
use Rattle.script_run.proofs.report_laws.plays_have_sound_records.Goals as goal

pub returns : goal.returns
returns g c = plays_sound g.P.Party.ways
