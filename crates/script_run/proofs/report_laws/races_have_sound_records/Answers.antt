use Rattle.script_run.proofs.Sound.{races_sound}
use Rattle.script_run.proofs.report_laws.races_have_sound_records.Goals as goal

pub returns : goal.returns
returns g c = races_sound g.P.Party.ways
