use Rattle.script_race.proofs.Opening.{commands_last}
use Rattle.script_race.proofs.race_command_laws.commands_open_lasting_channels.Goals as goal

pub returns : goal.returns
returns c = commands_last
