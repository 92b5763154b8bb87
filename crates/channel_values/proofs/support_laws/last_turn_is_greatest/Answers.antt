use Rattle.channel_values.proofs.Turns.{is_last_turn}
use Rattle.channel_values.proofs.support_laws.last_turn_is_greatest.Goals as goal

pub returns : goal.returns
returns c = is_last_turn
