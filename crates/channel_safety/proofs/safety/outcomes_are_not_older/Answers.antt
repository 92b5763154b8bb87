use Rattle.channel_safety.proofs.Headline.{safe}
use Rattle.channel_safety.proofs.safety.outcomes_are_not_older.Goals as goal

pub returns : goal.returns
returns c = safe
