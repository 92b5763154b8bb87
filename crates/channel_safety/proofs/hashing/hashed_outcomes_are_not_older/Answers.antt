use Rattle.channel_safety.proofs.Telling.{hashed-safe}
use Rattle.channel_safety.proofs.hashing.hashed_outcomes_are_not_older.Goals as goal

pub returns : goal.returns
returns c = hashed-safe
