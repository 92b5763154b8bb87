use Rattle.channel_exits.proofs.Example.{example_holds as holds}
use Rattle.channel_exits.proofs.witness.example_holds.Goals as goal

pub returns : goal.returns
returns c = holds
