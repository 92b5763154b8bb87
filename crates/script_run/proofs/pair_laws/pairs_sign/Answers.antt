use Rattle.script_run.proofs.Signing.{pairs_sign}
use Rattle.script_run.proofs.pair_laws.pairs_sign.Goals as goal

pub returns : goal.returns
returns c = pairs_sign
