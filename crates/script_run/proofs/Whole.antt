-- The whole, of made signers.
use Rattle.script_run.proofs.Fitting.{fits}
use Rattle.script_run.proofs.Starting.{honest_two_finish}
use Rattle.script_run.specs.Finish.{HonestTwoFinish}

pub two_finish_whole : HonestTwoFinish
two_finish_whole p sa sb names opening step last amounts s made = honest_two_finish p sa sb names opening step last amounts s (fits p sa sb made)
