use Rattle.share_laws.proofs.Fits.{apart_fits, together_fits, joint_fits}
use Rattle.share_laws.proofs.targets.joint_targets_fit.Goals as goal

pub returns : goal.returns
returns c = record { apart = apart_fits; together = together_fits; between = joint_fits }
