use Rattle.lms_signatures.proofs.LaneLemmas.{shifts_right}
use Rattle.lms_signatures.proofs.lanes.shifted.Goals as goal

pub returns : goal.returns
returns c = shifts_right c.args.k c.requires c.args.x c.fits-x.0
