use Rattle.std.proofs.Common.{refl}
use Rattle.lms_signatures.proofs.LaneLemmas.{below_four}
use Rattle.lms_signatures.proofs.four.initial.Goals as goal

pub returns : goal.returns
returns c = below_four _ refl refl refl refl
