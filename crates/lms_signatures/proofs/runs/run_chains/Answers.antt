use Rattle.std.proofs.Common.{refl, ◌∙◌}
use Rattle.lms_signatures.proofs.Beside.{alike_again}
use Rattle.lms_signatures.proofs.runs.run_chains.Goals as goal

pub loop-i-init : goal.loop-i-init
loop-i-init c = record { long = refl; alike = λ i. refl }

pub loop-i-preserved : goal.loop-i-preserved
loop-i-preserved c = record {
  long = c.sweep.ensures.long ∙ c.loop-i.invariant.long;
  alike = alike_again _ _ _ _ _ c.loop-i.invariant.alike c.sweep.ensures.alike;
}
