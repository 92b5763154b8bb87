use Rattle.std.proofs.Common.{◌∙◌, ap, arith}
use Rattle.sha2.specs.Sha256.{sha256}
use Rattle.lms_signatures.proofs.LaneLemmas.{below_four}
use Rattle.lms_signatures.specs.Ots.{chain_step}
use Rattle.lms_signatures.proofs.runs.four_steps.Goals as goal

pub returns : goal.returns
unfolding chain_step
returns c =
    let d = c.four_digests.ensures in
    below_four _
    (d 0 (omega arith) ∙ ap sha256 c.step_message.ensures)
    (d 1 (omega arith) ∙ ap sha256 c.step_message-2.ensures)
    (d 2 (omega arith) ∙ ap sha256 c.step_message-3.ensures)
    (d 3 (omega arith) ∙ ap sha256 c.step_message-4.ensures)
