use Rattle.std.proofs.Common.{◌∙◌, refl}
use Rattle.lms_signatures.proofs.Beside.{both_written}
use Rattle.lms_signatures.proofs.runs.step_head.Goals as goal

pub returns : goal.returns
returns c =
    let a = c.copy_from_slice.ensures in
    let b = c.copy_from_slice-2.ensures in
    both_written _ _ 16 7 a.len refl ∙ rw (a.after, b.after) refl
