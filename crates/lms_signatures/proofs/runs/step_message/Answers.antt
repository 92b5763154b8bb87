use Rattle.std.proofs.Common.{◌∙◌, refl}
use Rattle.lms_signatures.specs.Types.{u8str, u16str, u32str}
use Rattle.lms_signatures.proofs.Beside.{both_written, numbers_joined}
use Rattle.lms_signatures.proofs.runs.step_message.Goals as goal

pub returns : goal.returns
returns c =
    let a = c.copy_from_slice.ensures in
    let b = c.copy_from_slice-2.ensures in
    both_written _ _ 23 32 a.len refl ∙ rw (a.after, b.after, c.step_head-head.ensures, c.step_numbers.ensures)
    (numbers_joined c.args.id.now (u32str c.args.index) (u16str c.args.i) (u8str c.args.j) c.args.tmp.now)
