use Rattle.std.proofs.Common.{arith, refl, ◌∙◌}
use Rattle.lms_signatures.specs.Types.{u16str}
use Rattle.lms_signatures.specs.Ots.{with_checksum}
use Rattle.lms_signatures.proofs.Steps.{put_behind}
use Rattle.lms_signatures.proofs.ots.with_checksum.Goals as goal

pub returns : goal.returns
unfolding with_checksum u16str
returns c =
    let e = put_behind c.copy_from_slice.new.self c.copy_from_slice-2.new.self 32 (omega arith) in
    e ∙ rw (c.copy_from_slice.ensures.after, c.copy_from_slice-2.ensures.after, c.to_be_bytes.ensures, c.checksum.ensures) refl
