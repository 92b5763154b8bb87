use Rattle.std.proofs.Common.{◌∙◌, arith, refl}
use Rattle.lms_signatures.specs.Types.{u32str}
use Rattle.lms_signatures.proofs.Trees.{key_written}
use Rattle.lms_signatures.proofs.signer.written_key.Goals as goal

pub returns : goal.returns
unfolding u32str
returns c =
    let a = c.copy_from_slice.ensures in
    let b = c.copy_from_slice-2.ensures in
    let i = c.copy_from_slice-3.ensures in
    let r = c.copy_from_slice-4.ensures in
    key_written _ _ _ _ a.len (omega (arith, b.len)) (omega (arith, i.len)) (omega (arith, r.len))
    ∙ rw (a.after, b.after, i.after, r.after, c.to_be_bytes.ensures, c.to_be_bytes-2.ensures) refl
