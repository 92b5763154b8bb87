use Rattle.std.proofs.Common.{◌≡◌, ap, ◌∙◌, refl}
use Rattle.lms_signatures.specs.Types.{height}
use Rattle.lms_signatures.specs.Secret.{node}
use Rattle.lms_signatures.specs.Made.{key_bytes, public_of, made_key}
use Rattle.lms_signatures.specs.Signing.{Signing}
use Rattle.lms_signatures.proofs.Trees.{root_at}
use Rattle.lms_signatures.proofs.Signers.{key_made}
use Rattle.lms_signatures.proofs.signer.Signer.public.Goals as goal

pub returns : goal.returns
returns c =
    let s = c.self.inside.seed in
    let root : c.index.result.now ≡ node s (height s.lms) 1 =
    c.index.ensures ∙ root_at s c.self.inside.tree.items c.index.result.now c.self.invariant.tree in
    let e : c.written_key.result ≡ key_bytes (public_of s) =
    c.written_key.ensures ∙ rw (c.code.ensures, c.code-2.ensures, c.lms.ensures, c.ots.ensures, c.id.ensures, root) refl in
    e ∙ key_made s c.self.invariant.types ∙ ap (λ (v : Signing). made_key v.seed v.id v.h) c.self.view_is
