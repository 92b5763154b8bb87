use Rattle.std.proofs.Common.{rules, ◌≡◌, true, take, length, subst}
use Rattle.std.specs.Prelude.{OnOk, IfErr}
use Rattle.lms_signatures.specs.Signing.{Signing}
use Rattle.lasting_node.specs.Runs.{signer_of}
use Rattle.nitro_library.specs.Heads.{is_ours, head_in}
use Rattle.nitro_library.specs.Nodes.{start_of, node_title, is_key, IsWhyNone}
use Rattle.nitro_library.proofs.node.begun_of.Goals as goal

pub returns-clause-ours : goal.returns-clause-ours
returns-clause-ours c =
    let same : c.in_ok-signer.signer ≡ signer_of (start_of c.args.seed.now c.args.h) = search rules in
    subst (λ (s : Signing). OnOk c.begun.result (is_ours (node_title s) c.args.file.now c.args.bytes.now ≡ true)) same c.begun.ensures.ours

pub returns-clause-head : goal.returns-clause-head
returns-clause-head c =
    let same : c.in_ok-signer.signer ≡ signer_of (start_of c.args.seed.now c.args.h) = search rules in
    subst (λ (s : Signing). OnOk c.begun.result (take c.begun.new.count c.begun.new.head ≡ head_in (node_title s) c.args.file.now c.args.bytes.now)) same c.begun.ensures.head

pub returns-clause-why : goal.returns-clause-why
returns-clause-why c =
    let same : c.in_ok-signer.signer ≡ signer_of (start_of c.args.seed.now c.args.h) = search rules in
    subst (λ (s : Signing). IfErr c.begun.result (IsWhyNone s c.args.file.now c.args.bytes.now (length c.args.head.now) (is_key c.args.seed.now c.args.h)))
    same (c.begun.ensures.why (is_key c.args.seed.now c.args.h))
