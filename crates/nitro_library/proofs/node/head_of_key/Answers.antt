use Rattle.std.proofs.Common.{rules, ◌≡◌, ℕ, List, true, subst}
use Rattle.std.specs.Prelude.{OnOk, IfErr}
use Rattle.nitro_library.specs.Beginnings.{IsForeign}
use Rattle.nitro_library.specs.Heads.{is_ours}
use Rattle.nitro_library.specs.Nodes.{node_title}
use Rattle.nitro_library.proofs.node.head_of_key.Goals as goal

pub returns-clause-ours : goal.returns-clause-ours
returns-clause-ours c =
    let title : c.as_str-2.result.now ≡ node_title c.args.signer.now = search rules in
    subst (λ (t : List ℕ). OnOk c.head_of.result (is_ours t c.args.file.now c.args.bytes.now ≡ true)) title c.head_of.ensures.ours

pub returns-clause-foreign : goal.returns-clause-foreign
returns-clause-foreign c =
    let title : c.as_str-2.result.now ≡ node_title c.args.signer.now = search rules in
    subst (λ (t : List ℕ). IfErr c.head_of.result (IsForeign t c.args.file.now c.args.bytes.now)) title c.head_of.ensures.foreign
