use Rattle.std.proofs.Common.{None, sym, ◌∙◌, ap, subst}
use Rattle.channel_node.specs.Nodes.{NodeOf, new_node}
use Rattle.fairness_laws.proofs.Owning.{nodes_stand}
use Rattle.fairness_laws.specs.Owning.{StandsOwning}
use Rattle.lms_signatures.specs.Signing.{Signing}
use Rattle.node_guarantees.specs.Ways.{Numbered, made_of}
use Rattle.network_node.proofs.node.NodeParty.make.Goals as goal

pub returns-clause-stands : goal.returns-clause-stands
returns-clause-stands c past =
    subst (λ (p : Numbered). StandsOwning past p)
    (ap (λ (n : NodeOf). record { number = c.args.number; node = n; exits = None }) (sym (c.make.ensures.fresh ∙ ap (λ (s : Signing). new_node (made_of s)) c.make-mind.ensures.signer)))
    (nodes_stand.fresh past c.args.number c.args.signer c.requires)
