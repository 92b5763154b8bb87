-- What a message makes of a node stands for the same history.
use Rattle.std.proofs.Common.{sym, ◌∙◌, ap, subst}
use Rattle.channel_node.specs.Nodes.{NodeOf}
use Rattle.channel_node.specs.Standing.{Stands}
use Rattle.channel_node.proofs.Calling.{calls_keep_standing}
use Rattle.channel_node.specs.Playing.{signing_of}
use Rattle.channel_node.proofs.node.Node.handle.Goals as goal

pub returns-in-Ok-None-clause-keeps : goal.returns-in-Ok-None-clause-keeps
returns-in-Ok-None-clause-keeps g c = λ h legal st.
    subst (Stands g.M.Knowing.tables g.M.Knowing.rules (signing_of c.args.self.now.signer) h) (sym c.in-Ok-None.ensures.ok.1)
    ((calls_keep_standing g.M.Knowing.tables g.M.Knowing.rules (signing_of c.args.self.now.signer) h c.args.self.now legal (ap (λ (n : NodeOf). n.is_lost) (sym c.self.view_is) ∙ c.if-self.false) st).handles c.args.bytes)

pub returns-in-Ok-Some-clause-keeps : goal.returns-in-Ok-Some-clause-keeps
returns-in-Ok-Some-clause-keeps g c = λ h legal st.
    subst (Stands g.M.Knowing.tables g.M.Knowing.rules (signing_of c.args.self.now.signer) h) (sym c.in-Ok-Some.ensures.ok.1)
    ((calls_keep_standing g.M.Knowing.tables g.M.Knowing.rules (signing_of c.args.self.now.signer) h c.args.self.now legal (ap (λ (n : NodeOf). n.is_lost) (sym c.self.view_is) ∙ c.if-self.false) st).handles c.args.bytes)
