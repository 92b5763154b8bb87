-- What an entry makes of a node stands for the same history.
use Rattle.std.proofs.Common.{sym, ◌∙◌, ap, subst}
use Rattle.channel_node.specs.Nodes.{NodeOf}
use Rattle.channel_node.specs.Standing.{Stands}
use Rattle.channel_node.proofs.Calling.{calls_keep_standing}
use Rattle.channel_node.specs.Playing.{signing_of}
use Rattle.channel_node.proofs.node.Node.see.Goals as goal

pub returns-in-Ok-clause-keeps : goal.returns-in-Ok-clause-keeps
returns-in-Ok-clause-keeps g c = λ h legal next st.
    subst (Stands g.M.Knowing.tables g.M.Knowing.rules (signing_of c.args.self.now.signer) h) (sym c.in-Ok.ensures.ok)
    ((calls_keep_standing g.M.Knowing.tables g.M.Knowing.rules (signing_of c.args.self.now.signer) h c.args.self.now legal (ap (λ (n : NodeOf). n.is_lost) (sym c.self.view_is) ∙ c.if-self.false) st).sees c.args.entry.now next)
