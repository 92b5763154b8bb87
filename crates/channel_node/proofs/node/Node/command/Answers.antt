-- What a command makes of a node stands for the same history, also where memory failed it.
use Rattle.std.proofs.Common.{refl, sym, ◌∙◌, ap, subst}
use Rattle.channel_node.specs.Nodes.{NodeOf}
use Rattle.channel_node.specs.Standing.{Stands}
use Rattle.channel_node.proofs.Calling.{calls_keep_standing}
use Rattle.channel_node.specs.Playing.{signing_of}
use Rattle.channel_node.proofs.Losing.{loses-partly}
use Rattle.channel_node.proofs.node.Node.command.Goals as goal

pub returns-after-told-clause-keeps : goal.returns-after-told-clause-keeps
returns-after-told-clause-keeps g c = λ h legal st.
    subst (Stands g.M.Knowing.tables g.M.Knowing.rules (signing_of c.args.self.now.signer) h) (sym c.in-Ok.ensures.ok)
    ((calls_keep_standing g.M.Knowing.tables g.M.Knowing.rules (signing_of c.args.self.now.signer) h c.args.self.now legal (ap (λ (n : NodeOf). n.is_lost) (sym c.self.view_is) ∙ c.if-self.false) st).tells c.args.step c.args.command)

pub returns-in-Err-clause-keeps : goal.returns-in-Err-clause-keeps
returns-in-Err-clause-keeps g c = λ h legal st.
    loses-partly g.M.Knowing.tables g.M.Knowing.rules (signing_of c.args.self.now.signer) h c.args.self.now c.command_now.new.self _ c.args.step c.args.command legal refl
    (ap (λ (n : NodeOf). n.journal) c.self-2.view_is) (ap (λ (n : NodeOf). n.commands) c.self-2.view_is) c.in-Err.ensures.err
    (ap (λ (n : NodeOf). n.is_lost) (sym c.self.view_is) ∙ c.if-self.false) st
