-- What a command makes of a node stands, whatever it answered.
use Rattle.std.proofs.Common.{◌≡◌, ◌∙◌, rules, sym, subst}
use Rattle.fairness_laws.proofs.Owning.{nodes_stand}
use Rattle.fairness_laws.specs.Owning.{StandsOwning}
use Rattle.node_guarantees.proofs.Answering.{answers-so}
use Rattle.node_guarantees.specs.Ways.{ways}
use Rattle.stage_tables.specs.Stages.{stages}
use Rattle.support_rules.specs.Real.{real}
use Rattle.network_node.proofs.Few.{is_node, failed_node, commanded_small}
use Rattle.network_node.proofs.Kept.{failed_keeps, lose_keeps}
use Rattle.channel_node.specs.Playing.{signing_of}
use Rattle.network_node.proofs.node.NodeParty.command.Goals as goal

pub returns-in_default-clause-keeps : goal.returns-in_default-clause-keeps
returns-in_default-clause-keeps c = rw (← c.self.view_is) (lose_keeps (record { number = c.self.inside.number; node = c.self.inside.node; exits = c.self.inside.exits }) c.lose.new.self c.lose.ensures)

pub returns-in_err-outs-clause-keeps : goal.returns-in_err-outs-clause-keeps
returns-in_err-outs-clause-keeps c =
    rw (← c.self.view_is)
    (failed_keeps (record { number = c.self.inside.number; node = c.self.inside.node; exits = c.self.inside.exits }) c.args.step c.args.command c.command.new.self
    c.in_err-outs.field-0.0 c.in_err-outs.ensures.answer c.command.ensures.keeps c.command.ensures.signer)

pub returns-clause-gives : goal.returns-clause-gives
returns-clause-gives c =
    rw (← c.self.view_is)
    (λ told. c.in_ok-outs.ensures.answer.1 ∙ answers-so stages real (signing_of c.self.inside.node.signer) c.args.step c.args.command c.self.inside.node)

pub returns-clause-keeps : goal.returns-clause-keeps
returns-clause-keeps c h legal is =
    let same : c.if-is_some.self ≡ ways.commanded c.args.step c.args.command c.args.self.now = search rules in
    subst (StandsOwning h) (sym same) (nodes_stand.commanded h c.args.step c.args.command c.args.self.now legal is)

pub invariant_of-self-in_err-outs : goal.invariant_of-self-in_err-outs
invariant_of-self-in_err-outs c =
    failed_node c.self.inside.key (signing_of c.self.inside.node.signer) c.args.step c.args.command c.self.inside.node c.command.new.self
    c.in_err-outs.field-0.0 c.in_err-outs.ensures.answer c.self.invariant c.command.ensures.signer

pub invariant_of-self-then-is_some-2 : goal.invariant_of-self-then-is_some-2
invariant_of-self-then-is_some-2 c =
    is_node c.self.inside.key c.self.inside.node c.command.new.self c.self.invariant c.command.ensures.signer
    (commanded_small (signing_of c.self.inside.node.signer) c.args.step c.args.command c.self.inside.node c.command.new.self c.in_ok-outs.ensures.answer.2 c.self.invariant.small)

pub invariant_of-self-else-is_some-2 : goal.invariant_of-self-else-is_some-2
invariant_of-self-else-is_some-2 c =
    is_node c.self.inside.key c.self.inside.node c.command.new.self c.self.invariant c.command.ensures.signer
    (commanded_small (signing_of c.self.inside.node.signer) c.args.step c.args.command c.self.inside.node c.command.new.self c.in_ok-outs.ensures.answer.2 c.self.invariant.small)
