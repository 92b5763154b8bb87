-- What a look makes of a node stands.
use Rattle.std.proofs.Common.{sym, ◌∙◌, ap}
use Rattle.std.specs.List.{flat_map}
use Rattle.channel_store.specs.Keeping.{held_chain}
use Rattle.channel_node.specs.Minds.{Mind}
use Rattle.network_node.proofs.Few.{is_node, lost_node, few_looked, watched_small}
use Rattle.network_node.proofs.Kept.{lose_keeps, watch_keeps}
use Rattle.network_node.proofs.node.NodeParty.watch.Goals as goal

pub returns-in_default-clause-keeps : goal.returns-in_default-clause-keeps
returns-in_default-clause-keeps c = rw (← c.self.view_is) (λ h legal looks placed. lose_keeps (record { number = c.self.inside.number; node = c.self.inside.node; exits = c.self.inside.exits }) c.lose.new.self c.lose.ensures h legal placed)

pub returns-clause-few : goal.returns-clause-few
returns-clause-few c =
    few_looked c.self.inside.node.mind c.chains.result.now c.looked_twice.new.lookout c.in-Ok.twice.0.items (c.self.invariant.small (sym c.if-is_lost.ensures))
    (c.chains.ensures ∙ ap (λ (m : Mind). flat_map held_chain m.kept) c.mind.ensures.mind) c.in-Ok.ensures.calls

pub returns-clause-keeps : goal.returns-clause-keeps
returns-clause-keeps c =
    rw (← c.self.view_is)
    (watch_keeps (record { number = c.self.inside.number; node = c.self.inside.node; exits = c.self.inside.exits }) c.args.entries.now c.args.lookout.now c.looked_twice.new.lookout c.args.place c.chains.result.now c.in-Ok.twice.0.items c.in-Ok.twice.1 c.watch.new.self
    c.in-Ok.ensures.followed (c.chains.ensures ∙ ap (λ (m : Mind). flat_map held_chain m.kept) c.mind.ensures.mind) c.in-Ok.ensures.calls (c.in-Ok.ensures.given ∙ sym c.in-Ok.ensures.calls) c.in_ok-watch.ensures.ok.0
    c.in_ok-watch.ensures.ok.1)

pub invariant_of-self : goal.invariant_of-self
invariant_of-self c = lost_node c.self.inside.key c.self.inside.node c.lose.new.self c.self.invariant c.lose.ensures

pub invariant_of-self-2 : goal.invariant_of-self-2
invariant_of-self-2 c =
    is_node c.self.inside.key c.self.inside.node c.watch.new.self c.self.invariant c.watch.ensures.signer
    (watched_small c.looked_twice.new.lookout.seen c.args.place c.in-Ok.twice.1 c.self.inside.node c.watch.new.self c.watch.result c.watch.ensures.ok c.watch.ensures.err c.self.invariant.small)
