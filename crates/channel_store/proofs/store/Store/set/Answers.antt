use Rattle.std.proofs.Common.{rules}
use Rattle.support_rules.specs.Real.{real}
use Rattle.channel_store.proofs.Placing.{stored}
use Rattle.channel_store.proofs.store.Store.set.Goals as goal

pub invariant_of-self : goal.invariant_of-self
invariant_of-self c =
    stored real c.self.inside.by_name.entries c.self.inside.kept.items c.args.place c.args.k c.args.k c.put.new.self.chains.items c.put.new.self.known.items
    c.put.new.self.places.items c.self.invariant.placed (search rules) (search rules) (search rules) (search rules)

pub invariant_of-self-in-Ok : goal.invariant_of-self-in-Ok
invariant_of-self-in-Ok c =
    stored real c.self.inside.by_name.entries c.self.inside.kept.items c.args.place c.args.k c.replace-old.new.dest c.in-Ok.lent.chains.items c.in-Ok.lent.known.items
    c.in-Ok.lent.places.items c.self.invariant.placed (search rules) (search rules) (search rules) (search rules)

pub invariant_of-self-in-Ok-2 : goal.invariant_of-self-in-Ok-2
invariant_of-self-in-Ok-2 c =
    stored real c.self.inside.by_name.entries c.self.inside.kept.items c.args.place c.args.k c.replace-old.new.dest c.in-Ok.lent.chains.items c.in-Ok.lent.known.items
    c.in-Ok.lent.places.items c.self.invariant.placed (search rules) (search rules) (search rules) (search rules)
