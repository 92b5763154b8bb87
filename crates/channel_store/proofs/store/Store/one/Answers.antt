use Rattle.std.proofs.Common.{rules, ◌≡◌, Some}
use Rattle.support_rules.specs.Real.{real}
use Rattle.channel_store.specs.Storing.{kept_of}
use Rattle.channel_store.proofs.Good.{kept_few}
use Rattle.channel_store.proofs.store.Store.one.Goals as goal

pub returns-in-Some-clause-few : goal.returns-in-Some-clause-few
returns-in-Some-clause-few c =
    let found : Some c.in-Some.k.now ≡ kept_of c.args.channel.now c.self.inside.kept.items = search rules in
    kept_few real c.args.channel.now c.self.inside.kept.items c.in-Some.k.now c.self.invariant.good found
