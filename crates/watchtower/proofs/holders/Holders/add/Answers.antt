use Rattle.std.proofs.Common.{rules, ◌≡◌, ◌<◌, [], ◌∷◌, ◌++◌, length, slice_set, sym, subst, Contains}
use Rattle.watchtower.specs.Holders.{KeepsHolders, holders_of}
use Rattle.watchtower.proofs.Kept.{back_kept, put_kept, put_has}
use Rattle.watchtower.proofs.holders.Holders.add.Goals as goal

pub returns-in_err-push-clause-kept : goal.returns-in_err-push-clause-kept
returns-in_err-push-clause-kept c =
    let same : c.push.new.self ≡ c.index_mut.result.now = search rules in
    subst (λ y. KeepsHolders c.args.self.now.channels.keys c.args.self.now.places.items c.index_for.new.self.channels.keys (slice_set c.index_for.new.self.places.items c.in_ok-index.index y)) (sym same)
    (back_kept c.args.self.now.channels.keys c.args.self.now.places.items c.index_for.new.self.channels.keys c.index_for.new.self.places.items c.in_ok-index.index c.index_mut.result.now c.index_for.ensures.kept c.index_mut.ensures.value)

pub returns-clause-added : goal.returns-clause-added
returns-clause-added c =
    let same : c.push.new.self ≡ c.index_mut.result.now ++ c.args.place ∷ [] = search rules in
    let lt : c.in_ok-index.index < length c.index_for.new.self.places.items = search rules in
    subst (λ y. Contains (holders_of c.index_for.new.self.channels.keys (slice_set c.index_for.new.self.places.items c.in_ok-index.index y) c.args.channel) c.args.place) (sym same)
    (put_has c.index_for.new.self.channels.keys c.index_for.new.self.places.items c.args.channel c.in_ok-index.index c.args.place c.index_mut.result.now lt c.index_mut.ensures.value c.in_ok-index.ensures.index)

pub returns-clause-kept : goal.returns-clause-kept
returns-clause-kept c =
    let same : c.push.new.self ≡ c.index_mut.result.now ++ c.args.place ∷ [] = search rules in
    let lt : c.in_ok-index.index < length c.index_for.new.self.places.items = search rules in
    subst (λ y. KeepsHolders c.args.self.now.channels.keys c.args.self.now.places.items c.index_for.new.self.channels.keys (slice_set c.index_for.new.self.places.items c.in_ok-index.index y)) (sym same)
    (put_kept c.args.self.now.channels.keys c.args.self.now.places.items c.index_for.new.self.channels.keys c.index_for.new.self.places.items c.in_ok-index.index c.args.place c.index_mut.result.now c.index_for.ensures.kept lt c.index_mut.ensures.value)
