use Rattle.std.proofs.Common.{rules, ◌≡◌, Some, true}
use Rattle.call_history.specs.Marked.{marked_of}
use Rattle.support_rules.specs.Real.{real}
use Rattle.channel_store.specs.Keeping.{with_chain}
use Rattle.channel_store.specs.Storing.{place_of, kept_of}
use Rattle.channel_store.specs.Noting.{is_adopted}
use Rattle.channel_store.proofs.Calls.{adopts_set, adopts_named}
use Rattle.channel_store.proofs.store.Store.adopt.Goals as goal

pub set-requires-clause-good : goal.set-requires-clause-good
set-requires-clause-good c =
    let at : c.place_of-place.result ≡ place_of c.args.channel.now c.self.inside.kept.items = search rules in
    let new : c.in_ok-adopted.adopted ≡ with_chain (marked_of c.args.shown) c.in-Some.k.now = search rules in
    let found : Some c.in-Some.k.now ≡ kept_of c.args.channel.now c.self.inside.kept.items = search rules in
    let newer : is_adopted real c.args.channel.now (marked_of c.args.shown) c.self.inside.kept.items ≡ true = search rules in
    adopts_set real c.args.channel.now (marked_of c.args.shown) c.self.inside.kept.items c.is_adopted.new.kept.items c.in-Some.k.now c.in_ok-adopted.adopted
    c.place_of-place.result c.is_adopted.ensures.same at new c.self.invariant.good found newer

pub set-requires-clause-named : goal.set-requires-clause-named
set-requires-clause-named c =
    let at : c.place_of-place.result ≡ place_of c.args.channel.now c.self.inside.kept.items = search rules in
    let new : c.in_ok-adopted.adopted ≡ with_chain (marked_of c.args.shown) c.in-Some.k.now = search rules in
    let found : Some c.in-Some.k.now ≡ kept_of c.args.channel.now c.self.inside.kept.items = search rules in
    adopts_named c.args.channel.now (marked_of c.args.shown) c.self.inside.kept.items c.is_adopted.new.kept.items c.in-Some.k.now c.in_ok-adopted.adopted
    c.place_of-place.result c.is_adopted.ensures.same at new found
