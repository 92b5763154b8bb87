use Rattle.std.proofs.Common.{rules, ◌≡◌, ◌==◌, [], ◌∷◌, ◌++◌, true, false, Some, None, length, map, slice_get, ◌∙◌, ap}
use Rattle.watchtower.specs.Towers.{calls_of}
use Rattle.watchtower.proofs.Collecting.{nobody_told, none_told, one_told, told_more}
use Rattle.watchtower.proofs.answering.answer.Goals as goal

pub returns-in_default-clause-told : goal.returns-in_default-clause-told
returns-in_default-clause-told c =
    let none : slice_get c.args.clients.now c.args.place ≡ None = search rules in
    nobody_told c.args.watcher.now _ (slice_get c.args.clients.now c.args.place) none

pub returns-in_ok-push-clause-told : goal.returns-in_ok-push-clause-told
returns-in_ok-push-clause-told c =
    let at : slice_get c.args.clients.now c.args.place ≡ Some c.in-Some.client.now = search rules in
    let is : c.in_ok-calls.calls.items ≡ calls_of c.args.watcher.now c.in-Some.client.now.chains = c.in_ok-calls.ensures.calls c.args.clients.now at c.requires in
    let some : (length c.in_ok-calls.calls.items == 0) ≡ false = search rules in
    let items : c.push.new.self.items ≡ c.args.told.now.items ++ (c.in-Some.client.now.name, c.in_ok-calls.calls) ∷ [] = search rules in
    ap (map (λ t. (t.0, t.1.items))) items
    ∙ told_more (λ t. (t.0, t.1.items)) c.args.told.now.items (c.in-Some.client.now.name, c.in_ok-calls.calls)
    ∙ ap (λ l. map (λ t. (t.0, t.1.items)) c.args.told.now.items ++ l) (one_told c.args.watcher.now (slice_get c.args.clients.now c.args.place) c.in-Some.client.now c.in_ok-calls.calls.items at is some)

pub returns-else-not-is_empty-clause-told : goal.returns-else-not-is_empty-clause-told
returns-else-not-is_empty-clause-told c =
    let at : slice_get c.args.clients.now c.args.place ≡ Some c.in-Some.client.now = search rules in
    let is : c.in_ok-calls.calls.items ≡ calls_of c.args.watcher.now c.in-Some.client.now.chains = c.in_ok-calls.ensures.calls c.args.clients.now at c.requires in
    let none : (length c.in_ok-calls.calls.items == 0) ≡ true = search rules in
    none_told c.args.watcher.now _ (slice_get c.args.clients.now c.args.place) c.in-Some.client.now c.in_ok-calls.calls.items at is none
