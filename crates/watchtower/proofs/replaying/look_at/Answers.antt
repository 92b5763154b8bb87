-- One entry follows on what the tower stands for, and what is answered is the longer history's.
use Rattle.std.proofs.Common.{rules, ◌≡◌, ◌++◌, [], ◌∷◌, map, sym, ◌∙◌, ap, subst}
use Rattle.std.specs.Prelude.{true, OnOk}
use Rattle.network.specs.Watching.{StandsFor, looks}
use Rattle.support_rules.specs.Real.{real}
use Rattle.watchtower.specs.Towers.{is_rising, answers}
use Rattle.watchtower.specs.Replay.{look_lines}
use Rattle.watchtower.proofs.NextLook.{names, follows_rising, stands_one, told_one, on_ok}
use Rattle.watchtower.proofs.replaying.look_at.Goals as goal

pub look_beside-requires-after_bounds : goal.look_beside-requires-after_bounds
look_beside-requires-after_bounds g c κs within =
    let one : c.from_ref.result.now ≡ c.args.entry.now ∷ [] = search rules in
    subst (λ es. is_rising c.args.tower.now.watching.time es ≡ true) (sym one)
    (follows_rising c.requires.0 c.args.entry.now c.args.tower.now.watching c.requires.1)

pub returns-clause-stands : goal.returns-clause-stands
returns-clause-stands g c h follows =
    let one : c.from_ref.result.now ≡ c.args.entry.now ∷ [] = search rules in
    on_ok c.add_answers.result (StandsFor real (c.args.entry.now ∷ h) c.look_beside.new.self.watching)
    (stands_one h c.from_ref.result.now c.args.entry.now c.look_beside.new.self.watching one follows.legal
    (c.in_ok-told.ensures.stands real h names follows.stands))

pub returns-clause-lines : goal.returns-clause-lines
returns-clause-lines g c h follows =
    let one : c.from_ref.result.now ≡ c.args.entry.now ∷ [] = search rules in
    let same : c.deref.result.now ≡ c.in_ok-told.told.items = search rules in
    let told : map (λ t. (t.0, t.1.items)) c.in_ok-told.told.items ≡ answers (looks real (c.args.entry.now ∷ h)) c.args.tower.now.clients =
    told_one h c.from_ref.result.now c.args.entry.now c.args.tower.now.clients _ one follows.legal
    (c.in_ok-told.ensures.answer real h names follows.stands) in
    subst
    (λ l. OnOk c.add_answers.result
    (c.add_answers.new.lines.items ≡ c.args.lines.now.items ++ look_lines c.args.entry.now.number l))
    (ap (map (λ t. (t.0, t.1.items))) same ∙ told) c.add_answers.ensures
