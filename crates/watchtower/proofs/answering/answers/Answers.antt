use Rattle.std.proofs.Common.{rules, ◌≤◌, length, slice_get, ◌∙◌, ap}
use Rattle.std.specs.List.{flat_map}
use Rattle.std.proofs.lemmas.List.{take_all}
use Rattle.watchtower.specs.Looking.{answer_at}
use Rattle.watchtower.proofs.Collecting.{all_answered}
use Rattle.watchtower.proofs.answering.answers.Goals as goal

pub returns : goal.returns
returns c =
    let le : length c.args.places.now ≤ c.loop-place.place-index = search rules in
    c.loop-place.invariant.1
    ∙ ap (flat_map (λ p. answer_at c.args.watcher.now (slice_get c.args.clients.now p))) (take_all c.loop-place.place-index c.args.places.now le)
    ∙ all_answered c.args.watcher.now c.args.clients.now c.args.places.now c.requires.rising c.requires.all
