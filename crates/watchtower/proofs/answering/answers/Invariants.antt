use Rattle.std.proofs.Common.{◌≡◌, take, map, slice_get}
use Rattle.std.specs.List.{flat_map}
use Rattle.watchtower.specs.Looking.{answer_at}
use Rattle.watchtower.specs.Sharing.{AreFor}
use Rattle.watchtower.proofs.answering.answers.Given as goal

abbrev pub invariant-loop-place : goal.invariant-loop-place
invariant-loop-place l = AreFor l.watcher l.clients l.found.items
    × (map (λ t. (t.0, t.1.items)) l.told.items ≡ flat_map (λ p. answer_at l.watcher (slice_get l.clients p)) (take l.place-index l.places))
