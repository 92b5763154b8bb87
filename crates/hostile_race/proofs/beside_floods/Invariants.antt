use Rattle.std.proofs.Common.{◌≡◌, ◌≤◌, ◌-◌, [], length}
use Rattle.std.specs.Prelude.{All}
use Rattle.hostile_race.proofs.beside_floods.Given as goal

abbrev pub decreases-loop-alloc : goal.decreases-loop-alloc
decreases-loop-alloc g l = 16 - length l.cast.items

abbrev pub invariant-loop-alloc : goal.invariant-loop-alloc
invariant-loop-alloc g l = record {
  few : length l.cast.items ≤ 16;
  unseen : All (λ c. c.notes.entries.items ≡ []) l.cast.items;
}
