-- A world stays one, its journals are honest, and so its people are safe.
use Rattle.std.proofs.Common.{List, [], ◌∷◌}
use Rattle.call_history.specs.declared.entry.Entry.{Entry}
use Rattle.network.specs.Ways.{Ways}
use Rattle.network.specs.Worlds.{WorldOf, happened}
use Rattle.network.specs.declared.happening.Happening.{Happening}
use Rattle.network.proofs.Real.{network-safe}
use Rattle.network.proofs.Standing.{stays, honest}
use Rattle.network.specs.Standing.{AreKept, IsWorld}
use Rattle.network.specs.Safe.{after, NothingOldBecomesFinal}

pub stays-after : {P : Type 0} (ways : Ways P) (stands : List Entry → P → Type 0) → AreKept ways stands
    → (events : List Happening) (w : WorldOf P) → IsWorld stands w → IsWorld stands (after ways events w)
stays-after ways stands kept [] w is = is
stays-after ways stands kept (event ∷ events) w is = stays-after ways stands kept events (happened ways event w) (stays ways stands kept w event is)

pub safe_after : {P : Type 0} (ways : Ways P) (stands : List Entry → P → Type 0) → NothingOldBecomesFinal ways stands
safe_after ways stands kept events w is m there values valid unforged none in_time =
    let now : IsWorld stands (after ways events w) = stays-after ways stands kept events w is in
    network-safe (after ways events w).history (ways.lines m.node) valid (ways.key m.node) now.legal
    (honest ways stands kept (after ways events w) now values m there) unforged none in_time
