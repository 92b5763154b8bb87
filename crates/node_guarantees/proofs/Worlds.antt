-- What people keep, they keep in any world.
use Rattle.std.proofs.Common.{Bool, List, subst}
use Rattle.call_history.specs.declared.entry.Entry.{Entry}
use Rattle.channel_safety.specs.Honest.{Honest}
use Rattle.network.specs.Ways.{Ways}
use Rattle.channel_node.specs.Places.{Told}
use Rattle.support_rules.specs.Real.{real}
use Rattle.network.proofs.Safe.{stays-after}
use Rattle.network.specs.Safe.{after}
use Rattle.network.specs.Standing.{AreKept, IsWorld}
use Rattle.node_guarantees.specs.Laws.{NobodyLowersAShare, EveryJournalIsHonest, EveryChallengeIsOwn}
use Rattle.node_guarantees.specs.Telling.{LinesAreTold, ChallengesAreOwn, JournalsAreByRules, KeepsShares}
use Rattle.node_guarantees.proofs.Once.{is_honest}

pub shares_stay : {P : Type 0} (ways : Ways P) (stands : List Entry → P → Type 0) (told : P → List Told) → AreKept ways stands → KeepsShares ways stands told
    → NobodyLowersAShare ways stands told
shares_stay ways stands told kept holds events w is m there =
    let now : IsWorld stands (after ways events w) = stays-after ways stands kept events w is in
    holds (after ways events w).history m.node now.legal (now.nodes m there)

pub honest_after : {P : Type 0} (ways : Ways P) (stands : List Entry → P → Type 0) (told : P → List Told) → AreKept ways stands → LinesAreTold ways told
    → JournalsAreByRules ways stands told → EveryJournalIsHonest ways stands told
honest_after ways stands told kept opens rules events w is values m there =
    let now : IsWorld stands (after ways events w) = stays-after ways stands kept events w is in
    is_honest (after ways events w).history (ways.key m.node) (told m.node)
    (subst (Honest real (ways.key m.node) (after ways events w).history) (opens m.node) (kept.honest (after ways events w).history m.node now.legal values (now.nodes m there)))
    (rules (after ways events w).history m.node now.legal values (now.nodes m there))

-- ---- challenges

pub own_after : {P : Type 0} (ways : Ways P) (stands : List Entry → P → Type 0) (lost : P → Bool) (told : P → List Told) → AreKept ways stands
    → ChallengesAreOwn ways stands lost told → EveryChallengeIsOwn ways stands lost told
own_after ways stands lost told kept own events w is m there able =
    own (after ways events w).history m.node ((stays-after ways stands kept events w is).nodes m there) able
