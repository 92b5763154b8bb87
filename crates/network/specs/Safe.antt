-- What the people of a world are safe from, whatever happens.
use Rattle.std.specs.Prelude.{List, fold}
use Rattle.std.specs.List.{AllByRecursion}
use Rattle.channel_values.specs.Collisions.{NoneCollide}
use Rattle.call_history.specs.declared.entry.Entry.{Entry}
use Rattle.channel_safety.specs.Hashed.{hashed}
use Rattle.channel_safety.specs.Journals.{In}
use Rattle.channel_safety.specs.Premises.{Unforged, InTime}
use Rattle.channel_safety.specs.Occurring.{AreValid}
use Rattle.channel_safety.specs.Safety.{IsSafe}
use Rattle.channel_safety.specs.Valid.{IsValidEntry}
use Rattle.network.specs.Ways.{Ways}
use Rattle.network.specs.Members.{MemberOf}
use Rattle.network.specs.Worlds.{WorldOf, happened}
use Rattle.network.specs.declared.happening.Happening.{Happening}
use Rattle.support_rules.specs.Real.{real}
use Rattle.network.specs.Standing.{AreKept, IsWorld}

-- the world after these happenings, one after another
abbrev pub after : {P : Type 0} → Ways P → List Happening → WorldOf P → WorldOf P
after ways events w = fold (λ now event. happened ways event now) w events

-- Of a person with a node no channel becomes final with an outcome older than its newest supported state. So it is
-- where nothing is forged of it, its hashed strings don't collide and its watchers are in time. Entries and lines are
-- of values.
abbrev pub IsSafeIn : {P : Type 0} → Ways P → WorldOf P → MemberOf P → Type 0
IsSafeIn ways w m =
    AllByRecursion IsValidEntry w.history → AreValid w.history (ways.lines m.node)
    → Unforged real (ways.key m.node) w.history (ways.lines m.node) → NoneCollide (hashed w.history (ways.lines m.node))
    → InTime real w.history (ways.lines m.node) → IsSafe real (ways.key m.node) w.history (ways.lines m.node)

-- so of each, after any happenings in any order, where nodes keep what they must
abbrev pub NothingOldBecomesFinal : {P : Type 0} → Ways P → (List Entry → P → Type 0) → Type 0
NothingOldBecomesFinal {P} ways stands =
    AreKept ways stands → (events : List Happening) (w : WorldOf P) → IsWorld stands w
    → (m : MemberOf P) → In m (after ways events w).members → IsSafeIn ways (after ways events w) m
