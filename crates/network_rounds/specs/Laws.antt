-- The laws of rounds, over any nodes that keep their rules.
use Rattle.std.specs.Prelude.{◌≡◌, Bool, List}
use Rattle.std.specs.List.{AllByRecursion}
use Rattle.call_history.specs.History.{newest_first}
use Rattle.call_history.specs.declared.entry.Entry.{Entry}
use Rattle.shared_object.specs.Caller.{Caller, IsCaller, whole}
use Rattle.channel_safety.specs.Honest.{Honest}
use Rattle.channel_safety.specs.Journals.{In}
use Rattle.channel_safety.specs.Valid.{IsValidEntry}
use Rattle.network.specs.Ways.{Ways}
use Rattle.network.specs.Members.{MemberOf}
use Rattle.support_rules.specs.Real.{real}
use Rattle.network.specs.Standing.{AreKept}
use Rattle.network_rounds.specs.Rounds.{CrewOf, Runs}
use Rattle.network_rounds.specs.Crews.{IsCrew, IsOrdered}
use Rattle.network_rounds.specs.Journals.{WritesJournals}
use Rattle.network_rounds.specs.Races.{Stage, Race, IsRacing}
use Rattle.network_rounds.specs.Told.{Round}

-- what runs is a round
abbrev pub RunsAreRounds : Type 0 → Type 0
RunsAreRounds P =
    (ways : Ways P) (crew after : CrewOf P) (c d : Caller Entry) → IsCaller c → c.part ≡ whole → Runs ways crew after c d
    → Round ways crew after c.seen d.seen × IsCaller d × (d.part ≡ whole)

-- after it the nodes and their watchers stand for the longer history, and the actors' notes begin it
abbrev pub RoundsKeepCrews : {P : Type 0} → Ways P → (stands : List Entry → P → Type 0) → Type 0
RoundsKeepCrews {P} ways stands =
    (crew after : CrewOf P) (h later : List Entry) → AreKept ways stands
    → IsCrew stands h crew → Round ways crew after h later → IsCrew stands later after

-- so each journal is honest over it
abbrev pub CrewsAreHonest : {P : Type 0} → Ways P → (stands : List Entry → P → Type 0) → Type 0
CrewsAreHonest {P} ways stands =
    (crew : CrewOf P) (h : List Entry) → AreKept ways stands → IsCrew stands h crew
    → AllByRecursion IsValidEntry (newest_first h) → (m : MemberOf P) → In m crew.nodes → Honest real (ways.key m.node) (newest_first h) (ways.lines m.node)

-- a race stays one, whatever step it takes
abbrev pub RacesStay : {P : Type 0} → Ways P → (stands : List Entry → P → Type 0) → Type 0
RacesStay {P} ways stands =
    (lost : P → Bool) → AreKept ways stands → WritesJournals ways lost
    → (steps : List (Stage P)) (s t : Stage P) → IsRacing ways stands lost s → Race ways steps s t → IsRacing ways stands lost t

-- and its crew stays in order
abbrev pub RoundsKeepOrder : {P : Type 0} → Ways P → (stands : List Entry → P → Type 0) → Type 0
RoundsKeepOrder {P} ways stands =
    (lost : P → Bool) → AreKept ways stands → WritesJournals ways lost
    → (s : Stage P) (after : CrewOf P) (later : List Entry) → IsRacing ways stands lost s → IsOrdered ways s.crew → Round ways s.crew after s.seen later → IsOrdered ways after
