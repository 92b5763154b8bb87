-- The same under the network's own rules, where no hashed strings collide. The tables may be any.
use Rattle.std.specs.Prelude.{ℕ, List}
use Rattle.channel_values.specs.Collisions.{NoneCollide}
use Rattle.call_history.specs.declared.entry.Entry.{Entry}
use Rattle.support_rules.specs.Real.{real}
use Rattle.channel_safety.specs.Hashed.{hashed}
use Rattle.channel_safety.specs.Premises.{Unforged, InTime}
use Rattle.channel_safety.specs.Occurring.{AreValid}
use Rattle.channel_safety.specs.Safety.{IsSafe}
use Rattle.channel_node.specs.Tables.{Tables}
use Rattle.channel_node.specs.Places.{Told, lines_of}
use Rattle.channel_node.specs.Playing.{Signing, SignsWell}
use Rattle.channel_node.specs.Races.{PlaysRace}

abbrev pub NetworkRacersAreInTime : Type 0
NetworkRacersAreInTime =
    (t : Tables) (s : Signing) (h : List Entry) (journal : List Told) (ends : List ℕ)
    → PlaysRace t real s h journal ends → AreValid h (lines_of s.key journal)
    → NoneCollide (hashed h (lines_of s.key journal)) → InTime real h (lines_of s.key journal)

abbrev pub NetworkRacersAreSafe : Type 0
NetworkRacersAreSafe =
    (t : Tables) (s : Signing) (h : List Entry) (journal : List Told) (ends : List ℕ)
    → SignsWell real s → PlaysRace t real s h journal ends → AreValid h (lines_of s.key journal)
    → Unforged real s.key h (lines_of s.key journal) → NoneCollide (hashed h (lines_of s.key journal))
    → IsSafe real s.key h (lines_of s.key journal)
