-- What the network's node keeps in a race: by its journal, and by its ways, as a world has it.
use Rattle.std.specs.Prelude.{ℕ, List, ◌∷◌, ◌++◌, flat_map}
use Rattle.channel_values.specs.Collisions.{NoneCollide}
use Rattle.channel_values.specs.Digests.{name_of_person, person_string}
use Rattle.call_history.specs.History.{Legal}
use Rattle.call_history.specs.declared.entry.Entry.{Entry}
use Rattle.support_rules.specs.Real.{real}
use Rattle.channel_safety.specs.Hashed.{of_fixed, hashed}
use Rattle.channel_safety.specs.Premises.{Unforged, InTime}
use Rattle.channel_safety.specs.Occurring.{AreValid}
use Rattle.channel_safety.specs.Safety.{IsSafe}
use Rattle.node_guarantees.specs.Keeping.{KeepsItsShare}
use Rattle.channel_safety.specs.Races.{IsRaced}
use Rattle.channel_node.specs.Nodes.{told_of}
use Rattle.channel_node.specs.Places.{Told, lines_of}
use Rattle.channel_node.specs.Playing.{Signing, SignsWell}
use Rattle.stage_tables.specs.Stages.{stages}
use Rattle.node_guarantees.specs.Orders.{orders_of}
use Rattle.channel_node.specs.Named.{named_in}
use Rattle.node_guarantees.specs.Ways.{Numbered, ways}
use Rattle.node_guarantees.specs.Placed.{IsPlaced}
use Rattle.channel_node.specs.Races.{OpensLasting, PlaysRace}

-- In a race nobody lowers the share of a node's person, and it can leave with it. Nothing is forged and no hashed
-- strings collide, those of its key and of all that its commands name among them.
abbrev pub RacedPlansKeepShares : Type 0
RacedPlansKeepShares =
    (s : Signing) (h : List Entry) (journal : List Told) (ends : List ℕ)
    → SignsWell real s → PlaysRace stages real s h journal ends
    → AreValid h (lines_of s.key journal) → Unforged real s.key h (lines_of s.key journal)
    → NoneCollide (hashed h (lines_of s.key journal) ++ (person_string s.key ∷ flat_map of_fixed (named_in journal)))
    → KeepsItsShare (name_of_person s.key) (orders_of real s.key journal) h (lines_of s.key journal)

-- ---- a node of a world

-- its watchers are in time
abbrev pub RacingNodesAreInTime : Type 0
RacingNodesAreInTime =
    (h : List Entry) (p : Numbered) (ends : List ℕ) → Legal real h → IsPlaced h p
    → IsRaced h (ways.lines p) ends → OpensLasting (ways.lines p) → AreValid h (ways.lines p)
    → NoneCollide (hashed h (ways.lines p)) → InTime real h (ways.lines p)

-- no outcome becomes final for its person that is older than what it noted or was shown
abbrev pub RacingNodesAreSafe : Type 0
RacingNodesAreSafe =
    (h : List Entry) (p : Numbered) (ends : List ℕ) → Legal real h → IsPlaced h p
    → IsRaced h (ways.lines p) ends → OpensLasting (ways.lines p) → AreValid h (ways.lines p)
    → Unforged real (ways.key p) h (ways.lines p) → NoneCollide (hashed h (ways.lines p))
    → IsSafe real (ways.key p) h (ways.lines p)

-- and its person keeps its share
abbrev pub RacingNodesKeepShares : Type 0
RacingNodesKeepShares =
    (h : List Entry) (p : Numbered) (ends : List ℕ) → Legal real h → IsPlaced h p
    → IsRaced h (ways.lines p) ends → OpensLasting (ways.lines p) → AreValid h (ways.lines p)
    → Unforged real (ways.key p) h (ways.lines p)
    → NoneCollide
    (hashed h (ways.lines p) ++ (person_string (ways.key p) ∷ flat_map of_fixed (named_in (told_of p.node))))
    → KeepsItsShare (name_of_person (ways.key p)) (orders_of real (ways.key p) (told_of p.node)) h (ways.lines p)
