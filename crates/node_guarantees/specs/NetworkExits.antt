-- The law on exits, under the network's own rules.
use Rattle.std.specs.Prelude.{◌≡◌, ℕ, ◌≤◌, List, ◌++◌, reverse}
use Rattle.channel_values.specs.Collisions.{NoneCollide}
use Rattle.channel_values.specs.Digests.{name_of_person}
use Rattle.call_history.specs.History.{Legal, paid_to}
use Rattle.call_history.specs.declared.entry.Entry.{Entry}
use Rattle.channel_safety.specs.Hashed.{hashed}
use Rattle.channel_safety.specs.Journals.{Line}
use Rattle.channel_safety.specs.Honest.{Honest}
use Rattle.channel_safety.specs.Premises.{Unforged, InTime}
use Rattle.share_laws.specs.Places.{Order, plan, share, IsPlace}
use Rattle.support_rules.specs.Real.{real}
use Rattle.share_laws.specs.Lines.{AreInOrder}
use Rattle.channel_exits.specs.Calls.{exit_calls}
use Rattle.channel_exits.specs.Endings.{ended, AreFinal, Stand}
use Rattle.channel_exits.specs.Fair.{LeavesFairly}
use Rattle.node_guarantees.specs.Keeping.{LeaversArePaid}

-- An honest participant that leaves fairly is paid at least its share at a place where its channels are final. That
-- is so once the calls of its exit stand after it, whatever others enter between.
abbrev pub NetworkExitsPay : List Entry → List Line → Type 0
NetworkExitsPay h journal =
    (key : List ℕ) (orders : ℕ → Order) → Legal real h
    → Honest real key h journal → Unforged real key h journal → NoneCollide (hashed h journal)
    → InTime real h journal → LeavesFairly real (name_of_person key) orders h journal
    → (past later : List Entry) (front : List Line) → IsPlace h journal past front → h ≡ later ++ past
    → AreFinal real past front
    → Stand (reverse (exit_calls (ended real past) (name_of_person key) (plan orders front))) later
    → (asset : ℕ) → share real (name_of_person key) orders past front asset ≤ paid_to h (name_of_person key) asset

-- So it is paid what it had at any place after which it signed no state.
abbrev pub NetworkLeaversArePaid : List Entry → List Line → Type 0
NetworkLeaversArePaid h journal =
    (key : List ℕ) (orders : ℕ → Order) → Legal real h
    → Honest real key h journal → Unforged real key h journal → NoneCollide (hashed h journal)
    → InTime real h journal → LeavesFairly real (name_of_person key) orders h journal
    → AreInOrder journal → LeaversArePaid (name_of_person key) orders h journal
