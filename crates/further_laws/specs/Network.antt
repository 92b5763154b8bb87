-- What the laws say of a history and a journal of a race under the network's own rules.
use Rattle.std.specs.Prelude.{◌≡◌, ℕ, ◌≤◌, List, ◌++◌, reverse}
use Rattle.channel_values.specs.Collisions.{NoneCollide}
use Rattle.channel_values.specs.Digests.{name_of_person}
use Rattle.call_history.specs.History.{Legal, paid_to}
use Rattle.call_history.specs.declared.entry.Entry.{Entry}
use Rattle.support_rules.specs.Real.{real}
use Rattle.channel_safety.specs.Journals.{Line}
use Rattle.channel_safety.specs.Hashed.{hashed}
use Rattle.channel_safety.specs.Premises.{Unforged, InTime}
use Rattle.channel_safety.specs.Honest.{Honest}
use Rattle.channel_safety.specs.Safety.{IsSafe}
use Rattle.share_laws.specs.Kept.{SharesAreKept}
use Rattle.share_laws.specs.Places.{Order, plan, share, IsPlace}
use Rattle.share_laws.specs.Lines.{AreInOrder}
use Rattle.share_laws.specs.Signed.{PlansFairly}
use Rattle.channel_exits.specs.Calls.{exit_calls}
use Rattle.channel_exits.specs.Endings.{ended, Stand, AreFinal}
use Rattle.channel_exits.specs.Fair.{LeavesFairly}
use Rattle.node_guarantees.specs.Keeping.{LeaversArePaid}
use Rattle.channel_safety.specs.Races.{IsRaced, NotesLasting}

-- in a race watchers are in time, where no hashed strings collide
abbrev pub RacedWatchersAreInTime : List Entry → List Line → Type 0
RacedWatchersAreInTime h journal =
    (ends : List ℕ) → NoneCollide (hashed h journal) → IsRaced h journal ends → NotesLasting real journal
    → InTime real h journal

-- no outcome becomes final for an honest participant that is older than what it noted or was shown
abbrev pub RacedOutcomesAreNotOlder : List Entry → List Line → Type 0
RacedOutcomesAreNotOlder h journal =
    (key : List ℕ) (ends : List ℕ) → Legal real h → Honest real key h journal
    → Unforged real key h journal → NoneCollide (hashed h journal) → IsRaced h journal ends → NotesLasting real journal
    → IsSafe real key h journal

-- nobody lowers the share of an honest participant that plans fairly
abbrev pub RacedSharesAreKept : List Entry → List Line → Type 0
RacedSharesAreKept h journal =
    (key : List ℕ) (orders : ℕ → Order) (ends : List ℕ) → Legal real h → Honest real key h journal
    → Unforged real key h journal → NoneCollide (hashed h journal) → IsRaced h journal ends → NotesLasting real journal
    → PlansFairly real (name_of_person key) orders h journal
    → SharesAreKept real (name_of_person key) orders h journal

-- An honest participant that leaves fairly is paid at least its share at a place where its channels are final. That
-- is so once the calls of its exit stand after it, whatever others enter between.
abbrev pub RacedExitsPay : List Entry → List Line → Type 0
RacedExitsPay h journal =
    (key : List ℕ) (orders : ℕ → Order) (ends : List ℕ) → Legal real h → Honest real key h journal
    → Unforged real key h journal → NoneCollide (hashed h journal) → IsRaced h journal ends → NotesLasting real journal
    → LeavesFairly real (name_of_person key) orders h journal
    → (past later : List Entry) (front : List Line) → IsPlace h journal past front → h ≡ later ++ past
    → AreFinal real past front
    → Stand (reverse (exit_calls (ended real past) (name_of_person key) (plan orders front))) later
    → (asset : ℕ) → share real (name_of_person key) orders past front asset ≤ paid_to h (name_of_person key) asset

-- and at least the share that it had when it began to leave
abbrev pub RacedLeaversArePaid : List Entry → List Line → Type 0
RacedLeaversArePaid h journal =
    (key : List ℕ) (orders : ℕ → Order) (ends : List ℕ) → Legal real h → Honest real key h journal
    → Unforged real key h journal → NoneCollide (hashed h journal) → IsRaced h journal ends → NotesLasting real journal
    → LeavesFairly real (name_of_person key) orders h journal → AreInOrder journal
    → LeaversArePaid (name_of_person key) orders h journal
