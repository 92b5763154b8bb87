-- What a person keeps, under the network's own rules.
use Rattle.std.specs.Prelude.{◌≡◌, ℕ, ◌≤◌, List, ◌++◌, reverse}
use Rattle.call_history.specs.History.{paid_to}
use Rattle.call_history.specs.declared.entry.Entry.{Entry}
use Rattle.channel_safety.specs.Journals.{Line}
use Rattle.share_laws.specs.Kept.{SharesAreKept}
use Rattle.share_laws.specs.Places.{Order, plan, share, IsPlace}
use Rattle.support_rules.specs.Real.{real}
use Rattle.share_laws.specs.Lines.{SignNothing}
use Rattle.channel_exits.specs.Calls.{exit_calls}
use Rattle.channel_exits.specs.Endings.{ended, AreFinal, Stand}

-- The person is paid at least the share that it had at a place after which it signed no state until its channels were
-- final. That is so once the calls of its exit stand after that, whatever others enter between.
abbrev pub LeaversArePaid : (me : List ℕ) → (orders : ℕ → Order) → List Entry → List Line → Type 0
LeaversArePaid me orders h journal =
    (past mid later : List Entry) (front newer : List Line) → IsPlace h journal past front
    → IsPlace h journal (mid ++ past) (newer ++ front) → SignNothing newer
    → h ≡ later ++ (mid ++ past) → AreFinal real (mid ++ past) (newer ++ front)
    → Stand (reverse (exit_calls (ended real (mid ++ past)) me (plan orders (newer ++ front)))) later
    → (asset : ℕ) → share real me orders past front asset ≤ paid_to h me asset

-- Nobody lowers the share of this person, and it can leave with it.
pub record KeepsItsShare (me : List ℕ) (orders : ℕ → Order) (h : List Entry) (journal : List Line) : Type 0 where
  pub kept : SharesAreKept real me orders h journal
  pub paid : LeaversArePaid me orders h journal
