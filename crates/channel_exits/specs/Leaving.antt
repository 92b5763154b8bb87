-- A history in which a person can exit, and its exit pays its share.
use Rattle.std.specs.Prelude.{◌≡◌, ℕ, ◌<◌, List, ◌++◌, reverse}
use Rattle.channel_values.specs.Rules.{Rules}
use Rattle.call_history.specs.History.{Legal, paid_to}
use Rattle.call_history.specs.declared.entry.Entry.{Entry}
use Rattle.channel_safety.specs.Journals.{Line}
use Rattle.channel_safety.specs.Occurring.{NoCollision}
use Rattle.share_laws.specs.Places.{Order, plan, share, IsPlace}
use Rattle.channel_exits.specs.Calls.{exit_calls}
use Rattle.channel_exits.specs.Endings.{ended, Stand}
use Rattle.channel_exits.specs.ExitLaws.{CanExit}

-- Rules, a legal history and a journal without collision, a place at which the person can exit, and after it the
-- calls of its exit. The person was paid nothing there, its share was more, and that is what it was paid in the end.
pub record LeavesWithItsShare : Type 0 where
  pub rules : Rules
  pub me : List ℕ
  pub orders : ℕ → Order
  pub past : List Entry
  pub later : List Entry
  pub journal : List Line
  pub asset : ℕ
  pub legal : Legal rules (later ++ past)
  pub distinct : NoCollision rules (later ++ past) journal
  pub place : IsPlace (later ++ past) journal past journal
  pub can : CanExit rules me orders past journal
  pub stood : Stand (reverse (exit_calls (ended rules past) me (plan orders journal))) later
  pub unpaid : paid_to past me asset ≡ 0
  pub some : 0 < share rules me orders past journal asset
  pub all : paid_to (later ++ past) me asset ≡ share rules me orders past journal asset
