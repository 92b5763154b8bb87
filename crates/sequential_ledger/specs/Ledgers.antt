-- An adjudicator with its history, the newest entry first.
use Rattle.std.specs.Prelude.{◌<◌, ◌^◌, List, length}
use Rattle.call_history.specs.History.{Legal}
use Rattle.call_history.specs.declared.entry.Entry.{Entry}
use Rattle.support_rules.specs.Real.{real}
use Rattle.adjudicator.specs.Standing.{Standing, StandsFor}

-- the history is legal, and the adjudicator stands for it
pub record IsLedger (history : List Entry) (adjudicator : Standing) : Type 0 where
  pub stands : StandsFor real history adjudicator
  pub legal : Legal real history
  pub few : length history < 2 ^ 32
