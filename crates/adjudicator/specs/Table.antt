-- Rows of channels as a table.
use Rattle.std.specs.Prelude.{◌≡◌, ℕ, List}
use Rattle.call_history.specs.Rows.{row_or_blank}
use Rattle.call_history.specs.declared.row.Row.{Row}
use Rattle.adjudicator.specs.Due.{deadline_in}
use Rattle.adjudicator.specs.Standing.{row_in, AreTurns}

pub record Table : Type 0 where
  -- a row for each channel that has one, in the order in which the channels first had one
  pub rows : List (List ℕ × Row)
  -- how many more rows fit without more memory
  pub room : ℕ

-- every recorded turn is one of a state, and the deadlines beside the rows are those in them
pub record IsDated (rows : List (List ℕ × Row)) (dated : List (ℕ × List ℕ)) : Type 0 where
  pub turns : AreTurns rows
  pub deadlines : (channel : List ℕ) → deadline_in dated channel ≡ (row_or_blank (row_in rows channel)).deadline
