-- What callers see of the items paid: a table of amounts, in the order in which each item was first paid.
use Rattle.std.specs.Prelude.{◌==◌, ◌&&◌, ℕ, Bool, List}
use Rattle.std.specs.Str.{bytes_eq}
use Rattle.asset_holder.specs.Amounts.{amount_in}

-- Clauses mention only the table's amounts.
pub record Payments : Type 0 where
  -- what was paid, by the channel of an outcome, an asset in it and a place there
  pub rows : List ((List ℕ × ℕ × ℕ) × ℕ)
  -- how many more payments fit without more memory
  pub room : ℕ

-- the keys are the same item
abbrev pub same_item : List ℕ × ℕ × ℕ → List ℕ × ℕ × ℕ → Bool
same_item x y = (bytes_eq x.0 y.0 && (x.1 == y.1)) && (x.2 == y.2)

-- what was paid of an item
abbrev pub amount_of_item : Payments → List ℕ → ℕ → ℕ → ℕ
amount_of_item paid channel asset place = amount_in same_item paid.rows (channel, asset, place)
