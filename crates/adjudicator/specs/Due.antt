-- Channels with their deadlines, and which of them are due.
use Rattle.std.specs.Prelude.{ℕ, Bool, nat_le, List, [], ◌∷◌, Option, Some, None, if◌then◌else◌, filter}
use Rattle.std.specs.List.{IsDistinct}
use Rattle.std.specs.List.Sorted.{IsStrictlySortedBy}
use Rattle.std.specs.Cmp.Lexicographic.{slice_cmp}
use Rattle.std.specs.Ordering.{nat_cmp, ordering_then}
use Rattle.std.specs.Str.{bytes_eq}
use Rattle.std.specs.declared.cmp.Ordering.{Ordering}

-- Clauses mention only a channel's deadline in the rows, and those that are due.
pub record Dated : Type 0 where
  pub rows : List (ℕ × List ℕ)
  -- how many more rows fit without more memory
  pub room : ℕ

-- a channel's deadline, if it has one
abbrev pub deadline_in : List (ℕ × List ℕ) → List ℕ → Option ℕ
deadline_in [] channel = None
deadline_in (row ∷ rows) channel = if bytes_eq row.1 channel then Some row.0 else deadline_in rows channel

-- by deadline, and then by name
abbrev pub row_cmp : ℕ × List ℕ → ℕ × List ℕ → Ordering
row_cmp x y = ordering_then (nat_cmp x.0 y.0) (slice_cmp nat_cmp x.1 y.1)

abbrev pub same_channel : ℕ × List ℕ → ℕ × List ℕ → Bool
same_channel x y = bytes_eq x.1 y.1

-- the rows are in order, and each channel has at most one
pub record AreOrdered (rows : List (ℕ × List ℕ)) : Type 0 where
  pub ordered : IsStrictlySortedBy row_cmp rows
  pub once : IsDistinct same_channel rows

-- a deadline that has come
abbrev pub come : ℕ → Option ℕ → Option ℕ
come now None = None
come now (Some deadline) = if nat_le deadline now then Some deadline else None

-- the rows whose deadline has come
abbrev pub due_at : List (ℕ × List ℕ) → ℕ → List (ℕ × List ℕ)
due_at rows now = filter (λ row. nat_le row.0 now) rows
