-- The outcomes that channels can end with, and the books of one asset under a choice of them.
use Rattle.std.specs.Prelude.{ℕ, Bool, true, false, List, [], ◌∷◌, Option, Some, None, is_some, if◌then◌else◌}
use Rattle.std.specs.Str.{bytes_eq}
use Rattle.channel_values.specs.declared.value.AssetOutcome.{AssetOutcome}
use Rattle.channel_values.specs.declared.value.Dest.{Dest}
use Rattle.channel_values.specs.declared.value.Item.{Item}
use Rattle.call_history.specs.Flows.{is_among}
use Rattle.funding_plans.specs.Shapes.{items_in, list_in}

-- a channel that counts: the outcome that it can end with, and the one that is proposed in place of it, if there is one
pub record Counting : Type 0 where
  pub channel : List ℕ
  pub outcome : List AssetOutcome
  pub proposal : Option (List AssetOutcome)

-- the proposal where there is one and it is taken, else the first
abbrev pub one_of : Option (List AssetOutcome) → Bool → List AssetOutcome → List AssetOutcome
one_of None is_taken first = first
one_of (Some proposal) is_taken first = if is_taken then proposal else first

-- The outcome of a channel under the choice that takes the proposals of the channels `taken`; none where the channel
-- doesn't count.
abbrev pub outcome_in : List Counting → List (List ℕ) → List ℕ → List AssetOutcome
outcome_in [] taken channel = []
outcome_in (x ∷ xs) taken channel =
    if bytes_eq x.channel channel then one_of x.proposal (is_among x.channel taken) x.outcome
    else outcome_in xs taken channel

abbrev pub counts_in : List Counting → List ℕ → Bool
counts_in [] channel = false
counts_in (x ∷ xs) channel = if bytes_eq x.channel channel then true else counts_in xs channel

-- the channels that can end with two outcomes
abbrev pub varying : List Counting → List (List ℕ)
varying [] = []
varying (x ∷ xs) = if is_some x.proposal then x.channel ∷ varying xs else varying xs

-- Of one asset and under one choice: what each channel holds, its items, whether it counts, and the list of its
-- guarantee.
pub record Books : Type 0 where
  pub held : List ℕ → ℕ
  pub items : List ℕ → List Item
  pub counts : List ℕ → Bool
  pub list : List ℕ → List Dest
  -- whether what a channel pays to a destination still counts: always, but where an exit's call for it was entered
  pub owed : List ℕ → Dest → Bool

abbrev pub books_under : (held : List ℕ → ℕ) → List Counting → (asset : ℕ) → (taken : List (List ℕ)) → Books
books_under held counting asset taken = record {
  held = held;
  items = λ channel. items_in asset (outcome_in counting taken channel);
  counts = counts_in counting;
  list = λ channel. list_in asset (outcome_in counting taken channel);
  owed = λ channel to. true;
}
