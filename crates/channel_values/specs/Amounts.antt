-- What items are worth to a destination, and what is due of an item.
use Rattle.std.specs.Prelude.{ℕ, zero, suc, ◌+◌, ◌-◌, min, Bool, false, ◌||◌, List, [], ◌∷◌, if◌then◌else◌}
use Rattle.channel_values.specs.declared.value.Dest.{Dest}
use Rattle.channel_values.specs.declared.value.Item.{Item}
use Rattle.channel_values.specs.Outcomes.{is_same}

-- the amount of d's item, or 0
abbrev pub amt : List Item → Dest → ℕ
amt [] d = 0
amt (x ∷ xs) d = if is_same x.to d then x.amount else amt xs d

-- whether d has an item, be it lowered to 0
abbrev pub has : List Item → Dest → Bool
has [] d = false
has (x ∷ xs) d = is_same x.to d || has xs d

-- the least of the amount of d's item and what the reach r leaves above the items before it
abbrev pub aff : List Item → ℕ → Dest → ℕ
aff [] r d = 0
aff (x ∷ xs) r d = if is_same x.to d then min x.amount r else aff xs (r - x.amount) d

-- the sum of the first n
abbrev pub before : (ℕ → ℕ) → ℕ → ℕ
before rest zero = 0
before rest (suc n) = before rest n + rest n

-- the least of one rest, and what a balance leaves above the rests before it
abbrev pub due : (ℕ → ℕ) → ℕ → ℕ → ℕ
due rest index balance = min (rest index) (balance - before rest index)
