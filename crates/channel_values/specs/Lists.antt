-- Lists after their counts.
use Rattle.std.specs.Prelude.{ℕ, List, [], Result}
use Rattle.std.specs.Int.{w32}
use Rattle.channel_values.specs.declared.fault.ByteFault.{ByteFault}
use Rattle.channel_values.specs.Reading.{◌>>=◌, number_at, count_at, many_at}

-- after a count of one byte, which is at most a limit
abbrev pub short_list_at : {X : Type 0} → (limit : ℕ) → (List X → List ℕ → Result (X × List ℕ) ByteFault) → ℕ → List ℕ → Result (List X × List ℕ) ByteFault
short_list_at limit one whole bytes = do
  count ← count_at whole limit bytes
  many_at one [] count.0 count.1

-- after a count of four bytes
abbrev pub long_list_at : {X : Type 0} → (List X → List ℕ → Result (X × List ℕ) ByteFault) → ℕ → List ℕ → Result (List X × List ℕ) ByteFault
long_list_at one whole bytes = do
  count ← number_at whole w32 bytes
  many_at one [] count.0 count.1
