-- What the tiny machine does.
use Rattle.std.specs.Prelude.{◌≡◌, ℕ, ◌+◌, ◌-◌, ◌^◌, List, [], ◌∷◌, ◌++◌, nat_lt, length, min, decimal, codes}
use Rattle.lasting_lines.specs.Machines.{Ways}
use Rattle.lasting_tests.specs.declared.tally.Tally.{Tally}

abbrev pub tally_next : Tally → List ℕ → Tally
tally_next t line = record { total = min (t.total + length line) (2 ^ 64 - 1) }

abbrev pub tally_ways : Ways Tally
tally_ways = record {
  takes = λ _ line. nat_lt 0 (length line);
  next = tally_next;
  owes = λ t line. decimal (min (t.total + length line) (2 ^ 64 - 1)) ++ 10 ∷ [];
}

-- what it says of an empty line
abbrev pub Says : Tally → List ℕ → List ℕ → Type 0
Says t line text = text ≡ codes "no line\n"

-- the line `!`
abbrev pub Foreign : Tally → List ℕ → Type 0
Foreign t line = line ≡ codes "!"
