-- The records of a state file, and a core that begins over them.
use Rattle.std.specs.Prelude.{◌≡◌, ◌==◌, ℕ, List, [], ◌∷◌, ◌++◌, if◌then◌else◌, false}
use Rattle.lasting_lines.specs.Files.{Written, Aside}
use Rattle.lasting_lines.specs.Lines.{recovered}
use Rattle.lasting_lines.specs.Machines.{Ways}
use Rattle.lasting_lines.specs.Opening.{owed_to, owed_above}
use Rattle.lasting_lines.specs.Serving.{Ready}
use Rattle.lasting_lines.specs.declared.played.Played.{Played}
use Rattle.nitro_library.specs.declared.cores.Core.{Core}

-- what follows the first line, nothing where no line ends
abbrev pub records_in : List ℕ → List ℕ
records_in [] = []
records_in (b ∷ rest) = if b == 10 then rest else records_in rest

module _ {M : Type 0} (ways : Ways M) where
  -- A core began over the records of a file. It keeps the responses to records above n, and the line `ready`. Once they were
  -- given the first line can come. No call has failed.
  pub record Begins (ready : Played M → List ℕ) (p : Played M) (n : ℕ) (file : List ℕ) (core : Core M) : Type 0 where
    pub keeps : core.kept.items ≡ owed_above ways n p (recovered ways p file) ++ ready core.played
    pub stands :
        Ready ways p (owed_to ways n p (recovered ways p file)) file
        (Aside (ready core.played) ∷ Written (owed_above ways n p (recovered ways p file)) ∷ []) core.played
    pub goes_on : core.is_over ≡ false
