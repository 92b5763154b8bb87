-- The runs of one file, the newest first.
use Rattle.std.specs.Prelude.{◌≡◌, ℕ, List, [], ◌∷◌}
use Rattle.std.specs.List.{AllByRecursion}
use Rattle.lasting_lines.specs.Files.{Op, disk, MayLeave, written}
use Rattle.lasting_lines.specs.Machines.{Ways}
use Rattle.lasting_lines.specs.Lines.{recovered, records}
use Rattle.lasting_lines.specs.Serving.{owed, IsPrefix, Always}
use Rattle.lasting_lines.specs.declared.played.Played.{Played}

-- What the file held when it began, the responses that it doesn't write again, and its calls, the newest first.
pub record Run : Type 0 where
  pub start : List ℕ
  pub before : List ℕ
  pub ops : List Op

-- what a crash of the newest run leaves; before the first there was nothing
abbrev pub IsLeft : List ℕ → List Run → Type 0
IsLeft c [] = c ≡ []
IsLeft c (run ∷ runs) = MayLeave (disk run.start run.ops) c

module _ {M : Type 0} (ways : Ways M) (p : Played M) where
  -- a file begins with the records of the lines that a crash left
  abbrev pub BeginsWith : List ℕ → List Run → Type 0
  BeginsWith start runs = (c : List ℕ) × IsLeft c runs × (start ≡ records ways p (recovered ways p c))

  -- each run is explained at each moment
  abbrev pub AreLives : List Run → Type 0
  AreLives [] = Unit {0}
  AreLives (run ∷ runs) = Always ways p run.before run.start run.ops × BeginsWith run.start runs × AreLives runs

-- Over any crashes and restarts, what each run wrote, after what it didn't write again, is a prefix of what one machine
-- without crashes owes for the lines that are in the file in the end.
abbrev pub OneStory : {M : Type 0} → Ways M → Type 0
OneStory {M} ways =
    (p : Played M) (runs : List Run) (c : List ℕ) → AreLives ways p runs → IsLeft c runs
    → AllByRecursion (λ run. IsPrefix (written run.before run.ops) (owed ways p (recovered ways p c))) runs
