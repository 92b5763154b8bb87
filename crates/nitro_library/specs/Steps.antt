-- What a step does.
use Rattle.std.specs.Prelude.{◌≡◌, ℕ, true, false, List, [], Option, Some, None}
use Rattle.lasting_lines.specs.Batches.{batched}
use Rattle.lasting_lines.specs.Machines.{Ways}
use Rattle.lasting_lines.specs.Serving.{IsAlone}
use Rattle.lasting_lines.specs.declared.played.Played.{Played}

module _ {M : Type 0} (ways : Ways M) (says : M → List ℕ → List ℕ → Type 0) where
  -- What is given for a line. Of one that is taken: its row, and its response. Where the row is on the disk before the response
  -- is shown, each moment is explained. Of any other line there is no row, and the text says why it isn't taken.
  pub record IsAnswer (old : Played M) (line row text : List ℕ) (now : Played M) : Type 0 where
    pub taken : ways.takes old.machine line ≡ true → IsAlone (batched ways) old line row text now
    pub none : ways.takes old.machine line ≡ false → row ≡ []
    pub message : ways.takes old.machine line ≡ false → says old.machine line text
    pub same : ways.takes old.machine line ≡ false → now ≡ old

-- if both are there, this is between them
abbrev pub Between : {A : Type 0} → (A → A → Type 0) → Option A → Option A → Type 0
Between R None y = Unit {0}
Between R (Some x) None = true ≡ false
Between R (Some x) (Some y) = R x y
