-- A machine that takes lines, and what it owes for those in its file.
use Rattle.std.specs.Prelude.{◌≡◌, ℕ, List, [], ◌∷◌, ◌++◌}
use Rattle.lasting_lines.specs.Files.{Op, Appended, Synced, Written, Disk, disk, MayLeave, written}
use Rattle.lasting_lines.specs.Machines.{Ways}
use Rattle.lasting_lines.specs.Lines.{after, response, row_of, records, recovered, AreTaken}
use Rattle.lasting_lines.specs.declared.played.Played.{Played}

-- a text is a prefix of another
abbrev pub IsPrefix : List ℕ → List ℕ → Type 0
IsPrefix text whole = (rest : List ℕ) × (text ++ rest ≡ whole)

module _ {M : Type 0} (ways : Ways M) where
  -- after these lines
  abbrev pub state : Played M → List (List ℕ) → Played M
  state p [] = p
  state p (line ∷ lines) = state (after ways p line) lines

  -- the responses to them
  abbrev pub owed : Played M → List (List ℕ) → List ℕ
  owed p [] = []
  owed p (line ∷ lines) = response ways p line ++ owed (after ways p line) lines

  -- whatever a crash leaves at this moment, what was written is a prefix of what is owed for the lines in it
  abbrev pub Now : Played M → Disk → List ℕ → Type 0
  Now p d text = (c : List ℕ) → MayLeave d c → IsPrefix text (owed p (recovered ways p c))

  -- so at each moment
  abbrev pub Always : Played M → List ℕ → List ℕ → List Op → Type 0
  Always p before start [] = Now p (disk start []) (written before [])
  Always p before start (op ∷ ops) =
      Now p (disk start (op ∷ ops)) (written before (op ∷ ops)) × Always p before start ops

  -- Between two lines all is on the disk, all is answered, and the machine is where its file leaves it.
  pub record Ready (p : Played M) (before : List ℕ) (start : List ℕ) (ops : List Op) (now : Played M) : Type 0 where
    pub lines : List (List ℕ)
    pub each : AreTaken ways p lines
    pub file : (disk start ops).safe ≡ records ways p lines
    pub loose : (disk start ops).loose ≡ []
    pub text : written before ops ≡ owed p lines
    pub place : now ≡ state p lines
    pub moments : Always p before start ops

  -- where a run was ready, it is explained at each moment up to the new one
  abbrev pub Explains : List Op → Played M → List Op → Type 0
  Explains ops now ops' =
      (p : Played M) (before start : List ℕ) → Ready p before start ops now → Always p before start ops'

  -- and is ready again
  abbrev pub KeepsReady : List Op → Played M → List Op → Played M → Type 0
  KeepsReady ops now ops' now' =
      (p : Played M) (before start : List ℕ) → Ready p before start ops now → Ready p before start ops' now'

  -- What a line gives that is taken by itself: a row for the file, with its line feed, and the response. Where the row is
  -- appended and synced, and then the response is written, the next line can come; so at each moment all is explained.
  pub record IsAlone (old : Played M) (line row text : List ℕ) (now : Played M) : Type 0 where
    pub row_is : row ≡ row_of ways old line ++ 10 ∷ []
    pub text_is : text ≡ response ways old line
    pub place : now ≡ after ways old line
    pub ready : (ops : List Op) → KeepsReady ops old (Written text ∷ Synced ∷ Appended row ∷ ops) now
