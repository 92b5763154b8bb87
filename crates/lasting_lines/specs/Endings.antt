-- How the call for a line ends, and why playing a file fails.
use Rattle.std.specs.Prelude.{◌≡◌, ℕ, ◌-◌, ◌^◌, true, List, [], ◌∷◌, ◌++◌, ⊤, Result, Ok, Err}
use Rattle.lasting_lines.specs.Batches.{parts, takes_all, next_all, batched}
use Rattle.lasting_lines.specs.Lines.{records, line_in, AreTaken}
use Rattle.lasting_lines.specs.Machines.{Ways}
use Rattle.lasting_lines.specs.Serving.{state}
use Rattle.lasting_lines.specs.declared.outside.Fault.{Fault}
use Rattle.lasting_lines.specs.declared.outside.Fault.TheVariants as faults
use Rattle.lasting_lines.specs.declared.played.Played.{Played}

-- It fails because the line is of another story, or no number is left for its record, or memory ran out.
abbrev pub FailsBy : (Foreign Full : Type 0) → Fault → Type 0
FailsBy Foreign Full faults.NoMemory = ⊤
FailsBy Foreign Full faults.Foreign = Foreign
FailsBy Foreign Full faults.Full = Full
FailsBy Foreign Full faults.Input = ⊥
FailsBy Foreign Full faults.Failed = ⊥

-- It is done where neither holds.
abbrev pub EndsBy : {A : Type 0} → (Foreign Full : Type 0) → Result A Fault → Type 0
EndsBy Foreign Full (Ok value) = (Foreign → ⊥) × (Full → ⊥)
EndsBy Foreign Full (Err fault) = FailsBy Foreign Full fault

-- the numbers of records, of 64 bits, are used up
abbrev pub IsFull : {M : Type 0} → Played M → Type 0
IsFull p = p.count ≡ 2 ^ 64 - 1

module _ {M : Type 0} (ways : Ways M) where
  -- so of a line that is taken, the only one that needs a record
  abbrev pub IsForeignLine : (M → List ℕ → Type 0) → Played M → List ℕ → Type 0
  IsForeignLine Foreign p line = (ways.takes p.machine line ≡ true) × Foreign p.machine line

  abbrev pub HasNoNumber : Played M → List ℕ → Type 0
  HasNoNumber p line = (ways.takes p.machine line ≡ true) × IsFull p

-- ---- of a file

module _ {M : Type 0} (ways : Ways M) where
  -- records begin a file; after them the machine is here, and a row follows
  pub record Follows (p : Played M) (file : List ℕ) (now : Played M) (row : List ℕ) : Type 0 where
    pub lines : List (List ℕ)
    pub each : AreTaken (batched ways) p lines
    pub more : List ℕ
    pub bytes : file ≡ records (batched ways) p lines ++ (row ++ 10 ∷ more)
    pub place : now ≡ state (batched ways) p lines

  -- a row follows, but no number is left for it
  abbrev pub FullIn : Played M → List ℕ → Type 0
  FullIn p file = (now : Played M) × (row : List ℕ) × Follows p file now row × IsFull now

  module _ (Foreign : M → List ℕ → Type 0) where
    -- one of these lines is of another story, and is taken as those before it are
    pub record HasForeign (m : M) (lines : List (List ℕ)) : Type 0 where
      pub before : List (List ℕ)
      pub line : List ℕ
      pub rest : List (List ℕ)
      pub is : lines ≡ before ++ line ∷ rest
      pub taken : takes_all ways m (before ++ line ∷ []) ≡ true
      pub foreign : Foreign (next_all ways m before) line

    -- so in the row that follows
    abbrev pub ForeignIn : Played M → List ℕ → Type 0
    ForeignIn p file =
        (now : Played M) × (row : List ℕ) × Follows p file now row
        × HasForeign now.machine (parts (line_in (batched ways) now row))
