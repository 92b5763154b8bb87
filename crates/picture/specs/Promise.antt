-- What `draw` promises, in one record, for a caller that hands it on.
use Rattle.std.specs.Prelude.{◌≡◌, ℕ, List, Option, true}
use Rattle.std.specs.Io.KnownBytes.{Keeps, Appends}
use Rattle.byte_streams.specs.OutsideSink.{AppendsPart}
use Rattle.byte_streams.specs.OutsideSource.{Rose}
use Rattle.picture.specs.Drawing.{SourceChange, EndsAs, puts_nothing}
use Rattle.picture.specs.declared.drawing.Status.{Status}
use Rattle.picture.specs.declared.drawing.Status.TheVariants.{Done, WriteFault}

-- the sink that a drawing was handed: what it held and its count of faults, before and after
pub record Sunk : Type 0 where
  pub before : Option (List ℕ)
  pub after : Option (List ℕ)
  pub faults_before : ℕ
  pub faults_after : ℕ

-- how a drawing ended is right, by what it was handed and what it wrote
pub record IsDrawing (words : List (List ℕ)) (source : SourceChange) (k : Sunk) (status : Status) : Type 0 where
  pub ends : EndsAs words source status
  pub done : status ≡ Done → (svg : List ℕ) × Appends k.before k.after svg
  pub write_fault : status ≡ WriteFault → Rose k.faults_before k.faults_after
      × ((svg : List ℕ) × AppendsPart k.before k.after svg)
  pub nothing : puts_nothing status ≡ true → Keeps k.before k.after
