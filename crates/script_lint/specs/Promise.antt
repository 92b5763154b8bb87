-- What `run_lint` promises, in one record, for a caller that hands it on.
use Rattle.std.specs.Prelude.{◌≡◌, ◌≢◌, ℕ, List, Option}
use Rattle.std.specs.Io.KnownBytes.{Keeps, Appends}
use Rattle.byte_streams.specs.OutsideSink.{AppendsPart}
use Rattle.byte_streams.specs.OutsideSource.{Rose}
use Rattle.script_lint.specs.Linting.{Given, EndsAs}
use Rattle.script_lint.specs.declared.lint.Status.{Status}
use Rattle.script_lint.specs.declared.lint.Status.TheVariants.{NoMemory, WriteFault}

-- the sink that a lint was handed: what it held and its count of faults, before and after
pub record Sunk : Type 0 where
  pub before : Option (List ℕ)
  pub after : Option (List ℕ)
  pub faults_before : ℕ
  pub faults_after : ℕ

-- how a lint ended is right, by what it was handed and what it wrote
pub record IsLint (g : Given) (k : Sunk) (status : Status) : Type 0 where
  pub ended : status ≢ NoMemory → status ≢ WriteFault
      → (text : List ℕ) × EndsAs g status text × Appends k.before k.after text
  pub write_fault : status ≡ WriteFault → Rose k.faults_before k.faults_after
      × ((other : Status) × (text : List ℕ) × EndsAs g other text × AppendsPart k.before k.after text)
  pub no_memory : status ≡ NoMemory → Keeps k.before k.after
