-- What a run of such a program is.
use Rattle.std.specs.Prelude.{◌≡◌, ◌≢◌, ◌⊎◌, ℕ, List, Option}
use Rattle.std.specs.Io.KnownBytes.{Keeps, Appends}
use Rattle.byte_streams.specs.OutsideSink.{AppendsPart}
use Rattle.byte_streams.specs.OutsideSource.{Rose}
use Rattle.record_checker.specs.Answering.{Asked, Given, Comes, EndsAs, Tells}
use Rattle.record_checker.specs.declared.status.Status.{Status}
use Rattle.record_checker.specs.declared.status.Status.TheVariants.{NoMemory, WriteFault}

-- the sink that a run was handed: what it held and its count of faults, before and after
pub record Sunk : Type 0 where
  pub before : Option (List ℕ)
  pub after : Option (List ℕ)
  pub faults_before : ℕ
  pub faults_after : ℕ

abbrev pub sunk : {K : Type 0} → (K → Option (List ℕ)) → (K → ℕ) → K → K → Sunk
sunk held faults old new =
    record {
      before = held old;
      after = held new;
      faults_before = faults old;
      faults_after = faults new;
    }

-- how it ended is right, by what it was handed and what it wrote
pub record IsRun (a : Asked) (g : Given) (k : Sunk) (status : Status) : Type 0 where
  -- Every status but out of memory and a fault of the sink has its cause, and its text was written whole.
  pub ended : status ≢ NoMemory → status ≢ WriteFault
      → (text : List ℕ) × EndsAs a g status text × Appends k.before k.after text
  -- At a fault of the sink a part was written of the text of another end.
  pub write_fault : status ≡ WriteFault → Rose k.faults_before k.faults_after
      × ((other : Status) × (text : List ℕ) × EndsAs a g other text × AppendsPart k.before k.after text)
  -- Out of memory nothing was written.
  pub no_memory : status ≡ NoMemory → Keeps k.before k.after
  -- A run ends as what its bytes come to, unless memory runs out, where neither source nor sink fails.
  pub complete : (bytes text : List ℕ) (other : Status) → Tells a bytes g → Comes a bytes other text
      → ¬ (Rose k.faults_before k.faults_after) → (status ≡ other) ⊎ (status ≡ NoMemory)
