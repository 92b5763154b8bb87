-- How a showing ends: bytes are read as a record, and its text is written, whether the record is sound or not.
use Rattle.std.specs.Prelude.{◌≡◌, ◌≢◌, ◌≤◌, ◌<◌, ◌⊎◌, ℕ, List, [], ◌∷◌, length, Bool, true, false, Option, Some, Ok, Err, codes}
use Rattle.std.specs.Str.{bytes_eq}
use Rattle.std.specs.Io.KnownBytes.{Keeps, Appends}
use Rattle.byte_streams.specs.OutsideSink.{AppendsPart}
use Rattle.byte_streams.specs.OutsideSource.{Rose}
use Rattle.report_lines.specs.Text.{ended}
use Rattle.run_record.specs.Reading.{record_of}
use Rattle.run_record.specs.declared.run_record.Record.{Record}
use Rattle.record_checker.specs.Answering.{Given, IsReadTo, Takes}
use Rattle.record_checker.specs.Lines.{fault_line}
use Rattle.record_checker.specs.Running.{Sunk}
use Rattle.record_checker.specs.declared.status.Status.{Status}
use Rattle.record_checker.specs.declared.status.Status.TheVariants.{Done, NoMemory, Usage, Unspelled, Unsound, ReadFault, WriteFault, TooLong}
use Rattle.record_checker.specs.Shown.{record_text}

-- whether the words are the one word `show`
abbrev pub asks : List (List ℕ) → Bool
asks (word ∷ []) = bytes_eq word (codes "show")
asks _ = false

-- What the bytes of a record come to, and the text of it.
abbrev pub Comes : List ℕ → Status → List ℕ → Type 0
Comes bytes Done text = (r : Record) × (record_of bytes ≡ Ok r) × (text ≡ record_text r)
Comes bytes (Unspelled fault) text = (record_of bytes ≡ Err fault) × (text ≡ fault_line fault)
-- nothing else
Comes bytes NoMemory text = ⊥
Comes bytes Usage text = ⊥
Comes bytes (Unsound verdict) text = ⊥
Comes bytes ReadFault text = ⊥
Comes bytes WriteFault text = ⊥
Comes bytes TooLong text = ⊥

-- the words are the one word, and bytes were read that come to this
abbrev pub IsAnswered : Given → Status → List ℕ → Type 0
IsAnswered g status text = (asks g.words ≡ true) × (bytes : List ℕ) × IsReadTo g bytes × Comes bytes status text

-- Why a showing comes to each end, and the text that it owes.
abbrev pub EndsAs : Given → Status → List ℕ → Type 0
EndsAs g Done text = IsAnswered g Done text
EndsAs g (Unspelled fault) text = IsAnswered g (Unspelled fault) text
EndsAs g Usage text =
    (asks g.words ≡ false) × Keeps g.before g.after × (g.faults_after ≡ g.faults_before)
    × (text ≡ ended (codes "usage"))
EndsAs g ReadFault text =
    (asks g.words ≡ true) × Takes g (λ bytes. length bytes ≤ 4194304) × Rose g.faults_before g.faults_after
    × (text ≡ ended (codes "read fault"))
EndsAs g TooLong text =
    (asks g.words ≡ true) × Takes g (λ bytes. 4194304 < length bytes) × (text ≡ ended (codes "too long"))
-- no other end
EndsAs g NoMemory text = ⊥
EndsAs g (Unsound verdict) text = ⊥
EndsAs g WriteFault text = ⊥

-- the words are the one word, and the source has these bytes, which are short enough, and doesn't fail
pub record Tells (bytes : List ℕ) (g : Given) : Type 0 where
  pub asks_it : asks g.words ≡ true
  pub told : g.before ≡ Some bytes
  pub short : length bytes ≤ 4194304
  pub faultless : ¬ (Rose g.faults_before g.faults_after)

-- how a showing ended is right, by what it was handed and what it wrote
pub record IsShowing (g : Given) (k : Sunk) (status : Status) : Type 0 where
  -- Every status but out of memory and a fault of the sink has its cause, and its text was written whole.
  pub ended : status ≢ NoMemory → status ≢ WriteFault
      → (text : List ℕ) × EndsAs g status text × Appends k.before k.after text
  -- At a fault of the sink a part was written of the text of another end.
  pub write_fault : status ≡ WriteFault → Rose k.faults_before k.faults_after
      × ((other : Status) × (text : List ℕ) × EndsAs g other text × AppendsPart k.before k.after text)
  -- Out of memory nothing was written.
  pub no_memory : status ≡ NoMemory → Keeps k.before k.after
  -- A showing ends as what its bytes come to, unless memory runs out, where neither source nor sink fails.
  pub complete : (bytes text : List ℕ) (other : Status) → Tells bytes g → Comes bytes other text
      → ¬ (Rose k.faults_before k.faults_after) → (status ≡ other) ⊎ (status ≡ NoMemory)
