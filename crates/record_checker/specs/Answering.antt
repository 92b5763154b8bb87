-- How a program that answers a record ends, by its words and its source.
use Rattle.std.specs.Prelude.{◌≡◌, ◌≢◌, ◌≤◌, ◌<◌, ℕ, List, [], ◌∷◌, length, Bool, true, false, Option, Some, Ok, Err, codes}
use Rattle.std.specs.Str.{bytes_eq}
use Rattle.std.specs.Io.KnownBytes.{Keeps, Consumes, IsAtEnd}
use Rattle.byte_streams.specs.OutsideSource.{Rose}
use Rattle.report_lines.specs.Text.{ended}
use Rattle.run_record.specs.Reading.{record_of}
use Rattle.run_record.specs.declared.run_record.Record.{Record}
use Rattle.run_record.specs.Sound.{IsSound}
use Rattle.record_checker.specs.Faults.{Says}
use Rattle.record_checker.specs.declared.checking.Verdict.TheVariants as verdicts
use Rattle.record_checker.specs.Lines.{fault_line, verdict_line}
use Rattle.record_checker.specs.declared.status.Status.{Status}
use Rattle.record_checker.specs.declared.status.Status.TheVariants.{Done, NoMemory, Usage, Unspelled, Unsound, ReadFault, WriteFault, TooLong}

-- what is asked of a program: its one word, and the text with which it answers a sound record
pub record Asked : Type 0 where
  pub word : List ℕ
  pub text : Record → List ℕ

-- the words and the source that a run was handed: what was left of it and its count of faults, before and after
pub record Given : Type 0 where
  pub words : List (List ℕ)
  pub before : Option (List ℕ)
  pub after : Option (List ℕ)
  pub faults_before : ℕ
  pub faults_after : ℕ

abbrev pub given : {S : Type 0} → (S → Option (List ℕ)) → (S → ℕ) → List (List ℕ) → S → S → Given
given left faults words old new =
    record {
      words = words;
      before = left old;
      after = left new;
      faults_before = faults old;
      faults_after = faults new;
    }

-- the number of a status
abbrev pub code_of : Status → ℕ
code_of Done = 0
code_of NoMemory = 1
code_of Usage = 2
code_of (Unspelled fault) = 3
code_of (Unsound verdict) = 3
code_of ReadFault = 4
code_of WriteFault = 5
code_of TooLong = 6

-- whether the words are the one word
abbrev pub asks : Asked → List (List ℕ) → Bool
asks a (word ∷ []) = bytes_eq word a.word
asks a _ = false

-- ---- records

-- What is said of a record, and the text of it.
abbrev pub IsFound : Asked → Record → Status → List ℕ → Type 0
IsFound a r Done text = IsSound r × (text ≡ a.text r)
IsFound a r (Unsound verdict) text = Says verdict r × (verdict ≢ verdicts.Sound) × (text ≡ verdict_line verdict)
-- nothing else
IsFound a r NoMemory text = ⊥
IsFound a r Usage text = ⊥
IsFound a r (Unspelled fault) text = ⊥
IsFound a r ReadFault text = ⊥
IsFound a r WriteFault text = ⊥
IsFound a r TooLong text = ⊥

-- the bytes spell a record of which this is said
abbrev pub Spells : Asked → List ℕ → Status → List ℕ → Type 0
Spells a bytes status text = (r : Record) × (record_of bytes ≡ Ok r) × IsFound a r status text

-- What the bytes of a record come to, and the text of it.
abbrev pub Comes : Asked → List ℕ → Status → List ℕ → Type 0
Comes a bytes Done text = Spells a bytes Done text
Comes a bytes (Unspelled fault) text = (record_of bytes ≡ Err fault) × (text ≡ fault_line fault)
Comes a bytes (Unsound verdict) text = Spells a bytes (Unsound verdict) text
-- nothing else
Comes a bytes NoMemory text = ⊥
Comes a bytes Usage text = ⊥
Comes a bytes ReadFault text = ⊥
Comes a bytes WriteFault text = ⊥
Comes a bytes TooLong text = ⊥

-- ---- ends

-- some bytes were taken
abbrev pub Takes : Given → (List ℕ → Type 0) → Type 0
Takes g P = (bytes : List ℕ) × Consumes g.before g.after bytes × P bytes

-- these bytes were taken to the end of the source, within the limit
pub record IsReadTo (g : Given) (bytes : List ℕ) : Type 0 where
  pub taken : Consumes g.before g.after bytes
  pub whole : IsAtEnd g.after
  pub short : length bytes ≤ 4194304

-- the words are the one word, and bytes were read that come to this
abbrev pub IsAnswered : Asked → Given → Status → List ℕ → Type 0
IsAnswered a g status text =
    (asks a g.words ≡ true) × (bytes : List ℕ) × IsReadTo g bytes × Comes a bytes status text

-- Why a run comes to each end, and the text that it owes.
abbrev pub EndsAs : Asked → Given → Status → List ℕ → Type 0
EndsAs a g Done text = IsAnswered a g Done text
EndsAs a g (Unspelled fault) text = IsAnswered a g (Unspelled fault) text
EndsAs a g (Unsound verdict) text = IsAnswered a g (Unsound verdict) text
EndsAs a g Usage text =
    (asks a g.words ≡ false) × Keeps g.before g.after × (g.faults_after ≡ g.faults_before)
    × (text ≡ ended (codes "usage"))
EndsAs a g ReadFault text =
    (asks a g.words ≡ true) × Takes g (λ bytes. length bytes ≤ 4194304) × Rose g.faults_before g.faults_after
    × (text ≡ ended (codes "read fault"))
EndsAs a g TooLong text =
    (asks a g.words ≡ true) × Takes g (λ bytes. 4194304 < length bytes) × (text ≡ ended (codes "too long"))
-- no other end
EndsAs a g NoMemory text = ⊥
EndsAs a g WriteFault text = ⊥

-- the words are the one word, and the source gives these bytes, which are short enough, and doesn't fail
pub record Tells (a : Asked) (bytes : List ℕ) (g : Given) : Type 0 where
  pub asks_it : asks a g.words ≡ true
  pub told : g.before ≡ Some bytes
  pub short : length bytes ≤ 4194304
  pub faultless : ¬ (Rose g.faults_before g.faults_after)
