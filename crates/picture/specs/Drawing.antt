-- How a drawing ends.
use Rattle.std.specs.Prelude.{◌≡◌, ◌≤◌, ◌<◌, ◌==◌, ℕ, List, [], ◌∷◌, length, Bool, true, false, Option, IsOk, Err, codes, ⊤}
use Rattle.std.specs.Str.{bytes_eq}
use Rattle.byte_streams.specs.OutsideSource.{Rose}
use Rattle.std.specs.Io.KnownBytes.{Consumes, IsAtEnd}
use Rattle.run_text.specs.Lines.{line_feeds, IsInLines}
use Rattle.run_text.specs.declared.fault.Unread.TheVariants.{Line}
use Rattle.run_record.specs.Reading.{record_of}
use Rattle.picture.specs.declared.drawing.Undrawn.{Undrawn}
use Rattle.picture.specs.declared.drawing.Undrawn.TheVariants as undrawn
use Rattle.picture.specs.declared.drawing.Status.{Status}
use Rattle.picture.specs.declared.drawing.Status.TheVariants.{Done, NoMemory, Usage, Unread, Unspelled, ReadFault, WriteFault, TooLong}

-- the number of a status
abbrev pub code_of : Status → ℕ
code_of Done = 0
code_of NoMemory = 1
code_of Usage = 2
code_of (Unread fault) = 3
code_of (Unspelled fault) = 3
code_of ReadFault = 4
code_of WriteFault = 5
code_of TooLong = 6

-- whether the words ask for a picture
abbrev pub asks : List (List ℕ) → Bool
asks (word ∷ []) = bytes_eq word (codes "picture")
asks _ = false

-- Bytes begin as those of a record do: with four of a count, which is below 2^24 in each that is short enough to be
-- read. No text of a run begins so.
abbrev pub is_record : List ℕ → Bool
is_record [] = false
is_record (first ∷ bytes) = first == 0

-- what is drawn: of bytes that begin as those of a record, where they spell one
abbrev pub AreDrawn : List ℕ → Type 0
AreDrawn bytes = is_record bytes ≡ true → IsOk (record_of bytes)

-- why bytes aren't drawn: a fault in a line of a text or after the last, or the first fault of a record
abbrev pub HasFault : List ℕ → Undrawn → Type 0
HasFault bytes undrawn.NoMemory = ⊤
HasFault bytes (undrawn.Line fault) = (is_record bytes ≡ false) × IsInLines (line_feeds bytes) (Line fault)
HasFault bytes (undrawn.Byte fault) = (is_record bytes ≡ true) × (record_of bytes ≡ Err fault)

-- what was left of a source and its count of faults, before and after
pub record SourceChange : Type 0 where
  pub before : Option (List ℕ)
  pub after : Option (List ℕ)
  pub faults_before : ℕ
  pub faults_after : ℕ

abbrev pub told : {S : Type 0} → (S → Option (List ℕ)) → (S → ℕ) → S → S → SourceChange
told remaining faults old new = record { before = remaining old; after = remaining new; faults_before = faults old; faults_after = faults new }

-- some bytes were taken
abbrev pub Takes : SourceChange → (List ℕ → Type 0) → Type 0
Takes t P = (bytes : List ℕ) × Consumes t.before t.after bytes × P bytes

-- the source was read to its end, within the limit
abbrev pub Reads : SourceChange → (List ℕ → Type 0) → Type 0
Reads t P = (bytes : List ℕ) × Consumes t.before t.after bytes × IsAtEnd t.after × (length bytes ≤ 4194304) × P bytes

-- Why a drawing comes to each end. Of running out of memory and of a fault of the sink nothing is said.
abbrev pub EndsAs : List (List ℕ) → SourceChange → Status → Type 0
EndsAs words t Done = (asks words ≡ true) × Reads t (λ bytes. AreDrawn bytes)
EndsAs words t NoMemory = ⊤
EndsAs words t Usage = asks words ≡ false
EndsAs words t (Unread fault) = (asks words ≡ true) × Reads t (λ bytes. HasFault bytes (undrawn.Line fault))
EndsAs words t (Unspelled fault) = (asks words ≡ true) × Reads t (λ bytes. HasFault bytes (undrawn.Byte fault))
EndsAs words t ReadFault = (asks words ≡ true) × Takes t (λ bytes. length bytes ≤ 4194304) × Rose t.faults_before t.faults_after
EndsAs words t WriteFault = ⊤
EndsAs words t TooLong = (asks words ≡ true) × Takes t (λ bytes. 4194304 < length bytes)

-- the ends before which nothing was written
abbrev pub puts_nothing : Status → Bool
puts_nothing Done = false
puts_nothing WriteFault = false
puts_nothing NoMemory = true
puts_nothing Usage = true
puts_nothing (Unread fault) = true
puts_nothing (Unspelled fault) = true
puts_nothing ReadFault = true
puts_nothing TooLong = true
