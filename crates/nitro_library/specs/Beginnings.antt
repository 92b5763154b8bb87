-- Why nothing begins over a file.
use Rattle.std.specs.Prelude.{◌≡◌, ◌<◌, ◌+◌, ◌-◌, ℕ, Bool, false, List, length, unwrap_or}
use Rattle.lasting_lines.specs.Batches.{batched}
use Rattle.lasting_lines.specs.Endings.{FullIn, ForeignIn}
use Rattle.lasting_lines.specs.Lines.{recovered}
use Rattle.lasting_lines.specs.Machines.{Ways}
use Rattle.lasting_lines.specs.Opening.{IsFound}
use Rattle.lasting_lines.specs.Serving.{state}
use Rattle.lasting_lines.specs.declared.played.Played.{Played}
use Rattle.lasting_lines.specs.declared.recovery.Found.TheVariants as found
use Rattle.nitro_library.specs.Asked.{after_of, left_out}
use Rattle.nitro_library.specs.Files.{records_in}
use Rattle.nitro_library.specs.Heads.{is_ours, head_in}
use Rattle.nitro_library.specs.declared.opened.OpenedFile.{OpenedFile}
use Rattle.nitro_library.specs.declared.status.Failure.{Failure}
use Rattle.nitro_library.specs.declared.status.Failure.TheVariants.{OutOfMemory, Key, File, Damaged, Foreign, Behind, Entries, Room, Torn}

-- the file isn't the caller's, or memory ran out
abbrev pub IsForeign : List ℕ → OpenedFile → List ℕ → Failure → Type 0
IsForeign title file bytes OutOfMemory = Unit {0}
IsForeign title file bytes Foreign = is_ours title file bytes ≡ false
IsForeign title file bytes failure = ⊥

-- how many bytes stand before the records
abbrev pub head_length : List ℕ → ℕ
head_length bytes = length bytes - length (records_in bytes)

-- A title, what the caller says of the file, its bytes, and the room for what it has to begin with.
module _ {M : Type 0} (ways : Ways M) (ForeignLine : M → List ℕ → Type 0) (p : Played M) (title : List ℕ) (file : OpenedFile) (bytes : List ℕ) (room : ℕ) where
  -- Why nothing begins, if the key is one or isn't. Torn: the records end after so many bytes of the file. `File`: it has a row
  -- more than there are numbers for records. `Entries`: after some records one follows that has a foreign line.
  abbrev pub IsWhy : Bool → Failure → Type 0
  IsWhy is_key OutOfMemory = Unit {0}
  IsWhy is_key File = FullIn ways p (records_in bytes)
  IsWhy is_key Entries = ForeignIn ways ForeignLine p (records_in bytes)
  IsWhy is_key Key = is_key ≡ false
  IsWhy is_key Foreign = is_ours title file bytes ≡ false
  IsWhy is_key Room = room < length (head_in title file bytes)
  IsWhy is_key (Torn kept) =
      (records : ℕ) × IsFound (batched ways) p (records_in bytes) (left_out file) (found.Torn records)
      × (kept ≡ head_length bytes + records)
  IsWhy is_key Damaged = IsFound (batched ways) p (records_in bytes) (left_out file) found.Damaged
  IsWhy is_key Behind = (state (batched ways) p (recovered (batched ways) p (records_in bytes))).count < unwrap_or (after_of file) 0
  IsWhy is_key failure = ⊥
