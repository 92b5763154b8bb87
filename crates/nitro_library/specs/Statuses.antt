-- How calls end, and the numbers for it.
use Rattle.std.specs.Prelude.{◌≡◌, ℕ, ◌+◌, Bool, true, false, not, ◌||◌, nat_lt, List, length, Option, Some, None, Result, Ok, Err}
use Rattle.channel_values.specs.Words.{fault_if, ◌⊳◌}
use Rattle.lasting_lines.specs.declared.outside.Fault.{Fault}
use Rattle.lasting_lines.specs.declared.outside.Fault.TheVariants as faults
use Rattle.nitro_library.specs.Endings.{is_part}
use Rattle.nitro_library.specs.declared.cores.Core.{Core}
use Rattle.nitro_library.specs.declared.status.Failure.{Failure}
use Rattle.nitro_library.specs.declared.status.Failure.TheVariants.{OutOfMemory, Key, Line, File, Damaged, Foreign, Behind, Entries, Room, Kept, Ended, Torn}

-- ---- the numbers

abbrev pub code_of : Failure → ℕ
code_of OutOfMemory = 1
code_of Key = 3
code_of Line = 4
code_of File = 5
code_of Damaged = 9
code_of Foreign = 10
code_of Behind = 11
code_of Entries = 12
code_of Room = 13
code_of Kept = 14
code_of Ended = 15
code_of (Torn kept) = 20

abbrev pub status_of : Result (Unit {0}) Failure → ℕ
status_of (Ok done) = 0
status_of (Err failure) = code_of failure

-- of a call that ends with the fault, or is done
abbrev pub status_by : Option Failure → ℕ
status_by None = 0
status_by (Some fault) = code_of fault

-- after how many bytes the file is to be cut, or 0
abbrev pub cut_after : Failure → ℕ
cut_after (Torn kept) = kept
cut_after failure = 0

-- a status and a count for a failure that is so
pub record IsStopped (is_why : Failure → Type 0) (status count : ℕ) : Type 0 where
  pub failure : Failure
  pub why : is_why failure
  pub number : status ≡ code_of failure
  pub cut : count ≡ cut_after failure

-- ---- calls that end at once

-- bytes don't fit into so much room
abbrev pub room_fault : List ℕ → ℕ → Option Failure
room_fault bytes room = fault_if (nat_lt room (length bytes)) Room

-- Why a line isn't looked at: the first that holds. An earlier call failed, an answer is kept, the line is too long or has a
-- byte that separates lines, or there is too little room for its row.
abbrev pub line_fault : {M : Type 0} → Core M → List ℕ → ℕ → Option Failure
line_fault core line room =
    fault_if core.is_over Ended
    ⊳ fault_if (nat_lt 0 (length core.kept.items)) Kept
    ⊳ fault_if (nat_lt 1048576 (length line) || not (is_part line)) Line
    ⊳ fault_if (nat_lt room (length line + 128)) Room

-- ---- calls that end later

-- Why a line that was looked at fails: out of memory, no number left for its record, or of another story.
abbrev pub IsLate : (IsForeign IsFull : Type 0) → Failure → Type 0
IsLate IsForeign IsFull OutOfMemory = Unit {0}
IsLate IsForeign IsFull File = IsFull
IsLate IsForeign IsFull Entries = IsForeign
IsLate IsForeign IsFull failure = ⊥

-- by what stopped the machine
abbrev pub late_of : Fault → Failure
late_of faults.NoMemory = OutOfMemory
late_of faults.Foreign = Entries
late_of faults.Full = File
late_of faults.Input = File
late_of faults.Failed = File

-- How a call ends: with the fault, where there is one. Else it is done where none of the reasons to fail later holds, or it
-- fails for one that does.
abbrev pub EndsBy : Option Failure → (IsForeign IsFull : Type 0) → Result (Unit {0}) Failure → Type 0
EndsBy (Some fault) IsForeign IsFull outcome = outcome ≡ Err fault
EndsBy None IsForeign IsFull (Ok done) = (IsForeign → ⊥) × (IsFull → ⊥)
EndsBy None IsForeign IsFull (Err failure) = IsLate IsForeign IsFull failure

-- a status of such an end
abbrev pub HasStatus : Option Failure → (IsForeign IsFull : Type 0) → ℕ → Type 0
HasStatus fault IsForeign IsFull status =
    (outcome : Result (Unit {0}) Failure) × EndsBy fault IsForeign IsFull outcome × (status ≡ status_of outcome)
