-- What words ask of a route, and how it ends.
use Rattle.std.specs.Prelude.{◌≡◌, ◌+◌, ◌-◌, ◌*◌, ◌&&◌, ℕ, List, [], ◌∷◌, ◌++◌, nat_le, Option, Some, None, codes, if◌then◌else◌}
use Rattle.std.specs.Fmt.{decimal}
use Rattle.std.specs.Str.{bytes_eq}
use Rattle.hop_script.specs.Hop.{are_apart, hop_steps}
use Rattle.hop_script.specs.declared.ending.Ending.{Ending}
use Rattle.hop_script.specs.declared.ending.Ending.TheVariants.{Close, Exit}
use Rattle.network.specs.Ways.{Ways}
use Rattle.play_report.specs.Reported.{IsPlayed}
use Rattle.report_text.specs.Report.{tail_of}
use Rattle.report_text.specs.Text.{◌&◌, ended}
use Rattle.report_text.specs.declared.report.Report.{Report}
use Rattle.script_run.specs.declared.run.Status.{Status}
use Rattle.script_run.specs.declared.run.Status.TheVariants.{Done, NoMemory, Usage, Script, ReadFault, WriteFault, TooLong, Full}

-- ---- what words ask for

-- the value of a digit
abbrev pub digit_of : ℕ → Option ℕ
digit_of byte = if nat_le 48 byte && nat_le byte 57 then Some (byte - 48) else None

-- at most 40 payments
abbrev pub few : Option ℕ → Option ℕ
few None = None
few (Some n) = if nat_le n 40 then Some n else None

abbrev pub two_digits : Option ℕ → Option ℕ → Option ℕ
two_digits None unit = None
two_digits (Some ten) None = None
two_digits (Some ten) (Some unit) = Some (10 * ten + unit)

-- the number of one digit or two, at most 40
abbrev pub number_of : List ℕ → Option ℕ
number_of (unit ∷ []) = few (digit_of unit)
number_of (ten ∷ unit ∷ []) = few (two_digits (digit_of ten) (digit_of unit))
number_of _ = None

abbrev pub word_of : Ending → List ℕ
word_of Close = codes "close"
word_of Exit = codes "exit"

abbrev pub ending_of : List ℕ → Option Ending
ending_of word =
    if bytes_eq word (codes "close") then Some Close
    else (if bytes_eq word (codes "exit") then Some Exit else None)

abbrev pub both : Option Ending → Option ℕ → Option (Ending × ℕ)
both None count = None
both (Some ending) None = None
both (Some ending) (Some count) = Some (ending, count)

-- how it ends, and how many payments it makes
abbrev pub asked : List (List ℕ) → Option (Ending × ℕ)
asked (word ∷ number ∷ []) = both (ending_of word) (number_of number)
asked _ = None

-- there is no hop where two of its people or of its channels would have one name
abbrev pub wanted : List (List ℕ) → Option (Ending × ℕ)
wanted words = if are_apart then asked words else None

-- ---- its text

abbrev pub head_line : Ending → ℕ → List ℕ
head_line ending count = codes "hop" & word_of ending & ended (decimal count)

-- what was asked for, and the lines of a run after its entries and refused commands
abbrev pub route_text : Ending → ℕ → Report → List ℕ
route_text ending count report = head_line ending count ++ tail_of report

-- ---- what comes of it

-- what words lead to where nothing fails
abbrev pub status_of : Option (Ending × ℕ) → Status
status_of None = Usage
status_of (Some asks) = Done

module _ {P : Type 0} (ways : Ways P) (words : List (List ℕ)) where
  -- the words ask for the hop of this report, which describes its play and keeps the promises of one
  abbrev pub IsToldOf : Report → Type 0
  IsToldOf report = (asks : Ending × ℕ) × (wanted words ≡ Some asks) × IsPlayed ways None report (hop_steps asks.0 asks.1)

  -- why a hop comes to each end, and the text that it owes
  abbrev pub EndsAs : Status → Option Report → List ℕ → Type 0
  EndsAs Done (Some report) text =
      (asks : Ending × ℕ) × (wanted words ≡ Some asks) × IsPlayed ways None report (hop_steps asks.0 asks.1)
      × (text ≡ route_text asks.0 asks.1 report)
  EndsAs Usage None text = (wanted words ≡ None) × (text ≡ ended (codes "usage"))
  -- no other end, and no other report
  EndsAs Done None text = ⊥
  EndsAs NoMemory report text = ⊥
  EndsAs Usage (Some report) text = ⊥
  EndsAs (Script step rule) report text = ⊥
  EndsAs ReadFault report text = ⊥
  EndsAs WriteFault report text = ⊥
  EndsAs TooLong report text = ⊥
  EndsAs Full report text = ⊥
