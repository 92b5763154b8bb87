-- What a lint comes to: a script is read by its rules, and not played.
use Rattle.std.specs.Prelude.{◌≡◌, ◌≤◌, ◌<◌, ℕ, List, [], ◌∷◌, length, Bool, true, false, Option, Some, None, codes, if◌then◌else◌}
use Rattle.std.specs.Fmt.{decimal}
use Rattle.std.specs.Str.{bytes_eq}
use Rattle.std.specs.Io.KnownBytes.{Consumes, IsAtEnd}
use Rattle.byte_streams.specs.OutsideSource.{Rose}
use Rattle.byte_streams.specs.declared.source.Source as source
use Rattle.report_lines.specs.Text.{◌&◌, ended}
use Rattle.script_reader.specs.Script.{IsScript, Breaks}
use Rattle.script_steps.specs.declared.step.Rule.{Rule}
use Rattle.script_steps.specs.declared.step.Rule.TheVariants as rules
use Rattle.script_steps.specs.declared.step.Step.{Step}
use Rattle.script_lint.specs.declared.lint.Status.{Status}
use Rattle.script_lint.specs.declared.lint.Status.TheVariants.{Done, NoMemory, Usage, Script, ReadFault, WriteFault, TooLong}

-- the words and the source that a lint was handed: what was left of it and its count of faults, before and after
pub record Given : Type 0 where
  pub words : List (List ℕ)
  pub before : Option (List ℕ)
  pub after : Option (List ℕ)
  pub faults_before : ℕ
  pub faults_after : ℕ

abbrev pub given : {S : Type 0} → source.Ghosts S → List (List ℕ) → S → S → Given
given s words old new = record { words = words; before = s.remaining old; after = s.remaining new; faults_before = s.faults old; faults_after = s.faults new }

-- the number of a status
abbrev pub code_of : Status → ℕ
code_of Done = 0
code_of NoMemory = 1
code_of Usage = 2
code_of (Script step rule) = 3
code_of ReadFault = 4
code_of WriteFault = 5
code_of TooLong = 6

-- whether the rules are those of a race: the one word is `race`, or else `run`
abbrev pub race_of : List ℕ → Option Bool
race_of word = if bytes_eq word (codes "run") then Some false else (if bytes_eq word (codes "race") then Some true else None)

abbrev pub asked : List (List ℕ) → Option Bool
asked (word ∷ []) = race_of word
asked _ = None

-- ---- lines

abbrev pub sound_line : ℕ → List ℕ
sound_line steps = codes "sound steps" & ended (decimal steps)

-- the number and the name of a rule
abbrev pub rule_text : Rule → List ℕ
rule_text rules.NotJson = codes "1 NotJson"
rule_text rules.Shape = codes "2 Shape"
rule_text rules.Name = codes "3 Name"
rule_text rules.Limit = codes "4 Limit"
rule_text rules.NotInRace = codes "6 NotInRace"

abbrev pub broken_line : ℕ → Rule → List ℕ
broken_line step rule = codes "script" & decimal step & ended (rule_text rule)

-- ---- ends

-- the words ask for these rules, and this holds of them
abbrev pub Asks : Given → (Bool → Type 0) → Type 0
Asks g P = (race : Bool) × (asked g.words ≡ Some race) × P race

-- some bytes were taken
abbrev pub Takes : Given → (List ℕ → Type 0) → Type 0
Takes g P = (bytes : List ℕ) × Consumes g.before g.after bytes × P bytes

-- the source was read to its end, within the limit
abbrev pub Reads : Given → (List ℕ → Type 0) → Type 0
Reads g P = (bytes : List ℕ) × Consumes g.before g.after bytes × IsAtEnd g.after × (length bytes ≤ 4194304) × P bytes

abbrev pub IsSound : Given → List ℕ → Type 0
IsSound g text = Asks g (λ race. Reads g (λ bytes. (steps : List Step) × IsScript race bytes steps × (text ≡ sound_line (length steps))))

abbrev pub IsBroken : Given → ℕ → Rule → Type 0
IsBroken g step rule = Asks g (λ race. Reads g (Breaks race step rule))

abbrev pub IsCut : Given → Type 0
IsCut g = Asks g (λ race. Takes g (λ bytes. length bytes ≤ 4194304) × Rose g.faults_before g.faults_after)

abbrev pub IsLong : Given → Type 0
IsLong g = Asks g (λ race. Takes g (λ bytes. 4194304 < length bytes))

-- Why a lint comes to each end, and the text that it owes.
abbrev pub EndsAs : Given → Status → List ℕ → Type 0
EndsAs g Done text = IsSound g text
EndsAs g Usage text = (asked g.words ≡ None) × (text ≡ ended (codes "usage"))
EndsAs g (Script step rule) text = IsBroken g step rule × (text ≡ broken_line step rule)
EndsAs g ReadFault text = IsCut g × (text ≡ ended (codes "read fault"))
EndsAs g TooLong text = IsLong g × (text ≡ ended (codes "too long"))
-- no other end
EndsAs g NoMemory text = ⊥
EndsAs g WriteFault text = ⊥
