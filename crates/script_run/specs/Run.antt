-- How a run of the program ends.
use Rattle.std.specs.Prelude.{◌≡◌, ◌≤◌, ◌<◌, ℕ, List, [], length, Bool, true, false, ⊤, Option, Some, None, codes, if◌then◌else◌}
use Rattle.std.specs.Fmt.{decimal}
use Rattle.std.specs.Io.KnownBytes.{Keeps, Consumes, IsAtEnd}
use Rattle.byte_streams.specs.OutsideSource.{Rose}
use Rattle.byte_streams.specs.declared.source.Source as source
use Rattle.script_reader.specs.Script.{IsScript, Breaks}
use Rattle.script_reader.specs.step.Rule.{Rule}
use Rattle.script_reader.specs.step.Rule.TheVariants as rules
use Rattle.script_reader.specs.step.Step.{Step}
use Rattle.network.specs.Ways.{Ways}
use Rattle.play_report.specs.Reported.{IsPlayed}
use Rattle.script_race.specs.Raced.{IsOfRace}
use Rattle.report_text.specs.Report.{text_of}
use Rattle.report_text.specs.Text.{◌&◌, ended}
use Rattle.report_text.specs.declared.report.Load.{Load as Note}
use Rattle.report_text.specs.declared.report.Report.{Report}
use Rattle.network_rounds.specs.Players.{Player}
use Rattle.script_run.specs.declared.run.Status.{Status}
use Rattle.script_run.specs.declared.run.Status.TheVariants.{Done, NoMemory, Usage, Script, ReadFault, WriteFault, TooLong, Full}
use Rattle.command_words.specs.Words.{asked}
use Rattle.command_words.specs.declared.asking.Asked.{Asked}
use Rattle.command_words.specs.declared.asking.Asked.TheVariants.{Run, Race, Load}
use Rattle.script_run.specs.Load.{are_two, load_steps}

-- the words and the source that a run was handed: what was left of it and its count of faults, before and after
pub record Given : Type 0 where
  pub words : List (List ℕ)
  pub before : Option (List ℕ)
  pub after : Option (List ℕ)
  pub faults_before : ℕ
  pub faults_after : ℕ

-- what a run was handed, by what its source says
abbrev pub given : {S : Type 0} → source.Ghosts S → List (List ℕ) → S → S → Given
given s words old new = record { words = words; before = s.remaining old; after = s.remaining new; faults_before = s.faults old; faults_after = s.faults new }

-- the number of a status
abbrev pub code_of : Status → ℕ
code_of Done = 0
code_of NoMemory = 1
code_of Usage = 2
code_of (Script step rule) = 3
code_of ReadFault = 4
code_of WriteFault = 5
code_of TooLong = 6
code_of Full = 12

-- a load whose two people would have one name is none
abbrev pub playable : Option Asked → Option Asked
playable None = None
playable (Some Run) = Some Run
playable (Some Race) = Some Race
playable (Some (Load seed count)) = if are_two seed then Some (Load seed count) else None

-- what the words ask for that can be played, if anything
abbrev pub wanted : List (List ℕ) → Option Asked
wanted words = playable (asked words)

-- the words ask for something
abbrev pub Asks : Given → (Asked → Type 0) → Type 0
Asks g P = (a : Asked) × (wanted g.words ≡ Some a) × P a

-- how a script is played: by rounds in threads, or one thing after another
abbrev pub play : Bool → Asked
play true = Race
play false = Run

-- the words are `run` or `race`, and this holds of it
abbrev pub Plays : Given → (Bool → Type 0) → Type 0
Plays g P = (race : Bool) × (wanted g.words ≡ Some (play race)) × P race

-- some bytes were taken
abbrev pub Takes : Given → (List ℕ → Type 0) → Type 0
Takes g P = (bytes : List ℕ) × Consumes g.before g.after bytes × P bytes

-- the source was read to its end, within the limit
abbrev pub Reads : Given → (List ℕ → Type 0) → Type 0
Reads g P = (bytes : List ℕ) × Consumes g.before g.after bytes × IsAtEnd g.after × (length bytes ≤ 4194304) × P bytes

-- nothing was taken, and no fault was met
abbrev pub IsUnread : Given → Type 0
IsUnread g = Keeps g.before g.after × (g.faults_after ≡ g.faults_before)

-- what the report of a load notes
abbrev pub made_from : (seed count : ℕ) → Note
made_from seed count = record { seed = seed; count = count }

-- What was asked for comes to this: it holds of the script that was read, or of the load's, as a play or as a race.
module _ (AsPlay : Option Note → List Step → Type 0) (AsRace : List Step → Type 0) where
  abbrev pub Comes : Given → Asked → Type 0
  Comes g Run = Reads g (λ bytes. (steps : List Step) × IsScript false bytes steps × AsPlay None steps)
  Comes g Race = Reads g (λ bytes. (steps : List Step) × IsScript true bytes steps × AsRace steps)
  Comes g (Load seed count) = IsUnread g × AsPlay (Some (made_from seed count)) (load_steps seed count)

-- the words ask for a race, and its script was read
abbrev pub ReadsRace : Given → Type 0
ReadsRace g = (wanted g.words ≡ Some Race) × Reads g (λ bytes. (steps : List Step) × IsScript true bytes steps)

-- a race ends so where its history has no room for another entry
abbrev pub IsFullRace : Given → Status → Type 0
IsFullRace g status = (status ≡ Full) × (wanted g.words ≡ Some Race)

-- Of these nodes, and of the actors that a race has beside them.
module _ {P : Type 0} (ways : Ways P) (cast : List Player) where
  -- the words ask for what comes to this report, which describes its play and keeps the promises of one
  abbrev pub IsToldOf : Given → Report → Type 0
  IsToldOf g report = Asks g (λ a. Comes (λ load steps. IsPlayed ways load report steps) (λ steps. IsOfRace ways cast report steps) g a)

  -- Why a run comes to each end, before its text is written.
  abbrev pub EndsAs : Given → Status → Option Report → Type 0
  EndsAs g Done (Some report) = IsToldOf g report
  EndsAs g Usage None = (wanted g.words ≡ None) × IsUnread g
  EndsAs g (Script step rule) None = Plays g (λ race. Reads g (Breaks race step rule))
  EndsAs g ReadFault None = Plays g (λ race. Takes g (λ bytes. length bytes ≤ 4194304) × Rose g.faults_before g.faults_after)
  EndsAs g TooLong None = Plays g (λ race. Takes g (λ bytes. 4194304 < length bytes))
  EndsAs g Full None = ReadsRace g
  -- no other end, and no other report
  EndsAs g Done None = ⊥
  EndsAs g NoMemory report = ⊥
  EndsAs g Usage (Some report) = ⊥
  EndsAs g (Script step rule) (Some report) = ⊥
  EndsAs g ReadFault (Some report) = ⊥
  EndsAs g WriteFault report = ⊥
  EndsAs g TooLong (Some report) = ⊥
  EndsAs g Full (Some report) = ⊥

  -- they come to the same end, with the same report
  abbrev pub EndsAlike : Given → Given → Type 0
  EndsAlike g h = (s t : Status) (p q : Option Report) → EndsAs g s p → EndsAs h t q → (s ≡ t) × (p ≡ q)

-- the number and the name of a rule
abbrev pub rule_text : Rule → List ℕ
rule_text rules.NotJson = codes "1 NotJson"
rule_text rules.Shape = codes "2 Shape"
rule_text rules.Name = codes "3 Name"
rule_text rules.Limit = codes "4 Limit"
rule_text rules.NotInRace = codes "6 NotInRace"

-- the text of a report, where there is one
abbrev pub printed : Option Report → List ℕ
printed None = []
printed (Some report) = text_of report

-- the bytes that an end owes
abbrev pub owed : Status → Option Report → List ℕ
owed Done report = printed report
owed NoMemory report = []
owed Usage report = ended (codes "usage")
owed (Script step rule) report = codes "script" & decimal step & ended (rule_text rule)
owed ReadFault report = ended (codes "read fault")
owed WriteFault report = []
owed TooLong report = ended (codes "too long")
owed Full report = ended (codes "full")

-- the source gives a script for a run or a race that is short enough, and doesn't fail
pub record TellsScript (race : Bool) (g : Given) : Type 0 where
  pub bytes : List ℕ
  pub told : g.before ≡ Some bytes
  pub short : length bytes ≤ 4194304
  pub steps : List Step
  pub script : IsScript race bytes steps
  pub faultless : ¬ (Rose g.faults_before g.faults_after)

-- a run and a race have a script; a load needs none
abbrev pub HasScript : Asked → Given → Type 0
HasScript Run g = TellsScript false g
HasScript Race g = TellsScript true g
HasScript (Load seed count) g = ⊤

-- the words ask for something, and its script is there
abbrev pub IsRunnable : Given → Type 0
IsRunnable g = Asks g (λ a. HasScript a g)

-- these words, and a source that gives these bytes, and doesn't fail
pub record IsCalm (words : List (List ℕ)) (bytes : List ℕ) (g : Given) : Type 0 where
  pub words_are : g.words ≡ words
  pub told : g.before ≡ Some bytes
  pub faultless : ¬ (Rose g.faults_before g.faults_after)
