-- How a recording ends.
use Rattle.std.specs.Prelude.{◌≡◌, ◌⊎◌, ◌&&◌, ◌||◌, ℕ, List, [], ◌∷◌, Bool, false, Option, Some, None, codes, if◌then◌else◌}
use Rattle.std.specs.Str.{bytes_eq}
use Rattle.call_history.specs.Flows.{AreConserved}
use Rattle.command_words.specs.declared.asking.Asked.TheVariants.{Race}
use Rattle.call_history.specs.History.{flows_of}
use Rattle.run_record.specs.Sound.{HasSums, IsSound}
use Rattle.network.specs.Ways.{Ways}
use Rattle.play_report.specs.Reported.{IsPlayed}
use Rattle.script_race.specs.Raced.{IsOfRace}
use Rattle.run_record.specs.Limits.{KeepsRecord}
use Rattle.run_record.specs.Spelling.{run_record}
use Rattle.script_run.specs.declared.status.Status.{Status}
use Rattle.script_run.specs.declared.status.Status.TheVariants.{Ran, PastLimits}
use Rattle.script_run.specs.Laws.{IsPremised}
use Rattle.report_lines.specs.Text.{ended}
use Rattle.report_text.specs.Report.{record_from}
use Rattle.report_text.specs.declared.report.Report.{Report}
use Rattle.network_rounds.specs.Players.{Player}
use Rattle.step_meanings.specs.Commands.{command_of}
use Rattle.script_steps.specs.declared.step.Step.{Step}
use Rattle.script_run.specs.Run.{Given, IsUnread}
use Rattle.script_run.specs.Run as runs
use Rattle.script_run.specs.declared.run.Status.{Status as RanAs}
use Rattle.script_run.specs.declared.run.Status.TheVariants.{Done, NoMemory, Usage, Script, ReadFault, WriteFault, TooLong, Full}

-- the number of a status
abbrev pub code_of : Status → ℕ
code_of (Ran status) = runs.code_of status
code_of PastLimits = 7

abbrev pub is_play : List (List ℕ) → Bool
is_play (word ∷ []) = bytes_eq word (codes "run") || bytes_eq word (codes "race")
is_play _ = false

-- the word after `record`, where that is `run` or `race`
abbrev pub asked_of : List (List ℕ) → Option (List (List ℕ))
asked_of [] = None
asked_of (word ∷ rest) = if bytes_eq word (codes "record") && is_play rest then Some rest else None

-- the words ask for the record of a race
abbrev pub AsksForRace : List (List ℕ) → Type 0
AsksForRace given = (words : List (List ℕ)) × (asked_of given ≡ Some words) × (runs.wanted words ≡ Some Race)

-- a recording of a race ends so where the history has no room for another entry
abbrev pub IsFullRace : Given → Status → Type 0
IsFullRace g status = (status ≡ Ran Full) × AsksForRace g.words

module _ {P : Type 0} (ways : Ways P) (cast : List Player) where
  -- the words ask for a record, and a run of the rest of them comes to this end with this report
  abbrev pub RunEnds : Given → RanAs → Option Report → Type 0
  RunEnds g status report = (words : List (List ℕ)) × (asked_of g.words ≡ Some words) × runs.EndsAs ways cast (record g { words = words }) status report

  -- The record of what was played is sound where of each person with a node nothing is said to be forged and no
  -- strings collide.
  abbrev pub IsSoundIf : Report → Type 0
  IsSoundIf r =
      (steps : List Step) → IsPlayed ways None r steps ⊎ IsOfRace ways cast r steps → IsPremised (command_of steps) r
      → IsSound (record_from r)

  -- What was played, and what is true of its record: with no premise, its history is legal and conserved, and its
  -- sums are those of its flows.
  pub record IsRecorded (g : Given) (r : Report) : Type 0 where
    pub ran : RunEnds g Done (Some r)
    pub sums : HasSums (record_from r)
    pub conserved : AreConserved (flows_of r.history)
    pub sound : IsSoundIf r

  -- Why a recording comes to each end, and the bytes that it owes: of what was played its record, else what a run owes.
  abbrev pub EndsAs : Given → Status → List ℕ → Type 0
  EndsAs g (Ran Done) bytes = (r : Report) × IsRecorded g r × (bytes ≡ run_record (record_from r))
  EndsAs g PastLimits bytes = (r : Report) × RunEnds g Done (Some r) × ¬ (KeepsRecord (record_from r)) × (bytes ≡ [])
  EndsAs g (Ran Usage) bytes = (asked_of g.words ≡ None) × IsUnread g × (bytes ≡ ended (codes "usage"))
  EndsAs g (Ran (Script step rule)) bytes = RunEnds g (Script step rule) None × (bytes ≡ runs.owed (Script step rule) None)
  EndsAs g (Ran ReadFault) bytes = RunEnds g ReadFault None × (bytes ≡ runs.owed ReadFault None)
  EndsAs g (Ran TooLong) bytes = RunEnds g TooLong None × (bytes ≡ runs.owed TooLong None)
  EndsAs g (Ran Full) bytes = RunEnds g Full None × (bytes ≡ runs.owed Full None)
  -- no other end
  EndsAs g (Ran NoMemory) bytes = ⊥
  EndsAs g (Ran WriteFault) bytes = ⊥

-- the words ask for a record, and a run of the rest of them would end
abbrev pub IsRecordable : Given → Type 0
IsRecordable g = (words : List (List ℕ)) × (asked_of g.words ≡ Some words) × runs.IsRunnable (record g { words = words })
