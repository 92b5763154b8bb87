-- What a checker finds of the record of a report.
use Rattle.std.specs.Prelude.{◌≡◌, ℕ, true, List, Option, IfSome}
use Rattle.call_history.specs.History.{Legal, newest_first}
use Rattle.script_run.specs.Paying.{Pays}
use Rattle.run_record.specs.Sound.{HasSums, IsSound}
use Rattle.network.specs.Ways.{Ways}
use Rattle.network.specs.declared.command.Command.{Command}
use Rattle.play_report.specs.Reported.{Tells, NoCollision, IsPlayed}
use Rattle.script_race.specs.Raced.{IsOfRace}
use Rattle.report_text.specs.Report.{record_from}
use Rattle.report_text.specs.declared.report.Load.{Load}
use Rattle.report_text.specs.declared.report.Report.{Report}
use Rattle.node_guarantees.specs.Promised.{Pairwise}
use Rattle.network_rounds.specs.Players.{Player}
use Rattle.step_meanings.specs.Commands.{command_of}
use Rattle.script_play.specs.Play.{SceneOf}
use Rattle.script_steps.specs.declared.step.Step.{Step}
use Rattle.support_rules.specs.Real.{real}

-- Of each person with a node nothing is said to be forged, and none of these strings collide. `commands` says what
-- each step commands.
abbrev pub IsPremised : (commands : ℕ → Option Command) → Report → Type 0
IsPremised commands r = Pairwise (λ j p. (p.unforged ≡ true) × NoCollision commands r j) r.journals r.premises

abbrev pub IsLegalIn : Report → Type 0
IsLegalIn r = Legal real (newest_first r.history)

-- where the report is that of a load, it pays what that says
abbrev pub PaysItsLoad : Report → Type 0
PaysItsLoad r = IfSome r.load (λ load. Pays load r)

module _ {P : Type 0} (ways : Ways P) where
  abbrev pub RecordsHaveSums : Type 0
  RecordsHaveSums =
      (commands : ℕ → Option Command) (load : Option Load) (r : Report) (s : SceneOf P) → Tells commands ways load r s → IsLegalIn r → HasSums (record_from r)

  abbrev pub PlaysHaveSoundRecords : Type 0
  PlaysHaveSoundRecords =
      (load : Option Load) (r : Report) (steps : List Step) → IsPlayed ways load r steps → IsLegalIn r → IsPremised (command_of steps) r → IsSound (record_from r)

  abbrev pub RacesHaveSoundRecords : List Player → Type 0
  RacesHaveSoundRecords cast =
      (r : Report) (steps : List Step) → IsOfRace ways cast r steps → IsLegalIn r → IsPremised (command_of steps) r → IsSound (record_from r)
