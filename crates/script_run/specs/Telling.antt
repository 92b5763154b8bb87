-- Whose play a report is: the script that it describes, what it says of it, and that each journal is by the rules of
-- the node.
use Rattle.std.specs.Prelude.{◌≡◌, ℕ, List, Option, None}
use Rattle.call_history.specs.History.{newest_first}
use Rattle.channel_safety.specs.Journals.{In}
use Rattle.network.specs.Ways.{Ways}
use Rattle.network.specs.declared.command.Command.{Command}
use Rattle.network_rounds.specs.Players.{Player}
use Rattle.node_guarantees.specs.Promised.{Pairwise, IsByRules}
use Rattle.play_report.specs.Reported.{Tells, IsInTimeIf, events}
use Rattle.premises.specs.declared.journal.Journal.{Journal}
use Rattle.report_text.specs.declared.report.Load.{Load}
use Rattle.report_text.specs.declared.report.Report.{Report}
use Rattle.script_play.specs.Play.{play}
use Rattle.script_race.specs.Races.{RaceOf, IsRaceOf}
use Rattle.script_run.specs.Run.{Given, Asks, Comes}
use Rattle.script_steps.specs.declared.step.Step.{Step}
use Rattle.step_meanings.specs.Commands.{command_of}

-- Each journal of the report is one of the network's own node, event for event. `commands` says what each step
-- commands.
abbrev pub AreByRules : (commands : ℕ → Option Command) → Report → Type 0
AreByRules commands r =
    (j : Journal) → In j r.journals → IsByRules (newest_first r.history) j.key (events commands j)

module _ {P : Type 0} (ways : Ways P) (commands : ℕ → Option Command) (r : Report) where
  -- the report is that of the play of these steps
  pub record TellsPlay (load : Option Load) (steps : List Step) : Type 0 where
    pub commanded : commands ≡ command_of steps
    pub tells : Tells commands ways load r (play ways steps)
    pub ruled : AreByRules commands r

  -- or that of a race of them with this cast, in which the watchers of each person with a node were in time
  pub record TellsRace (cast : List Player) (steps : List Step) : Type 0 where
    pub commanded : commands ≡ command_of steps
    pub race : RaceOf P
    pub races : IsRaceOf ways steps cast race
    pub tells : Tells commands ways None r race.scene
    pub ruled : AreByRules commands r
    pub in_time : Pairwise (IsInTimeIf commands r) r.journals r.premises

  -- the words ask for what the report describes
  abbrev pub TellsOf : List Player → Given → Type 0
  TellsOf cast g = Asks g (λ a. Comes TellsPlay (TellsRace cast) g a)
