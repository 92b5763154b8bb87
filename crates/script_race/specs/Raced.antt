-- What a report says of a race, and what it promises of each person with a node.
use Rattle.std.specs.Prelude.{ℕ, List, None}
use Rattle.channel_values.specs.Collisions.{NoneCollide}
use Rattle.call_history.specs.History.{Legal}
use Rattle.call_history.specs.declared.entry.Entry.{Entry}
use Rattle.channel_safety.specs.Hashed.{hashed}
use Rattle.channel_safety.specs.Occurring.{AreValid}
use Rattle.channel_safety.specs.Premises.{InTime}
use Rattle.network.specs.Ways.{Ways}
use Rattle.play_report.specs.Reported.{Tells, IsInTimeIf, Promises}
use Rattle.channel_safety.specs.Races.{IsRaced}
use Rattle.channel_node.specs.Races.{OpensLasting}
use Rattle.script_race.specs.Races.{RaceOf, IsRaceOf}
use Rattle.report_text.specs.declared.report.Report.{Report}
use Rattle.network_rounds.specs.Players.{Player}
use Rattle.step_meanings.specs.Commands.{command_of}
use Rattle.script_steps.specs.declared.step.Step.{Step}
use Rattle.support_rules.specs.Real.{real}
use Rattle.node_guarantees.specs.Promised.{Pairwise}

-- in a race the watchers of a node whose channels last are in time, where no strings collide that they distinguish
abbrev pub RacersAreInTime : {P : Type 0} → Ways P → (stands : List Entry → P → Type 0) → Type 0
RacersAreInTime {P} ways stands =
    (h : List Entry) (p : P) (ends : List ℕ) → Legal real h → stands h p → IsRaced h (ways.lines p) ends → OpensLasting (ways.lines p)
    → AreValid h (ways.lines p) → NoneCollide (hashed h (ways.lines p)) → InTime real h (ways.lines p)

-- The report is that of a race of these steps with this cast. It describes what the race came to and keeps its
-- promises, and the watchers of each person with a node were in time.
pub record IsOfRace {P : Type 0} (ways : Ways P) (cast : List Player) (r : Report) (steps : List Step) : Type 0 where
  pub race : RaceOf P
  pub races : IsRaceOf ways steps cast race
  pub tells : Tells (command_of steps) ways None r race.scene
  pub keeps : Promises (command_of steps) r
  pub in_time : Pairwise (IsInTimeIf (command_of steps) r) r.journals r.premises
