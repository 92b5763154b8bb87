-- What is told of a report, in two: what it keeps, and whose play it is.
use Rattle.std.proofs.Common.{ℕ, List, Option, Some, None, refl}
use Rattle.std.specs.Prelude.{IfSome}
use Rattle.network.specs.Ways.{Ways}
use Rattle.network.specs.declared.command.Command.{Command}
use Rattle.network_rounds.specs.Players.{Player}
use Rattle.play_report.specs.Reported.{AreJudged, Promises, IsPlayed}
use Rattle.report_text.specs.declared.report.Load.{Load as Note}
use Rattle.report_text.specs.declared.report.Report.{Report}
use Rattle.script_race.specs.Raced.{IsOfRace}
use Rattle.script_steps.specs.declared.step.Step.{Step}
use Rattle.step_meanings.specs.Commands.{command_of}
use Rattle.script_run.specs.Load.{load_steps}
use Rattle.command_words.specs.declared.asking.Asked.TheVariants.{Run, Race, Load}
use Rattle.script_run.specs.Keeping.{Keeps}
use Rattle.script_run.specs.Telling.{AreByRules, TellsPlay, TellsRace, TellsOf}
use Rattle.script_run.specs.Run.{Given, IsToldOf, made_from}

module _ (commands : ℕ → Option Command) (r : Report) (promises : Promises commands r) where
  pub kept : AreJudged r.history r.journals r.premises → Keeps commands r
  kept judged =
      record {
        judged = judged;
        honest = λ j in_it. (promises.honest j in_it).lines_are;
        once = λ j in_it. (promises.honest j in_it).once;
        challenges = promises.challenges;
        safe = promises.safe;
        few = promises.few;
        fair = promises.fair;
        ends = promises.ends;
        kept = promises.kept;
        paid = promises.paid;
      }

  pub ruled : AreByRules commands r
  ruled j in_it = (promises.honest j in_it).by_rules

module _ {P : Type 0} (ways : Ways P) where
  pub keeps_play : (load : Option Note) (r : Report) (steps : List Step) → IsPlayed ways load r steps → Keeps (command_of steps) r
  keeps_play load r steps played = kept (command_of steps) r played.keeps played.tells.judged

  pub tells_play : (load : Option Note) (r : Report) (steps : List Step) → IsPlayed ways load r steps → TellsPlay ways (command_of steps) r load steps
  tells_play load r steps played =
      record {
        commanded = refl;
        tells = played.tells;
        ruled = ruled (command_of steps) r played.keeps;
      }

  module _ (cast : List Player) where
    keeps_race : (r : Report) (steps : List Step) → IsOfRace ways cast r steps → Keeps (command_of steps) r
    keeps_race r steps raced = kept (command_of steps) r raced.keeps raced.tells.judged

    tells_race : (r : Report) (steps : List Step) → IsOfRace ways cast r steps → TellsRace ways (command_of steps) r cast steps
    tells_race r steps raced =
        record {
          commanded = refl;
          race = raced.race;
          races = raced.races;
          tells = raced.tells;
          ruled = ruled (command_of steps) r raced.keeps;
          in_time = raced.in_time;
        }

    module _ (g : Given) where
      -- what each step commands of what was asked for
      abbrev commands_told : (r : Report) → IsToldOf ways cast g r → ℕ → Option Command
      commands_told r (Run, asks, reads) = command_of reads.4.0
      commands_told r (Race, asks, reads) = command_of reads.4.0
      commands_told r (Load seed count, asks, played) = command_of (load_steps seed count)

      keeps_told : (r : Report) (told : IsToldOf ways cast g r) → Keeps (commands_told r told) r
      keeps_told r (Run, asks, reads) = keeps_play None r reads.4.0 reads.4.2
      keeps_told r (Race, asks, reads) = keeps_race r reads.4.0 reads.4.2
      keeps_told r (Load seed count, asks, played) = keeps_play (Some (made_from seed count)) r (load_steps seed count) played.1

      tells_told : (r : Report) (told : IsToldOf ways cast g r) → TellsOf ways (commands_told r told) r cast g
      tells_told r (Run, asks, reads) =
          (Run, asks, (reads.0, reads.1, reads.2, reads.3, (reads.4.0, reads.4.1, tells_play None r reads.4.0 reads.4.2)))
      tells_told r (Race, asks, reads) =
          (Race, asks, (reads.0, reads.1, reads.2, reads.3, (reads.4.0, reads.4.1, tells_race r reads.4.0 reads.4.2)))
      tells_told r (Load seed count, asks, played) =
          (Load seed count, asks, (played.0, tells_play (Some (made_from seed count)) r (load_steps seed count) played.1))

      -- so where there is a report
      abbrev pub commands : (report : Option Report) → IfSome report (IsToldOf ways cast g) → ℕ → Option Command
      commands None told = λ _. None
      commands (Some r) told = commands_told r told

      pub keeps : (report : Option Report) (told : IfSome report (IsToldOf ways cast g)) → IfSome report (Keeps (commands report told))
      keeps None told = tt
      keeps (Some r) told = keeps_told r told

      pub tells : (report : Option Report) (told : IfSome report (IsToldOf ways cast g))
          → IfSome report (λ (r : Report). TellsOf ways (commands report told) r cast g)
      tells None told = tt
      tells (Some r) told = tells_told r told
