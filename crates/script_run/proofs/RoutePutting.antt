-- What is true of a route once what its end owes was written whole, in part, or not at all.
use Rattle.std.proofs.Common.{◌≡◌, inl, inr, ℕ, List, Option, Some, None, refl, subst}
use Rattle.std.specs.Prelude.{IfSome}
use Rattle.std.specs.Io.KnownBytes.{Keeps as Untouched, Appends}
use Rattle.byte_streams.specs.OutsideSink.{AppendsPart}
use Rattle.byte_streams.specs.OutsideSource.{Rose}
use Rattle.hop_script.specs.Hop.{hop_steps}
use Rattle.hop_script.specs.declared.ending.Ending.{Ending}
use Rattle.network.specs.Ways.{Ways}
use Rattle.network.specs.declared.command.Command.{Command}
use Rattle.report_text.specs.declared.report.Report.{Report}
use Rattle.script_run.proofs.Putting.{are_conserved, no_fault, no_want}
use Rattle.script_run.proofs.RouteEnds.{ends_as, is_told}
use Rattle.script_run.proofs.Told.{keeps_play, tells_play}
use Rattle.script_run.specs.Keeping.{Keeps}
use Rattle.script_run.specs.Laws.{IsLegalIn}
use Rattle.script_run.specs.Promises.{Sunk, IsRoute}
use Rattle.script_run.specs.Routes.{EndsAs, IsToldOf, wanted}
use Rattle.script_run.specs.Telling.{TellsPlay}
use Rattle.script_run.specs.declared.run.Status.{Status}
use Rattle.script_run.specs.declared.run.Status.TheVariants.{NoMemory, WriteFault}
use Rattle.step_meanings.specs.Commands.{command_of}

module _ {P : Type 0} (ways : Ways P) (words : List (List ℕ)) where
  -- what each step commands of the route
  abbrev commands : (report : Option Report) → IfSome report (IsToldOf ways words) → ℕ → Option Command
  commands None told = λ _. None
  commands (Some r) told = command_of (hop_steps told.0.0 told.0.1)

  keeps : (report : Option Report) (told : IfSome report (IsToldOf ways words)) → IfSome report (Keeps (commands report told))
  keeps None told = tt
  keeps (Some r) told = keeps_play ways None r (hop_steps told.0.0 told.0.1) told.2

  tells : (report : Option Report) (told : IfSome report (IsToldOf ways words))
      → IfSome report (λ (r : Report). (asks : Ending × ℕ) × (wanted words ≡ Some asks)
      × TellsPlay ways (commands report told) r None (hop_steps asks.0 asks.1))
  tells None told = tt
  tells (Some r) told = (told.0, told.1, tells_play ways None r (hop_steps told.0.0 told.0.1) told.2)

  module _ (k : Sunk) where
    pub none_put : Untouched k.before k.after → IsRoute ways words k NoMemory None
    none_put untouched =
        record {
          ended = λ not _. absurd (not refl);
          write_fault = λ same. absurd (no_fault same);
          no_memory = λ _. (refl, untouched);
          legal = tt;
          conserved = tt;
          commands = λ _. None;
          keeps = tt;
          tells = tt;
          complete = λ _. inr refl;
        }

    module _ (status : Status) (report : Option Report) (text : List ℕ) (ends : EndsAs ways words status report text) (legal : IfSome report IsLegalIn) where
      told : IfSome report (IsToldOf ways words)
      told = is_told ways words status report text ends

      no_end : (s : Status) → status ≡ s → EndsAs ways words s report text
      no_end s same = subst (λ (x : Status). EndsAs ways words x report text) same ends

      pub all_put : Appends k.before k.after text → IsRoute ways words k status report
      all_put appends =
          record {
            ended = λ _ _. (text, ends, appends);
            write_fault = λ same. absurd (no_end WriteFault same);
            no_memory = λ same. absurd (no_end NoMemory same);
            legal = legal;
            conserved = are_conserved report legal;
            commands = commands report told;
            keeps = keeps report told;
            tells = tells report told;
            complete = λ _. inl (ends_as ways words status report text ends);
          }

      pub part_put : Rose k.faults_before k.faults_after → AppendsPart k.before k.after text → IsRoute ways words k WriteFault report
      part_put rose part =
          record {
            ended = λ _ not. absurd (not refl);
            write_fault = λ _. (rose, (status, text, ends, part));
            no_memory = λ same. absurd (no_want same);
            legal = legal;
            conserved = are_conserved report legal;
            commands = commands report told;
            keeps = keeps report told;
            tells = tells report told;
            complete = λ still. absurd (still rose);
          }
