-- What is true of a run once what its end owes was written whole, in part, or not at all.
use Rattle.std.proofs.Common.{◌≡◌, ◌⊎◌, inl, inr, ℕ, List, Option, Some, None, Result, Ok, refl, subst}
use Rattle.std.specs.Prelude.{◌≢◌, IfOk, IfSome}
use Rattle.std.specs.Io.KnownBytes.{Keeps, Appends}
use Rattle.byte_streams.specs.OutsideSink.{AppendsPart}
use Rattle.byte_streams.specs.OutsideSource.{Rose}
use Rattle.byte_streams.specs.declared.sink.Sink as sink
use Rattle.byte_streams.specs.declared.source.Source as source
use Rattle.call_history.specs.Flows.{AreConserved}
use Rattle.call_history.specs.History.{flows_of}
use Rattle.network.specs.Ways.{Ways}
use Rattle.network_rounds.specs.Players.{Player}
use Rattle.report_text.proofs.Numbers.{conserved_in_time}
use Rattle.report_text.specs.declared.report.Report.{Report}
use Rattle.script_run.proofs.Completes.{completes, is_told}
use Rattle.script_run.proofs.Told as parts
use Rattle.script_run.specs.Laws.{IsLegalIn, PaysItsLoad}
use Rattle.script_run.specs.Promises.{Sunk, sunk, IsRun, IsRecording}
use Rattle.script_run.specs.Run.{Given, given, IsFullRace, EndsAs, IsToldOf, owed}
use Rattle.script_run.specs.declared.run.Ended.{Ended}
use Rattle.script_run.specs.declared.run.Status.{Status}
use Rattle.script_run.specs.declared.run.Status.TheVariants.{Done, NoMemory, WriteFault}
use Rattle.script_run.specs.declared.status.Status.{Status as Recorded}

-- what holds of a result holds of its value
pub at_ok : {T E : Type 0} (r : Result T E) (x : T) (P : T → Type 0) → r ≡ Ok x → IfOk r P → P x
at_ok {T} {E} r x P is holds = subst (λ (q : Result T E). IfOk q P) is holds

pub are_conserved : (report : Option Report) → IfSome report IsLegalIn → IfSome report (λ (r : Report). AreConserved (flows_of r.history))
are_conserved None legal = tt
are_conserved (Some r) legal = conserved_in_time r.history legal

pub no_fault : NoMemory ≢ WriteFault
no_fault same = cc

pub no_want : WriteFault ≢ NoMemory
no_want same = cc

module _ {P : Type 0} (ways : Ways P) (cast : List Player) (g : Given) (k : Sunk) where
  pub none_put : Keeps k.before k.after → IsRun ways cast g k NoMemory None
  none_put untouched =
      record {
        ended = λ not _. absurd (not refl);
        write_fault = λ same. absurd (no_fault same);
        no_memory = λ _. (refl, untouched);
        legal = tt;
        conserved = tt;
        commands = λ _. None;
        keeps = tt;
        tells = tt;
        pays = tt;
        complete = λ _ _. inr (inl refl);
      }

  module _ (status : Status) (report : Option Report) (ends : EndsAs ways cast g status report) (legal : IfSome report IsLegalIn)
      (pays : IfSome report PaysItsLoad) where
    told : IfSome report (IsToldOf ways cast g)
    told = is_told ways cast g status report ends

    no_end : (s : Status) → status ≡ s → EndsAs ways cast g s report
    no_end s same = subst (λ (x : Status). EndsAs ways cast g x report) same ends

    either : (status ≡ Done) ⊎ IsFullRace g status → (status ≡ Done) ⊎ ((status ≡ NoMemory) ⊎ IsFullRace g status)
    either (inl done) = inl done
    either (inr full) = inr (inr full)

    pub all_put : Appends k.before k.after (owed status report) → IsRun ways cast g k status report
    all_put appends =
        record {
          ended = λ _ _. (ends, appends);
          write_fault = λ same. absurd (no_end WriteFault same);
          no_memory = λ same. absurd (no_end NoMemory same);
          legal = legal;
          conserved = are_conserved report legal;
          commands = parts.commands ways cast g report told;
          keeps = parts.keeps ways cast g report told;
          tells = parts.tells ways cast g report told;
          pays = pays;
          complete = λ runnable _. either (completes ways cast g status report ends runnable);
        }

    pub part_put : Rose k.faults_before k.faults_after → AppendsPart k.before k.after (owed status report) → IsRun ways cast g k WriteFault report
    part_put rose part =
        record {
          ended = λ _ not. absurd (not refl);
          write_fault = λ _. (rose, (status, ends, part));
          no_memory = λ same. absurd (no_want same);
          legal = legal;
          conserved = are_conserved report legal;
          commands = parts.commands ways cast g report told;
          keeps = parts.keeps ways cast g report told;
          tells = parts.tells ways cast g report told;
          pays = pays;
          complete = λ _ still. absurd (still rose);
        }

-- where a call left the source and the sink untouched, what follows is as from the start
module _ {P : Type 0} (ways : Ways P) (cast : List Player) where
  pub ends_from : {S E : Type 0} (s : source.Ghosts S) (words : List (List ℕ)) (end : Result Ended E) (left old new : S) → left ≡ old
      → IfOk end (λ ended. EndsAs ways cast (given s words left new) ended.status ended.report)
      → IfOk end (λ ended. EndsAs ways cast (given s words old new) ended.status ended.report)
  ends_from {S} s words end left old new is ends =
      subst (λ (x : S). IfOk end (λ ended. EndsAs ways cast (given s words x new) ended.status ended.report)) is ends

  pub run_from : {K : Type 0} (k : sink.Ghosts K) (g : Given) (status : Status) (report : Option Report) (left old new : K) → left ≡ old
      → IsRun ways cast g (sunk k left new) status report → IsRun ways cast g (sunk k old new) status report
  run_from {K} k g status report left old new is run = subst (λ (x : K). IsRun ways cast g (sunk k x new) status report) is run

  pub recording_from : {K : Type 0} (k : sink.Ghosts K) (g : Given) (status : Recorded) (left old new : K) → left ≡ old
      → IsRecording ways cast g (sunk k left new) status → IsRecording ways cast g (sunk k old new) status
  recording_from {K} k g status left old new is recording = subst (λ (x : K). IsRecording ways cast g (sunk k x new) status) is recording
