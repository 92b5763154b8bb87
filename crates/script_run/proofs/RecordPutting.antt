-- What is true of a recording once what its end owes was written whole, in part, or not at all.
use Rattle.std.proofs.Common.{◌≡◌, ◌⊎◌, inl, inr, ℕ, List, refl, subst}
use Rattle.std.specs.Io.KnownBytes.{Keeps, Appends}
use Rattle.byte_streams.specs.OutsideSink.{AppendsPart}
use Rattle.byte_streams.specs.OutsideSource.{Rose}
use Rattle.network.specs.Ways.{Ways}
use Rattle.network_rounds.specs.Players.{Player}
use Rattle.script_run.proofs.RecordCompletes.{completes}
use Rattle.script_run.specs.Promises.{Sunk, IsRecording}
use Rattle.script_run.specs.Recording.{IsFullRace, EndsAs}
use Rattle.script_run.specs.Run.{Given}
use Rattle.script_run.specs.declared.run.Status.TheVariants.{Done, NoMemory, WriteFault}
use Rattle.script_run.specs.declared.status.Status.{Status}
use Rattle.script_run.specs.declared.status.Status.TheVariants.{Ran, PastLimits}

no_fault : Ran NoMemory ≡ Ran WriteFault → ⊥
no_fault same = cc

no_want : Ran WriteFault ≡ Ran NoMemory → ⊥
no_want same = cc

module _ {P : Type 0} (ways : Ways P) (cast : List Player) (g : Given) (k : Sunk) where
  pub none_put : Keeps k.before k.after → IsRecording ways cast g k (Ran NoMemory)
  none_put untouched =
      record {
        ended = λ not _. absurd (not refl);
        write_fault = λ same. absurd (no_fault same);
        no_memory = λ _. untouched;
        complete = λ _ _. inr (inr (inl refl));
      }

  module _ (status : Status) (bytes : List ℕ) (ends : EndsAs ways cast g status bytes) where
    no_end : (s : Status) → status ≡ s → EndsAs ways cast g s bytes
    no_end s same = subst (λ (x : Status). EndsAs ways cast g x bytes) same ends

    either : (status ≡ Ran Done) ⊎ ((status ≡ PastLimits) ⊎ IsFullRace g status)
        → (status ≡ Ran Done) ⊎ ((status ≡ PastLimits) ⊎ ((status ≡ Ran NoMemory) ⊎ IsFullRace g status))
    either (inl done) = inl done
    either (inr (inl past)) = inr (inl past)
    either (inr (inr full)) = inr (inr (inr full))

    pub all_put : Appends k.before k.after bytes → IsRecording ways cast g k status
    all_put appends =
        record {
          ended = λ _ _. (bytes, ends, appends);
          write_fault = λ same. absurd (no_end (Ran WriteFault) same);
          no_memory = λ same. absurd (no_end (Ran NoMemory) same);
          complete = λ recordable _. either (completes ways cast g recordable status bytes ends);
        }

    pub part_put : Rose k.faults_before k.faults_after → AppendsPart k.before k.after bytes → IsRecording ways cast g k (Ran WriteFault)
    part_put rose part =
        record {
          ended = λ _ not. absurd (not refl);
          write_fault = λ _. (rose, (status, bytes, ends, part));
          no_memory = λ same. absurd (no_want same);
          complete = λ _ still. absurd (still rose);
        }
