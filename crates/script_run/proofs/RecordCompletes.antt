-- A sound script is recorded, unless its record is past the limits or a race's history is full.
use Rattle.std.proofs.Common.{◌≡◌, ◌⊎◌, inl, inr, ℕ, List, Option, Some, None, refl, ap, subst}
use Rattle.network.specs.Ways.{Ways}
use Rattle.script_run.specs.Recording.{asked_of, IsFullRace, RunEnds, EndsAs, IsRecordable}
use Rattle.script_run.specs.declared.status.Status.{Status}
use Rattle.script_run.specs.declared.status.Status.TheVariants.{Ran, PastLimits}
use Rattle.report_text.specs.declared.report.Report.{Report}
use Rattle.network_rounds.specs.Players.{Player}
use Rattle.script_run.specs.Run.{Given}
use Rattle.script_run.specs.Run as runs
use Rattle.script_run.specs.declared.run.Status.{Status as RanAs}
use Rattle.script_run.specs.declared.run.Status.TheVariants.{Done, NoMemory, Usage, Script, ReadFault, WriteFault, TooLong, Full}
use Rattle.script_run.proofs.Completes as run_completes

same_words : (o : Option (List (List ℕ))) (x y : List (List ℕ)) → o ≡ Some x → o ≡ Some y → x ≡ y
same_words o x y a b = cc

no_words : (o : Option (List (List ℕ))) (x : List (List ℕ)) → o ≡ None → o ≡ Some x → ⊥
no_words o x a b = cc

module _ {P : Type 0} (ways : Ways P) (cast : List Player) (g : Given) (due : IsRecordable g) where
  of_run : (s : RanAs) (report : Option Report) → RunEnds ways cast g s report → (s ≡ Done) ⊎ IsFullRace g (Ran s)
  of_run s report (words, asked, e) =
      either
      (run_completes.completes ways cast (record g { words = words }) s report e
      (subst (λ (x : List (List ℕ)). runs.IsRunnable (record g { words = x })) (same_words (asked_of g.words) due.0 words due.1 asked) due.2))
    where
      either : (s ≡ Done) ⊎ runs.IsFullRace (record g { words = words }) s → (s ≡ Done) ⊎ IsFullRace g (Ran s)
      either (inl done) = inl done
      either (inr full) = inr (ap Ran full.0, (words, asked, full.1))

  -- no other end of a run is that of its recording
  ran : (s : RanAs) → (s ≡ Done) ⊎ IsFullRace g (Ran s) → (Ran s ≡ Ran Done) ⊎ ((Ran s ≡ PastLimits) ⊎ IsFullRace g (Ran s))
  ran s (inl done) = inl (ap Ran done)
  ran s (inr full) = inr (inr full)

  pub completes : (s : Status) (bytes : List ℕ) → EndsAs ways cast g s bytes → (s ≡ Ran Done) ⊎ ((s ≡ PastLimits) ⊎ IsFullRace g s)
  completes (Ran Done) bytes e = inl refl
  completes PastLimits bytes e = inr (inl refl)
  completes (Ran Usage) bytes e = absurd (no_words (asked_of g.words) due.0 e.0 due.1)
  completes (Ran (Script step rule)) bytes e = ran (Script step rule) (of_run (Script step rule) None e.0)
  completes (Ran ReadFault) bytes e = ran ReadFault (of_run ReadFault None e.0)
  completes (Ran TooLong) bytes e = ran TooLong (of_run TooLong None e.0)
  completes (Ran Full) bytes e = ran Full (of_run Full None e.0)
  completes (Ran NoMemory) bytes e = absurd e
  completes (Ran WriteFault) bytes e = absurd e
