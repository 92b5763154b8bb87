-- A report that describes a scene and keeps its promises has a sound record.
use Rattle.std.proofs.Common.{◌≡◌, ℕ, true, List, [], ◌∷◌, map, sym, subst}
use Rattle.std.specs.List.{All}
use Rattle.std.specs.Prelude.{Option}
use Rattle.std.proofs.lemmas.List.Elements.{All-cons, All-nil}
use Rattle.run_record.specs.Sound.{HasPlan, HasShares, IsSound}
use Rattle.network.specs.Ways.{Ways}
use Rattle.network.specs.declared.command.Command.{Command}
use Rattle.play_report.specs.Reported.{Tells, NoCollision, EndsWellIf, Promises, events}
use Rattle.premises.specs.declared.journal.Journal.{Journal}
use Rattle.run_record.specs.declared.run_record.Ending.{Ending}
use Rattle.script_run.specs.Laws.{IsPremised, IsLegalIn, RecordsHaveSums, PlaysHaveSoundRecords, RacesHaveSoundRecords}
use Rattle.report_text.specs.Report.{record_from}
use Rattle.report_text.specs.declared.report.Judged.{Judged}
use Rattle.report_text.specs.declared.report.Load.{Load}
use Rattle.report_text.specs.declared.report.Report.{Report}
use Rattle.node_guarantees.specs.Endings.{ending_of}
use Rattle.node_guarantees.specs.Promised.{Pairwise}
use Rattle.network_rounds.specs.Players.{Player}
use Rattle.step_meanings.specs.Commands.{command_of}
use Rattle.script_play.specs.Play.{SceneOf}

pub have_sums : {P : Type 0} (ways : Ways P) → RecordsHaveSums ways
have_sums ways commands load r s tells legal = record { legal = legal; sums = tells.sums }

-- what follows of each person from what is premised of it holds of how each ended
each-ending : (Q : Ending → Type 0) (end : Journal → Ending) (If Premise : Journal → Judged → Type 0) → ((j : Journal) (p : Judged) → If j p → Premise j p → Q (end j))
    → (js : List Journal) (ps : List Judged) → Pairwise If js ps → Pairwise Premise js ps → All Q (map end js)
each-ending Q end If Premise step [] [] a b = All-nil Q
each-ending Q end If Premise step [] (p ∷ ps) a b = absurd a
each-ending Q end If Premise step (j ∷ js) [] a b = absurd a
each-ending Q end If Premise step (j ∷ js) (p ∷ ps) a b = All-cons Q (end j) (map end js) (step j p a.0 b.0) (each-ending Q end If Premise step js ps a.1 b.1)

module _ {P : Type 0} (ways : Ways P) (commands : ℕ → Option Command) (load : Option Load) (r : Report) (s : SceneOf P) (tells : Tells commands ways load r s) (keeps : Promises commands r)
    (legal : IsLegalIn r) (premised : IsPremised commands r) where
  abbrev end : Journal → Ending
  end j = ending_of r.history j.key (events commands j)

  abbrev Premise : Journal → Judged → Type 0
  Premise j p = (p.unforged ≡ true) × NoCollision commands r j

  pub sound : IsSound (record_from r)
  sound = record {
    legal = legal;
    sums = tells.sums;
    plans =
        subst (All (HasPlan r.history)) (sym tells.ends)
        (each-ending (HasPlan r.history) end (EndsWellIf commands r) Premise (λ j p well premise. (well premise.0 premise.1).plan) r.journals r.premises keeps.ends premised);
    shares =
        subst (All (HasShares r.history)) (sym tells.ends)
        (each-ending (HasShares r.history) end (EndsWellIf commands r) Premise (λ j p well premise. (well premise.0 premise.1).shares) r.journals r.premises keeps.ends premised);
  }

pub plays_sound : {P : Type 0} (ways : Ways P) → PlaysHaveSoundRecords ways
plays_sound ways load r steps played legal premised = sound ways (command_of steps) load r _ played.tells played.keeps legal premised

pub races_sound : {P : Type 0} (ways : Ways P) (cast : List Player) → RacesHaveSoundRecords ways cast
races_sound ways cast r steps raced legal premised = sound ways (command_of steps) _ r raced.race.scene raced.tells raced.keeps legal premised
