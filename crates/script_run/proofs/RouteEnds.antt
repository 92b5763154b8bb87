-- Why a hop ends as it does.
use Rattle.std.proofs.Common.{◌≡◌, ℕ, List, Bool, true, false, cond, Option, Some, None, refl, ap, sym, ◌∙◌, subst}
use Rattle.std.specs.Prelude.{IfSome}
use Rattle.script_run.specs.Routes.{EndsAs, IsToldOf, asked, route_text, status_of, wanted}
use Rattle.hop_script.specs.Hop.{are_apart, hop_steps}
use Rattle.hop_script.specs.declared.ending.Ending.{Ending}
use Rattle.network.specs.Ways.{Ways}
use Rattle.play_report.specs.Reported.{IsPlayed}
use Rattle.report_text.specs.declared.report.Report.{Report}
use Rattle.script_run.specs.declared.run.Status.{Status}
use Rattle.script_run.specs.declared.run.Status.TheVariants.{Done, NoMemory, Usage, Script, ReadFault, WriteFault, TooLong, Full}
use Rattle.script_reader.specs.step.Step.{Step}

-- ---- what is wanted of what is asked for

so-if : (words : List (List ℕ)) (t : Bool) → are_apart ≡ t → wanted words ≡ cond t (asked words) None
so-if words t e = ap (λ (b : Bool). cond b (asked words) None) e

pub wanted_none : (words : List (List ℕ)) → are_apart ≡ false → wanted words ≡ None
wanted_none words e = so-if words false e

none-either : (o : Option (Ending × ℕ)) (t : Bool) → o ≡ None → cond t o None ≡ None
none-either o true e = e
none-either o false e = refl

pub nothing_wanted : (words : List (List ℕ)) → asked words ≡ None → wanted words ≡ None
nothing_wanted words e = none-either (asked words) are_apart e

module _ {P : Type 0} (ways : Ways P) where
  pub ends_played : (words : List (List ℕ)) (ending : Ending) (count : ℕ) (report : Report) (steps : List Step) (text : List ℕ)
      → asked words ≡ Some (ending, count) → are_apart ≡ true → steps ≡ hop_steps ending count → IsPlayed ways None report steps
      → text ≡ route_text ending count report → EndsAs ways words Done (Some report) text
  ends_played words ending count report steps text asks apart is played told =
      ((ending, count), so-if words true apart ∙ asks, subst (IsPlayed ways None report) is played, told)

  -- ---- what an end says

  pub ends_as : (words : List (List ℕ)) (status : Status) (report : Option Report) (text : List ℕ) → EndsAs ways words status report text → status ≡ status_of (wanted words)
  ends_as words Done (Some report) text e = sym (ap status_of e.1)
  ends_as words Done None text e = absurd e
  ends_as words Usage None text e = sym (ap status_of e.0)
  ends_as words Usage (Some report) text e = absurd e
  ends_as words NoMemory report text e = absurd e
  ends_as words (Script step rule) report text e = absurd e
  ends_as words ReadFault report text e = absurd e
  ends_as words WriteFault report text e = absurd e
  ends_as words TooLong report text e = absurd e
  ends_as words Full report text e = absurd e

  -- a report comes with an end alone that shows it
  pub is_told : (words : List (List ℕ)) (status : Status) (report : Option Report) (text : List ℕ) → EndsAs ways words status report text → IfSome report (IsToldOf ways words)
  is_told words Done (Some report) text e = (e.0, e.1, e.2)
  is_told words Done None text e = tt
  is_told words Usage None text e = tt
  is_told words Usage (Some report) text e = absurd e
  is_told words NoMemory (Some report) text e = absurd e
  is_told words NoMemory None text e = tt
  is_told words (Script step rule) (Some report) text e = absurd e
  is_told words (Script step rule) None text e = tt
  is_told words ReadFault (Some report) text e = absurd e
  is_told words ReadFault None text e = tt
  is_told words WriteFault (Some report) text e = absurd e
  is_told words WriteFault None text e = tt
  is_told words TooLong (Some report) text e = absurd e
  is_told words TooLong None text e = tt
  is_told words Full (Some report) text e = absurd e
  is_told words Full None text e = tt
