-- A sound script ends as done, in a run and in a race whose history isn't full, and so does a load.
use Rattle.std.proofs.Common.{◌≡◌, ◌⊎◌, inl, inr, ℕ, ◌<◌, Bool, true, false, List, length, Option, Some, None, refl, arith, subst}
use Rattle.std.specs.Prelude.{IfSome}
use Rattle.script_reader.specs.Script.{Breaks}
use Rattle.script_reader.specs.step.Rule.{Rule}
use Rattle.script_reader.proofs.OneReading.{script_breaks_none}
use Rattle.byte_streams.specs.OutsideSource.{Rose}
use Rattle.byte_streams.proofs.Known.{all_taken, no_more_taken}
use Rattle.network_rounds.specs.Players.{Player}
use Rattle.script_run.specs.Run.{Given, wanted, play, Plays, Takes, Reads, TellsScript, HasScript, IsRunnable, IsFullRace, IsToldOf, EndsAs}
use Rattle.script_run.specs.declared.run.Status.{Status}
use Rattle.script_run.specs.declared.run.Status.TheVariants.{Done, NoMemory, Usage, Script, ReadFault, WriteFault, TooLong, Full}
use Rattle.command_words.specs.declared.asking.Asked.{Asked}
use Rattle.report_text.specs.declared.report.Report.{Report}
use Rattle.network.specs.Ways.{Ways}

-- words ask for one thing
same_request : (o : Option Asked) (p a : Asked) → o ≡ Some p → o ≡ Some a → a ≡ p
same_request o p a x y = cc

-- the script that is there
script_told : (race : Bool) (g : Given) → HasScript (play race) g → TellsScript race g
script_told true g s = s
script_told false g s = s

script_of : (g : Given) (a : Asked) (race : Bool) → wanted g.words ≡ Some (play race) → wanted g.words ≡ Some a → HasScript a g → TellsScript race g
script_of g a race asks some s = script_told race g (subst (λ (b : Asked). HasScript b g) (same_request (wanted g.words) (play race) a asks some) s)

not_broken : (g : Given) (step : ℕ) (rule : Rule) (a : Asked) → Plays g (λ race. Reads g (Breaks race step rule)) → wanted g.words ≡ Some a → HasScript a g → ⊥
not_broken g step rule a (race, asks, reads) some s =
    let told = script_of g a race asks some s in
    let taken = all_taken g.before g.after told.bytes reads.0 told.told reads.1 reads.2 in
    script_breaks_none race step rule told.bytes told.steps told.script (subst (Breaks race step rule) taken reads.4)

not_faulty : (g : Given) (a : Asked) (race : Bool) → wanted g.words ≡ Some (play race) → Rose g.faults_before g.faults_after → wanted g.words ≡ Some a → HasScript a g → ⊥
not_faulty g a race asks rose some s = let told = script_of g a race asks some s in told.faultless rose

not_long : (g : Given) (a : Asked) → Plays g (λ race. Takes g (λ bytes. 4194304 < length bytes)) → wanted g.words ≡ Some a → HasScript a g → ⊥
not_long g a (race, asks, takes) some s =
    let told = script_of g a race asks some s in
    let most = no_more_taken g.before g.after told.bytes takes.0 told.told takes.1 in
    omega (arith, most, told.short, takes.2)

none_or_some : {A : Type 0} (o : Option A) (x : A) → o ≡ None → o ≡ Some x → ⊥
none_or_some o x a b = cc

pub completes : {P : Type 0} (ways : Ways P) (cast : List Player) (g : Given) (status : Status) (report : Option Report) → EndsAs ways cast g status report → IsRunnable g
    → (status ≡ Done) ⊎ IsFullRace g status
completes ways cast g Done report e s = inl refl
completes ways cast g NoMemory report e s = absurd e
completes ways cast g Usage None e s = absurd (none_or_some (wanted g.words) s.0 e.0 s.1)
completes ways cast g Usage (Some r) e s = absurd e
completes ways cast g (Script step rule) None e s = absurd (not_broken g step rule s.0 e s.1 s.2)
completes ways cast g (Script step rule) (Some r) e s = absurd e
completes ways cast g ReadFault None e s = absurd (not_faulty g s.0 e.0 e.1 e.2.1 s.1 s.2)
completes ways cast g ReadFault (Some r) e s = absurd e
completes ways cast g WriteFault report e s = absurd e
completes ways cast g TooLong None e s = absurd (not_long g s.0 e s.1 s.2)
completes ways cast g TooLong (Some r) e s = absurd e
completes ways cast g Full None e s = inr (refl, e.0)
completes ways cast g Full (Some r) e s = absurd e

-- a report comes with an end alone that shows it
pub is_told : {P : Type 0} (ways : Ways P) (cast : List Player) (g : Given) (status : Status) (report : Option Report) → EndsAs ways cast g status report → IfSome report (IsToldOf ways cast g)
is_told ways cast g Done (Some r) e = e
is_told ways cast g Done None e = tt
is_told ways cast g NoMemory (Some r) e = absurd e
is_told ways cast g NoMemory None e = tt
is_told ways cast g Usage (Some r) e = absurd e
is_told ways cast g Usage None e = tt
is_told ways cast g (Script step rule) (Some r) e = absurd e
is_told ways cast g (Script step rule) None e = tt
is_told ways cast g ReadFault (Some r) e = absurd e
is_told ways cast g ReadFault None e = tt
is_told ways cast g WriteFault (Some r) e = absurd e
is_told ways cast g WriteFault None e = tt
is_told ways cast g TooLong (Some r) e = absurd e
is_told ways cast g TooLong None e = tt
is_told ways cast g Full (Some r) e = absurd e
is_told ways cast g Full None e = tt
