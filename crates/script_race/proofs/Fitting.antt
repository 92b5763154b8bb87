-- What a step means in a race fits it, and declares at most one person.
use Rattle.std.proofs.Common.{◌≡◌, ◌≤◌, ◌+◌, ℕ, zero, suc, true, false, length, refl, ◌∙◌, ap, arith, rules}
use Rattle.std.specs.Prelude.{Bool, Option, Some, None, unwrap_or}
use Rattle.network.specs.Ways.{Ways}
use Rattle.script_race.specs.Races.{RaceOf, RunsRounds, FitsRace, Does}
use Rattle.step_meanings.specs.Meanings.{Meaning, learning, joins_if, meant, meaning}
use Rattle.step_meanings.specs.declared.effect.Effect.{Effect}
use Rattle.step_meanings.specs.declared.effect.Effect.TheVariants.{Nothing, Enter, Join, Tell, Post, Lose, Catch, Rounds}
use Rattle.step_meanings.specs.declared.names.Names.{Names}
use Rattle.step_meanings.specs.People.{◌>>=◌}
use Rattle.script_play.proofs.Kept.{done_people}
use Rattle.script_play.proofs.Meant.{is_fresh}
use Rattle.script_play.specs.Play.{done}
use Rattle.script_steps.specs.Bounds.{Fits}
use Rattle.script_steps.specs.Conditions.{runs_in_race}
use Rattle.script_steps.specs.Digests.{fresh}
use Rattle.script_steps.specs.declared.step.PersonStep.{PersonStep}
use Rattle.script_steps.specs.declared.step.Step.{Step}
use Rattle.script_steps.specs.declared.step.Step.TheVariants as steps

abbrev FitsIf : Option Meaning → Type 0
FitsIf None = Unit {0}
FitsIf (Some m) = FitsRace m.effect

after : {A : Type 0} (o : Option A) (f : A → Option Meaning) → ((x : A) → FitsIf (f x)) → FitsIf (o >>= f)
after None f h = tt
after (Some x) f h = h x

whole : (n : Names) (o : Option Meaning) → FitsIf o → FitsRace (unwrap_or o (learning n)).effect
whole n None g = tt
whole n (Some m) g = g

person_fits : (n : Names) (k : PersonStep) → Fits (steps.Person k) → FitsRace (meaning n (steps.Person k)).effect
person_fits n k fit = by k.node fit.2
  where
    by : (node : Bool) → (node ≡ true → 1 ≤ k.watchers) → FitsRace (joins_if node (length n.people + 1) (fresh k.seed k.h) k.watchers)
    by true some = (is_fresh k.seed k.h fit.0, omega (arith, some refl), omega (arith, fit.1))
    by false some = tt

meant_fits : (n : Names) (step : Step) → Fits step → runs_in_race step ≡ true → FitsIf (meant n step)
meant_fits n (steps.Deposit k) fit may = search (rules, after)
meant_fits n (steps.Time to) fit may = absurd (cc)
meant_fits n (steps.Person k) fit may = person_fits n k fit
meant_fits n (steps.Channel k) fit may = search (rules, after)
meant_fits n (steps.Sign k) fit may = search (rules, after)
meant_fits n (steps.Catch k) fit may = search (rules, after)
meant_fits n (steps.Send to state) fit may = search (rules, after)
meant_fits n (steps.Drop to) fit may = search (rules, after)
meant_fits n (steps.Challenge k) fit may = search (rules, after)
meant_fits n (steps.Respond k) fit may = search (rules, after)
meant_fits n (steps.Refute channel next) fit may = search (rules, after)
meant_fits n (steps.Checkpoint channel chain) fit may = search (rules, after)
meant_fits n (steps.Conclude channel chain) fit may = search (rules, after)
meant_fits n (steps.Transfer k) fit may = search (rules, after)
meant_fits n (steps.Claim k) fit may = search (rules, after)
meant_fits n (steps.Open k) fit may = search (rules, after)
meant_fits n (steps.OpenOn k) fit may = search (rules, after)
meant_fits n (steps.OpenVirtual k) fit may = search (rules, after)
meant_fits n (steps.Pay k) fit may = search (rules, after)
meant_fits n (steps.Close who channel) fit may = search (rules, after)
meant_fits n (steps.Release how who channel) fit may = search (rules, after)
meant_fits n (steps.Resend who channel) fit may = search (rules, after)
meant_fits n (steps.Exit who) fit may = tt
meant_fits n (steps.Rounds count) fit may = tt

pub meaning_fits : (n : Names) (step : Step) → Fits step → runs_in_race step ≡ true → FitsRace (meaning n step).effect
meaning_fits n step fit may = whole n (meant n step) (meant_fits n step fit may)

-- ---- nobody is declared by what is done

module _ {P : Type 0} (ways : Ways P) where
  rounds_names : (count : ℕ) (s t : RaceOf P) → RunsRounds ways count s t → t.scene.names ≡ s.scene.names
  rounds_names zero s t e = ap (λ (r : RaceOf P). r.scene.names) e
  rounds_names (suc count) s t (mid, ran, last) = ap (λ (r : RaceOf P). r.scene.names) last.is ∙ rounds_names count s mid ran

  by_done : (step : ℕ) (effect : Effect) (s t : RaceOf P) → t ≡ record s { scene = done ways step s.scene effect } → length t.scene.names.people ≡ length s.scene.names.people
  by_done step effect s t e = ap (λ (r : RaceOf P). length r.scene.names.people) e ∙ ap length (done_people ways step s.scene effect)

  pub does_people : (step : ℕ) (effect : Effect) (s t : RaceOf P) → Does ways step effect s t → length t.scene.names.people ≡ length s.scene.names.people
  does_people step (Rounds count) s t e = ap (λ (n : Names). length n.people) (rounds_names count s t e)
  does_people step Nothing s t e = by_done step Nothing s t e
  does_people step (Enter op) s t e = by_done step (Enter op) s t e
  does_people step (Join number signer watchers) s t e = by_done step (Join number signer watchers) s t e
  does_people step (Tell numbers command) s t e = by_done step (Tell numbers command) s t e
  does_people step (Post to bytes) s t e = by_done step (Post to bytes) s t e
  does_people step (Lose to) s t e = by_done step (Lose to) s t e
  does_people step (Catch name number key channel turn) s t e = by_done step (Catch name number key channel turn) s t e
