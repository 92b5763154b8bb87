-- What a step means declares at most one person, and asks for no more entries than its weight.
use Rattle.std.proofs.Common.{◌≡◌, ℕ, ◌+◌, ◌*◌, ◌≤◌, true, false, List, [], ◌∷◌, ◌++◌, length, refl, sym, ◌∙◌, ap, arith, rules, length-append, inl, inr}
use Rattle.std.proofs.lemmas.Bool.{eqb-true}
use Rattle.std.proofs.lemmas.List.{length-set, length-take-le}
use Rattle.std.specs.Prelude.{Bool, ◌||◌, ◌==◌, IsTrue, Option, Some, None, unwrap_or}
use Rattle.std.specs.List.{position_or_len}
use Rattle.channel_values.proofs.Found.{put_found}
use Rattle.sha2.proofs.Facts256.{length-sha256}
use Rattle.sha2.specs.Sha256.{sha256}
use Rattle.lms_signatures.specs.Signing.{IsHeight}
use Rattle.network.specs.Histories.{IsFresh}
use Rattle.script_steps.specs.Digests.{id_of, fresh}
use Rattle.script_steps.specs.Bounds.{Fits, persons}
use Rattle.script_play.specs.Growth.{FitsEffect, effect_weight, weight}
use Rattle.call_history.specs.declared.call.Op.{Op}
use Rattle.call_history.specs.declared.call.Op.TheVariants as ops
use Rattle.network.specs.declared.command.Command.{Command}
use Rattle.step_meanings.specs.declared.effect.Effect.TheVariants.{Enter, Tell, Post, Lose, Catch, Rounds}
use Rattle.step_meanings.specs.Meanings.{Meaning, learning, doing, with_person, joins_if, meant, meaning}
use Rattle.step_meanings.specs.Names.{sign_challenge}
use Rattle.step_meanings.specs.People.{◌>>=◌, SignedBy, has_name, person_by, signature_of, used_once, replaced, sign}
use Rattle.step_meanings.specs.declared.chains.NamedState.{NamedState}
use Rattle.step_meanings.specs.declared.names.Names.{Names}
use Rattle.step_meanings.specs.declared.people.Person.{Person}
use Rattle.script_steps.specs.declared.step.PersonStep.{PersonStep}
use Rattle.script_steps.specs.declared.step.Step.{Step}
use Rattle.script_steps.specs.declared.step.Step.TheVariants as steps
use Rattle.channel_values.specs.Parts.{FixedParts}
use Rattle.script_play.specs.Rounds.{most_in_round}

-- ---- who signs stays

abbrev KeepsPeople : List Person → Option SignedBy → Type 0
KeepsPeople people None = Unit {0}
KeepsPeople people (Some s) = length s.people ≡ length people

keeps_after : {A : Type 0} (people : List Person) (o : Option A) (f : A → Option SignedBy) → ((x : A) → KeepsPeople people (f x)) → KeepsPeople people (o >>= f)
keeps_after people None f h = tt
keeps_after people (Some x) f h = h x

replaced_keeps : (people : List Person) (name : List ℕ) (p q : Person) → person_by people name ≡ Some p → length (replaced people name q) ≡ length people
replaced_keeps people name p q e =
    ap length (sym (put_found (has_name name) people p q e)) ∙ length-set people (position_or_len (has_name name) people) q

sign_keeps : (people : List Person) (name message : List ℕ) → KeepsPeople people (sign people name message)
sign_keeps people name message = by (person_by people name) refl
  where
    by : (o : Option Person) → person_by people name ≡ o
        → KeepsPeople people (o >>= λ p. p.hand >>= λ hand. signature_of hand message >>= λ s. Some (record { signature = s; people = replaced people name (used_once p hand) }))
    by None e = tt
    by (Some p) e = keeps_after people p.hand _ (λ hand. keeps_after people (signature_of hand message) _ (λ s. replaced_keeps people name p (used_once p hand) e))

challenge_keeps : (people : List Person) (by : List ℕ) (f : FixedParts) (states : List NamedState) (who : ℕ) → KeepsPeople people (sign_challenge people by f states who)
challenge_keeps people by f [] who = refl
challenge_keeps people by f (last ∷ earlier) who = sign_keeps people by _

-- ---- who joins

pub id_long : (seed : List ℕ) → length (id_of seed) ≡ 16
unfolding id_of
id_long seed = length-take-le 16 (sha256 (seed ++ 0x49 ∷ [])) (omega (arith, length-sha256 (seed ++ 0x49 ∷ [])))

five_or_ten : (h : ℕ) → (h == 5 || h == 10) ≡ true → IsHeight h
five_or_ten h e = by (h == 5) refl (h == 10) refl e
  where
    by : (a : Bool) → (h == 5) ≡ a → (b : Bool) → (h == 10) ≡ b → (a || b) ≡ true → IsHeight h
    by true t b u e = inl (eqb-true h 5 t)
    by false t true u e = inr (inl (eqb-true h 10 u))
    by false t false u e = absurd (cc)

pub is_fresh : (seed : List ℕ) (h : ℕ) → IsTrue (h == 5 || h == 10) → IsFresh (fresh seed h)
is_fresh seed h able = record { id = id_long seed; height = five_or_ten h able; unused = refl }

-- ---- growth

-- at most so many people and entries more
pub record Grows (n : Names) (people entries : ℕ) (m : Meaning) : Type 0 where
  pub few : length m.names.people ≤ length n.people + people
  pub light : effect_weight m.effect ≤ entries
  pub fits : FitsEffect m.effect

abbrev GrowsIf : Names → ℕ → ℕ → Option Meaning → Type 0
GrowsIf n people entries None = Unit {0}
GrowsIf n people entries (Some m) = Grows n people entries m

after : {A : Type 0} (n : Names) (p w : ℕ) (o : Option A) (f : A → Option Meaning) → ((x : A) → GrowsIf n p w (f x)) → GrowsIf n p w (o >>= f)
after n p w None f h = tt
after n p w (Some x) f h = h x

after_signed : (n : Names) (p w : ℕ) (o : Option SignedBy) (f : SignedBy → Option Meaning) → KeepsPeople n.people o → ((s : SignedBy) → length s.people ≡ length n.people → GrowsIf n p w (f s)) → GrowsIf n p w (o >>= f)
after_signed n p w None f k h = tt
after_signed n p w (Some s) f k h = h s k

whole : (n : Names) (p w : ℕ) (o : Option Meaning) → GrowsIf n p w o → Grows n p w (unwrap_or o (learning n))
whole n p w None g = record { few = omega (arith); light = omega (arith); fits = tt }
whole n p w (Some m) g = g

one_more : (people : List Person) (p : Person) → length (people ++ p ∷ []) ≤ length people + 1
one_more people p = omega (arith, length-append people (p ∷ []))

nothing : (n n' : Names) → length n'.people ≡ length n.people → Grows n 0 1 (learning n')
nothing n n' same = record { few = omega (arith, same); light = omega (arith); fits = tt }

enters : (n n' : Names) (op : Op) → length n'.people ≡ length n.people → Grows n 0 1 (doing n' (Enter op))
enters n n' op same = record { few = omega (arith, same); light = omega (arith); fits = tt }

tells : (n : Names) (numbers : List ℕ) (command : Command) → Grows n 0 1 (doing n (Tell numbers command))
tells n numbers command = record { few = omega (arith); light = omega (arith); fits = tt }

posts : (n : Names) (to bytes : List ℕ) → Grows n 0 1 (doing n (Post to bytes))
posts n to bytes = record { few = omega (arith); light = omega (arith); fits = tt }

loses : (n : Names) (to : List ℕ) → Grows n 0 1 (doing n (Lose to))
loses n to = record { few = omega (arith); light = omega (arith); fits = tt }

catches : (n : Names) (name : List ℕ) (number : ℕ) (key channel : List ℕ) (turn : ℕ) → Grows n 0 1 (doing n (Catch name number key channel turn))
catches n name number key channel turn = record { few = omega (arith); light = omega (arith); fits = tt }

plays : (n : Names) (count : ℕ) → Grows n 0 (count * most_in_round) (doing n (Rounds count))
plays n count = record { few = omega (arith); light = omega (arith); fits = tt }

person_grows : (n : Names) (k : PersonStep) → Fits (steps.Person k) → Grows n 1 1 (meaning n (steps.Person k))
person_grows n k fit = by k.node
  where
    by : (node : Bool) → Grows n 1 1 (doing (with_person n k.name k.seed k.h k.node) (joins_if node (length n.people + 1) (fresh k.seed k.h) k.watchers))
    by true = record { few = one_more n.people _; light = omega (arith); fits = is_fresh k.seed k.h fit.0 }
    by false = record { few = one_more n.people _; light = omega (arith); fits = tt }

meant_grows : (n : Names) (step : Step) → Fits step → GrowsIf n (persons step) (weight step) (meant n step)
meant_grows n (steps.Deposit k) fit = search (rules, after, enters)
meant_grows n (steps.Time to) fit = enters n n (ops.Time to) refl
meant_grows n (steps.Person k) fit = person_grows n k fit
meant_grows n (steps.Channel k) fit = search (rules, after, nothing)
meant_grows n (steps.Sign k) fit = search (rules, after, after_signed, sign_keeps, nothing)
meant_grows n (steps.Catch k) fit = search (rules, after, catches)
meant_grows n (steps.Send to state) fit = search (rules, after, posts)
meant_grows n (steps.Drop to) fit = search (rules, after, loses)
meant_grows n (steps.Challenge k) fit = search (rules, after, after_signed, challenge_keeps, enters)
meant_grows n (steps.Respond k) fit = search (rules, after, enters)
meant_grows n (steps.Refute channel next) fit = search (rules, after, enters)
meant_grows n (steps.Checkpoint channel chain) fit = search (rules, after, enters)
meant_grows n (steps.Conclude channel chain) fit = search (rules, after, enters)
meant_grows n (steps.Transfer k) fit = search (rules, after, enters)
meant_grows n (steps.Claim k) fit = search (rules, after, enters)
meant_grows n (steps.Open k) fit = search (rules, after, tells)
meant_grows n (steps.OpenOn k) fit = search (rules, after, tells)
meant_grows n (steps.OpenVirtual k) fit = search (rules, after, tells)
meant_grows n (steps.Pay k) fit = search (rules, after, tells)
meant_grows n (steps.Close who channel) fit = search (rules, after, tells)
meant_grows n (steps.Release how who channel) fit = search (rules, after, tells)
meant_grows n (steps.Resend who channel) fit = search (rules, after, tells)
meant_grows n (steps.Exit who) fit = tells n _ _
meant_grows n (steps.Rounds count) fit = plays n count

pub meaning_grows : (n : Names) (step : Step) → Fits step → Grows n (persons step) (weight step) (meaning n step)
meaning_grows n step fit = whole n (persons step) (weight step) (meant n step) (meant_grows n step fit)
