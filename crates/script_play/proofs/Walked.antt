-- Whatever each happening keeps of a world, every play keeps.
use Rattle.std.proofs.Common.{◌≡◌, ℕ, ◌+◌, zero, suc, Bool, true, false, List, [], ◌∷◌, ◌++◌, fold, refl, sym, ◌∙◌, ap, subst, arith}
use Rattle.std.proofs.lemmas.List.Elements.{All-head, All-tail}
use Rattle.std.specs.Prelude.{All, cond, Option, Some, None}
use Rattle.call_history.specs.declared.call.Call.{Call}
use Rattle.call_history.specs.declared.call.Op.{Op}
use Rattle.call_history.specs.declared.call.Op.TheVariants as ops
use Rattle.lms_signatures.specs.Signing.{Signing}
use Rattle.network.specs.Ways.{Ways}
use Rattle.network.specs.Histories.{IsFresh}
use Rattle.network.specs.declared.command.Command.{Command}
use Rattle.network.specs.Worlds.{WorldOf, new_world, happened, given, joined}
use Rattle.network.specs.declared.happening.Happening.{Happening}
use Rattle.network.specs.declared.happening.Happening.TheVariants as happenings
use Rattle.step_meanings.proofs.Commands.{AreAlike, MeanAlike, alike_self, meaning_alike}
use Rattle.script_play.proofs.Meant.{meaning_grows}
use Rattle.step_meanings.specs.Commands.{command_in, command_behind, command_of}
use Rattle.script_play.specs.Growth.{FitsEffect}
use Rattle.step_meanings.specs.Meanings.{Meaning, meaning, nameless}
use Rattle.step_meanings.specs.People.{who_of}
use Rattle.script_play.specs.Play.{SceneOf, entering, play_round, play_rounds, told, done, naming, caught, played, empty, numbered, play_steps, play}
use Rattle.script_play.specs.Rounds.{Letter, Mailed, handed, entered_by, with_calls, node_acted, acted, looked, watched, seen_by}
use Rattle.step_meanings.specs.declared.effect.Effect.{Effect}
use Rattle.step_meanings.specs.declared.effect.Effect.TheVariants.{Nothing, Enter, Join, Tell, Post, Lose, Catch, Rounds}
use Rattle.step_meanings.specs.declared.names.Names.{Names}
use Rattle.step_meanings.specs.declared.people.Person.{Person}
use Rattle.channel_values.specs.declared.chain.Signed.{Signed}
use Rattle.script_steps.specs.Bounds.{Fits}
use Rattle.script_steps.specs.declared.step.Step.{Step}
use Rattle.network.specs.Commanded.{IsOfStep}

-- what each happening keeps, where a command is that of its step, and each node that joins
pub record IsKept {P : Type 0} (ways : Ways P) (commands : ℕ → Option Command) (World : WorldOf P → Type 0) : Type 0 where
  pub new : World new_world
  pub happens : (w : WorldOf P) (event : Happening) → IsOfStep commands event → World w → World (happened ways event w)
  pub joins : (number : ℕ) (signer : Signing) (watchers : ℕ) (w : WorldOf P) → IsFresh signer → World w → World (joined ways number signer watchers w)

module _ {P : Type 0} (ways : Ways P) (commands : ℕ → Option Command) (World : WorldOf P → Type 0) (kept : IsKept ways commands World) where
  pub calls_kept : (by : ℕ) (calls : List Call) (w : WorldOf P) → World w → World (fold (entered_by ways by) w calls)
  calls_kept by [] w is = is
  calls_kept by (call ∷ calls) w is = calls_kept by calls (entered_by ways by w call) (kept.happens w (happenings.Enter by call) tt is)

  with_kept : (number : ℕ) (event : Happening) (w : WorldOf P) → IsOfStep commands event → World w → World (with_calls ways number event w)
  with_kept number event w of is = calls_kept number (given ways event w).calls (happened ways event w) (kept.happens w event of is)

  handed_if : (number : ℕ) (w : WorldOf P) (bytes : List ℕ) (b : Bool) → World w → World (cond b (happened ways (happenings.Deliver number bytes) w) w)
  handed_if number w bytes true is = kept.happens w (happenings.Deliver number bytes) tt is
  handed_if number w bytes false is = is

  letters_kept : (number : ℕ) (who : List ℕ) (post : List Letter) (w : WorldOf P) → World w → World (fold (handed ways number who) w post)
  letters_kept number who [] w is = is
  letters_kept number who (letter ∷ post) w is = letters_kept number who post (handed ways number who w letter) (handed_if number w letter.1 _ is)

  acted_if : (post : List Letter) (s : Mailed P) (p : Person) (b : Bool) → World s.world → World (cond b (node_acted ways post s p) s).world
  acted_if post s p true is = with_kept p.number (happenings.Tick p.number) _ tt (letters_kept p.number (who_of p) post _ (kept.happens s.world (happenings.See p.number) tt is))
  acted_if post s p false is = is

  first_kept : (post : List Letter) (people : List Person) (s : Mailed P) → World s.world → World (fold (acted ways post) s people).world
  first_kept post [] s is = is
  first_kept post (p ∷ people) s is = first_kept post people (acted ways post s p) (acted_if post s p _ is)

  looked_kept : (number count : ℕ) (w : WorldOf P) → World w → World (looked ways number count w)
  looked_kept number zero w is = is
  looked_kept number (suc count) w is = with_kept number (happenings.Watch number count) _ tt (looked_kept number count w is)

  watched_if : (w : WorldOf P) (p : Person) (b : Bool) → World w → World (cond b (looked ways p.number 4 w) w)
  watched_if w p true is = looked_kept p.number 4 w is
  watched_if w p false is = is

  second_kept : (people : List Person) (w : WorldOf P) → World w → World (fold (watched ways) w people)
  second_kept [] w is = is
  second_kept (p ∷ people) w is = second_kept people (watched ways w p) (watched_if w p _ is)

  rounds_kept : (count : ℕ) (s : SceneOf P) → World s.world → World (play_rounds ways count s).world
  rounds_kept zero s is = is
  rounds_kept (suc count) s is =
      let before = play_rounds ways count s in
      second_kept before.names.people _ (first_kept before.post before.names.people _ (rounds_kept count s is))

  pub told_kept : (number : ℕ) (command : Command) (numbers : List ℕ) (s : SceneOf P) → commands number ≡ Some command → World s.world → World (fold (told ways number command) s numbers).world
  told_kept number command [] s of is = is
  told_kept number command (who ∷ numbers) s of is =
      told_kept number command numbers (told ways number command s who) of
      (kept.happens _ (happenings.Command who number command) of (kept.happens s.world (happenings.See who) tt is))

  entering_free : (op : Op) → IsOfStep commands (entering op)
  entering_free (ops.Call call) = tt
  entering_free (ops.Time to) = tt

  pub done_kept : (number : ℕ) (s : SceneOf P) (effect : Effect) → FitsEffect effect → commands number ≡ command_in effect → World s.world → World (done ways number s effect).world
  done_kept number s Nothing fits of is = is
  done_kept number s (Enter op) fits of is = kept.happens s.world (entering op) (entering_free op) is
  done_kept number s (Join who signer watchers) fits of is = kept.joins who signer watchers s.world fits is
  done_kept number s (Tell numbers command) fits of is = told_kept number command numbers s of is
  done_kept number s (Post to bytes) fits of is = is
  done_kept number s (Lose to) fits of is = is
  done_kept number s (Catch name who key channel turn) fits of is = is
  done_kept number s (Rounds count) fits of is = rounds_kept count s is

  -- ---- what names stand for

  pub naming_alike : (n : Names) (name key channel : List ℕ) (o : Option Signed) → AreAlike (naming n name key channel o) n
  naming_alike n name key channel None = alike_self n
  naming_alike n name key channel (Some s) = record { people = refl; channels = refl }

  rounds_alike : (count : ℕ) (s : SceneOf P) → AreAlike (play_rounds ways count s).names s.names
  rounds_alike zero s = alike_self s.names
  rounds_alike (suc count) s = rounds_alike count s

  pub told_alike : (number : ℕ) (command : Command) (numbers : List ℕ) (s : SceneOf P) → AreAlike (fold (told ways number command) s numbers).names s.names
  told_alike number command [] s = alike_self s.names
  told_alike number command (who ∷ numbers) s = told_alike number command numbers (told ways number command s who)

  pub done_alike : (number : ℕ) (s : SceneOf P) (effect : Effect) → AreAlike (done ways number s effect).names s.names
  done_alike number s Nothing = alike_self s.names
  done_alike number s (Enter op) = alike_self s.names
  done_alike number s (Join who signer watchers) = alike_self s.names
  done_alike number s (Tell numbers command) = told_alike number command numbers s
  done_alike number s (Post to bytes) = alike_self s.names
  done_alike number s (Lose to) = alike_self s.names
  done_alike number s (Catch name who key channel turn) = naming_alike s.names name key channel _
  done_alike number s (Rounds count) = rounds_alike count s

  pub and_alike : (a b c : Names) → AreAlike a b → AreAlike b c → AreAlike a c
  and_alike a b c x y = record { people = x.people ∙ y.people; channels = x.channels ∙ y.channels }

  -- ---- steps

  steps_kept : (number : ℕ) (steps : List Step) (s : SceneOf P) (n : Names) → All Fits steps → AreAlike s.names n
      → ((count : ℕ) → commands (number + count) ≡ command_behind n steps count) → World s.world → World (fold (played ways) s (numbered number steps)).world
  steps_kept number [] s n fit same of is = is
  steps_kept number (x ∷ steps) s n fit same of is =
      let m : Meaning = meaning s.names x in
      let grown = meaning_grows s.names x (All-head Fits x steps fit) in
      let both : MeanAlike m (meaning n x) = meaning_alike s.names n same x in
      let here : commands number ≡ command_in (meaning n x).effect = ap commands (sym (plus-zero number)) ∙ of 0 in
      steps_kept (number + 1) steps (played ways s (number, x)) (meaning n x).names (All-tail Fits x steps fit)
      (and_alike _ m.names (meaning n x).names (done_alike number (record s { names = m.names }) m.effect) both.names)
      (λ count. ap commands (plus-one number count) ∙ of (suc count))
      (done_kept number (record s { names = m.names }) m.effect grown.fits (here ∙ sym both.command) is)
    where
      plus-zero : (k : ℕ) → k + 0 ≡ k
      plus-zero k = omega arith

      plus-one : (k count : ℕ) → (k + 1) + count ≡ k + suc count
      plus-one k count = omega arith

  pub seen_kept : (people : List Person) (w : WorldOf P) → World w → World (fold (seen_by ways) w people)
  seen_kept [] w is = is
  seen_kept (p ∷ people) w is = seen_kept people (seen_by ways w p) (kept.happens w (happenings.See p.number) tt is)

-- a play keeps it, where the commands are those of its steps
pub play_keeps : {P : Type 0} (ways : Ways P) (World : WorldOf P → Type 0) (steps : List Step) → IsKept ways (command_of steps) World → All Fits steps
    → World (play ways steps).world
play_keeps ways World steps kept fit =
    seen_kept ways (command_of steps) World kept (play_steps ways steps).names.people (play_steps ways steps).world
    (steps_kept ways (command_of steps) World kept 1 steps empty nameless fit (alike_self nameless) (λ count. ap (command_of steps) (one-plus count)) kept.new)
  where
    one-plus : (count : ℕ) → 1 + count ≡ suc count
    one-plus count = omega arith
