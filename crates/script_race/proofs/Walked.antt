-- Whatever each happening and each round in threads keeps of a world, every race keeps.
use Rattle.std.proofs.Common.{◌≡◌, ℕ, ◌+◌, zero, suc, List, [], ◌∷◌, sym, ◌∙◌, ap, subst, arith}
use Rattle.std.proofs.lemmas.List.Elements.{All-head, All-tail}
use Rattle.std.specs.Prelude.{All, Option}
use Rattle.network.specs.Ways.{Ways}
use Rattle.network.specs.declared.command.Command.{Command}
use Rattle.network.specs.Worlds.{WorldOf}
use Rattle.script_play.proofs.Walked.{IsKept, done_kept, done_alike, and_alike, seen_kept}
use Rattle.script_race.specs.Races.{RaceOf, starting, RunsRound, RunsRounds, Does, Races, IsRaceOf}
use Rattle.network_rounds.specs.Players.{Player}
use Rattle.step_meanings.proofs.Commands.{AreAlike, MeanAlike, alike_self, meaning_alike}
use Rattle.step_meanings.specs.Commands.{command_in, command_behind, command_of}
use Rattle.step_meanings.specs.Meanings.{Meaning, meaning, nameless}
use Rattle.step_meanings.specs.declared.effect.Effect.{Effect}
use Rattle.step_meanings.specs.declared.effect.Effect.TheVariants.{Nothing, Enter, Join, Tell, Post, Lose, Catch, Rounds}
use Rattle.step_meanings.specs.declared.names.Names.{Names}
use Rattle.script_play.proofs.Meant.{meaning_grows}
use Rattle.script_play.specs.Growth.{FitsEffect}
use Rattle.script_play.specs.Play.{SceneOf, done, numbered}
use Rattle.script_steps.specs.Bounds.{Fits}
use Rattle.script_steps.specs.declared.step.Step.{Step}

module _ {P : Type 0} (ways : Ways P) (commands : ℕ → Option Command) (World : WorldOf P → Type 0) (kept : IsKept ways commands World)
    (round : (s t : RaceOf P) → RunsRound ways s t → World s.scene.world → World t.scene.world) where
  rounds_kept : (count : ℕ) (s t : RaceOf P) → RunsRounds ways count s t → World s.scene.world → World t.scene.world
  rounds_kept zero s t e is = subst (λ (x : RaceOf P). World x.scene.world) (sym e) is
  rounds_kept (suc count) s t (mid, ran, last) is = round mid t last (rounds_kept count s mid ran is)

  rounds_names : (count : ℕ) (s t : RaceOf P) → RunsRounds ways count s t → t.scene.names ≡ s.scene.names
  rounds_names zero s t e = ap (λ (x : RaceOf P). x.scene.names) e
  rounds_names (suc count) s t (mid, ran, last) = ap (λ (x : RaceOf P). x.scene.names) last.is ∙ rounds_names count s mid ran

  turned : (s t : RaceOf P) (scene : SceneOf P) → t ≡ record s { scene = scene } → World scene.world → World t.scene.world
  turned s t scene e is = subst (λ (x : RaceOf P). World x.scene.world) (sym e) is

  -- as in a run, but for rounds
  as_done : (number : ℕ) (s t : RaceOf P) (effect : Effect) → t ≡ record s { scene = done ways number s.scene effect } → FitsEffect effect → commands number ≡ command_in effect
      → World s.scene.world → World t.scene.world
  as_done number s t effect e fits of is = turned s t (done ways number s.scene effect) e (done_kept ways commands World kept number s.scene effect fits of is)

  does_kept : (number : ℕ) (effect : Effect) (s t : RaceOf P) → FitsEffect effect → commands number ≡ command_in effect → Does ways number effect s t
      → World s.scene.world → World t.scene.world
  does_kept number Nothing s t fits of e is = as_done number s t Nothing e fits of is
  does_kept number (Enter op) s t fits of e is = as_done number s t (Enter op) e fits of is
  does_kept number (Join who signer watchers) s t fits of e is = as_done number s t (Join who signer watchers) e fits of is
  does_kept number (Tell numbers command) s t fits of e is = as_done number s t (Tell numbers command) e fits of is
  does_kept number (Post to bytes) s t fits of e is = as_done number s t (Post to bytes) e fits of is
  does_kept number (Lose to) s t fits of e is = as_done number s t (Lose to) e fits of is
  does_kept number (Catch name who key channel turn) s t fits of e is = as_done number s t (Catch name who key channel turn) e fits of is
  does_kept number (Rounds count) s t fits of ran is = rounds_kept count s t ran is

  -- ---- what names stand for

  alike_done : (number : ℕ) (s t : RaceOf P) (effect : Effect) → t ≡ record s { scene = done ways number s.scene effect } → AreAlike t.scene.names s.scene.names
  alike_done number s t effect e = subst (λ (x : RaceOf P). AreAlike x.scene.names s.scene.names) (sym e) (done_alike ways commands World kept number s.scene effect)

  does_alike : (number : ℕ) (effect : Effect) (s t : RaceOf P) → Does ways number effect s t → AreAlike t.scene.names s.scene.names
  does_alike number Nothing s t e = alike_done number s t Nothing e
  does_alike number (Enter op) s t e = alike_done number s t (Enter op) e
  does_alike number (Join who signer watchers) s t e = alike_done number s t (Join who signer watchers) e
  does_alike number (Tell numbers command) s t e = alike_done number s t (Tell numbers command) e
  does_alike number (Post to bytes) s t e = alike_done number s t (Post to bytes) e
  does_alike number (Lose to) s t e = alike_done number s t (Lose to) e
  does_alike number (Catch name who key channel turn) s t e = alike_done number s t (Catch name who key channel turn) e
  does_alike number (Rounds count) s t ran = subst (λ (n : Names). AreAlike n s.scene.names) (sym (rounds_names count s t ran)) (alike_self s.scene.names)

  -- ---- steps

  races_kept : (number : ℕ) (steps : List Step) (s t : RaceOf P) (n : Names) → All Fits steps → AreAlike s.scene.names n
      → ((count : ℕ) → commands (number + count) ≡ command_behind n steps count) → Races ways (numbered number steps) s t → World s.scene.world → World t.scene.world
  races_kept number [] s t n fit same of e is = subst (λ (x : RaceOf P). World x.scene.world) (sym e) is
  races_kept number (x ∷ steps) s t n fit same of (mid, did, rest) is =
      let m : Meaning = meaning s.scene.names x in
      let grown = meaning_grows s.scene.names x (All-head Fits x steps fit) in
      let both : MeanAlike m (meaning n x) = meaning_alike s.scene.names n same x in
      let here : commands number ≡ command_in (meaning n x).effect = ap commands (sym (plus-zero number)) ∙ of 0 in
      let named : RaceOf P = record s { scene = record s.scene { names = m.names } } in
      races_kept (number + 1) steps mid t (meaning n x).names (All-tail Fits x steps fit)
      (and_alike ways commands World kept _ m.names (meaning n x).names (does_alike number m.effect named mid did) both.names)
      (λ count. ap commands (plus-one number count) ∙ of (suc count))
      rest (does_kept number m.effect named mid grown.fits (here ∙ sym both.command) did is)
    where
      plus-zero : (k : ℕ) → k + 0 ≡ k
      plus-zero k = omega arith

      plus-one : (k count : ℕ) → (k + 1) + count ≡ k + suc count
      plus-one k count = omega arith

-- a race keeps it, where the commands are those of its steps
pub races_keep : {P : Type 0} (ways : Ways P) (World : WorldOf P → Type 0) (steps : List Step) (cast : List Player) (t : RaceOf P) → IsKept ways (command_of steps) World
    → ((s t : RaceOf P) → RunsRound ways s t → World s.scene.world → World t.scene.world) → All Fits steps → IsRaceOf ways steps cast t → World t.scene.world
races_keep {P} ways World steps cast t kept round fit is =
    subst (λ (x : RaceOf P). World x.scene.world) (sym is.is)
    (seen_kept ways (command_of steps) World kept is.last.scene.names.people is.last.scene.world
    (races_kept ways (command_of steps) World kept round 1 steps (starting cast) is.last nameless fit (alike_self nameless) (λ count. ap (command_of steps) (one-plus count)) is.races kept.new))
  where
    one-plus : (count : ℕ) → 1 + count ≡ suc count
    one-plus count = omega arith
