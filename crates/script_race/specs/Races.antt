-- What the steps of a script do in a race, over nodes whose rules are given. It is as in a run, except that a round
-- is any that its threads make, beside a cast, and that a time follows it.
use Rattle.std.specs.Prelude.{◌≡◌, ℕ, zero, suc, ◌+◌, ◌<◌, ◌^◌, List, [], ◌∷◌, ◌++◌, length, reverse}
use Rattle.call_history.specs.History.{newest_first, now_of}
use Rattle.call_history.specs.declared.call.Op.TheVariants as ops
use Rattle.call_history.specs.declared.entry.Entry.{Entry}
use Rattle.network.specs.Histories.{IsFresh}
use Rattle.network.specs.Ways.{Ways}
use Rattle.network.specs.Entered.{oldest_first}
use Rattle.network.specs.Worlds.{happened}
use Rattle.network.specs.declared.happening.Happening.TheVariants as happenings
use Rattle.network_rounds.specs.Races.{Stage}
use Rattle.network_rounds.specs.Told.{Round}
use Rattle.network_rounds.specs.Players.{Player}
use Rattle.network_rounds.specs.Rounds.{CrewOf}
use Rattle.step_meanings.specs.Meanings.{Meaning, meaning}
use Rattle.step_meanings.specs.declared.effect.Effect.{Effect}
use Rattle.step_meanings.specs.declared.effect.Effect.TheVariants.{Enter, Join, Rounds}
use Rattle.script_play.specs.Play.{SceneOf, empty, numbered, done, at_end}
use Rattle.script_steps.specs.declared.step.Step.{Step}

-- What a race has come to: as a run, with the actors of the cast beside the nodes.
pub record RaceOf (P : Type 0) : Type 0 where
  pub scene : SceneOf P
  pub cast : List Player

-- nothing is declared, and nothing happened
abbrev pub starting : {P : Type 0} → List Player → RaceOf P
starting cast = record { scene = empty; cast = cast }

-- those who take part in a round, and the messages on their way
abbrev pub crew_of : {P : Type 0} → RaceOf P → CrewOf P
crew_of s = record { nodes = s.scene.world.members; cast = s.cast; post = s.scene.post }

-- the stage of a race, as the laws of races have it
abbrev pub stage_of : {P : Type 0} → RaceOf P → Stage P
stage_of s = record { crew = crew_of s; seen = oldest_first s.scene.world.history; ends = reverse s.scene.rounds }

-- a race doesn't set the time, and a node joins with a signer that has not signed, and with watchers
abbrev pub FitsRace : Effect → Type 0
FitsRace (Enter (ops.Time to)) = ⊥
FitsRace (Join number signer watchers) = IsFresh signer × (0 < watchers) × (watchers < 2 ^ 32)
FitsRace effect = Unit {0}

module _ {P : Type 0} (ways : Ways P) where
  -- after a round that left this crew and these entries, in the order of time, the time of now + 1 is entered
  abbrev pub timed : SceneOf P → CrewOf P → List Entry → SceneOf P
  timed s crew later =
      record s {
        world = happened ways (happenings.Time (now_of (newest_first later) + 1)) (record s.world { history = newest_first later; members = crew.nodes });
        post = crew.post;
        rounds = s.rounds ++ length later ∷ [];
      }

  -- A round in threads. The history has room.
  pub record RunsRound (s t : RaceOf P) : Type 0 where
    pub crew : CrewOf P
    pub later : List Entry
    pub round : Round ways (crew_of s) crew (oldest_first s.scene.world.history) later
    pub few : length later < 2 ^ 32
    pub is : t ≡ record { scene = timed s.scene crew later; cast = crew.cast }

  abbrev pub RunsRounds : ℕ → RaceOf P → RaceOf P → Type 0
  RunsRounds zero s t = t ≡ s
  RunsRounds (suc count) s t = (mid : RaceOf P) × RunsRounds count s mid × RunsRound mid t

  -- What is done by the step of this number: rounds, or what a run does.
  abbrev pub Does : ℕ → Effect → RaceOf P → RaceOf P → Type 0
  Does step (Rounds count) s t = RunsRounds count s t
  Does step effect s t = t ≡ record s { scene = done ways step s.scene effect }

  abbrev pub DoesAs : ℕ → Meaning → RaceOf P → RaceOf P → Type 0
  DoesAs step m s t = Does step m.effect (record s { scene = record s.scene { names = m.names } }) t

  -- the steps with their numbers, one after another
  abbrev pub Races : List (ℕ × Step) → RaceOf P → RaceOf P → Type 0
  Races [] s t = t ≡ s
  Races (step ∷ rest) s t = (mid : RaceOf P) × DoesAs step.0 (meaning s.scene.names step.1) s mid × Races rest mid t

  -- A race of the steps with this cast, after which each node sees.
  pub record IsRaceOf (steps : List Step) (cast : List Player) (t : RaceOf P) : Type 0 where
    pub last : RaceOf P
    pub races : Races (numbered 1 steps) (starting cast) last
    pub is : t ≡ record last { scene = at_end ways last.scene }
