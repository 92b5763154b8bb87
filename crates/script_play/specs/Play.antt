-- What the steps of a script do in a run, one after another, over nodes whose rules are given.
use Rattle.std.specs.Prelude.{ℕ, suc, zero, ◌+◌, ◌==◌, not, List, [], ◌∷◌, ◌++◌, length, filter, fold, Option, Some, None}
use Rattle.std.specs.List.{find, filter_map}
use Rattle.std.specs.Str.{bytes_eq}
use Rattle.channel_values.specs.declared.chain.Signed.{Signed}
use Rattle.call_history.specs.declared.call.Op.{Op}
use Rattle.call_history.specs.declared.call.Op.TheVariants as ops
use Rattle.call_history.specs.declared.event.Event.{Event}
use Rattle.channel_safety.specs.Journals.{made_in}
use Rattle.network.specs.Ways.{Ways}
use Rattle.network.specs.declared.command.Command.{Command}
use Rattle.network.specs.Worlds.{WorldOf, new_world, happened, given, joined, journal}
use Rattle.network.specs.declared.happening.Happening.{Happening}
use Rattle.network.specs.declared.happening.Happening.TheVariants as happenings
use Rattle.step_meanings.specs.Meanings.{Meaning, meaning, nameless, with_state}
use Rattle.step_meanings.specs.declared.effect.Effect.{Effect}
use Rattle.step_meanings.specs.declared.effect.Effect.TheVariants.{Nothing, Enter, Join, Tell, Post, Lose, Catch, Rounds}
use Rattle.step_meanings.specs.declared.names.Names.{Names}
use Rattle.script_steps.specs.declared.step.Step.{Step}
use Rattle.script_play.specs.Rounds.{Letter, Mailed, round, seen_by}

-- What a run has come to: what names stand for, the world, the messages on their way, and how long the history was
-- after each round.
pub record SceneOf (P : Type 0) : Type 0 where
  pub names : Names
  pub world : WorldOf P
  pub post : List Letter
  pub rounds : List ℕ

-- nothing is declared, and nothing happened
abbrev pub empty : {P : Type 0} → SceneOf P
empty = record { names = nameless; world = new_world; post = []; rounds = [] }

-- of the states of the channel that a node signed, by its journal, the first of this turn
abbrev pub caught : List ℕ → ℕ → List Event → Option Signed
caught channel turn journal = find (λ (s : Signed). s.state.turn == turn) (filter_map (λ (x : Event). made_in channel x.deed) journal)

-- the script enters an op, as caller 0
abbrev pub entering : Op → Happening
entering (ops.Call call) = happenings.Enter 0 call
entering (ops.Time to) = happenings.Time to

-- a name for a state that was caught
abbrev pub naming : Names → List ℕ → List ℕ → List ℕ → Option Signed → Names
naming n name key channel None = n
naming n name key channel (Some s) = with_state n (record { name = name; key = key; channel = channel; signed = s })

-- the steps with their numbers, from this one on
abbrev pub numbered : ℕ → List Step → List (ℕ × Step)
numbered number [] = []
numbered number (step ∷ rest) = (number, step) ∷ numbered (number + 1) rest

module _ {P : Type 0} (ways : Ways P) where
  -- ---- rounds

  abbrev pub after_round : SceneOf P → Mailed P → SceneOf P
  after_round s m = record s { world = m.world; post = m.post; rounds = s.rounds ++ length m.world.history ∷ [] }

  abbrev pub play_round : SceneOf P → SceneOf P
  play_round s = after_round s (round ways s.names.people (record { world = s.world; post = s.post }))

  abbrev pub play_rounds : ℕ → SceneOf P → SceneOf P
  play_rounds zero s = s
  play_rounds (suc count) s = play_round (play_rounds count s)

  -- ---- what is done

  -- a node sees, and is given the command of a step; what it sends is on its way
  abbrev pub told : ℕ → Command → SceneOf P → ℕ → SceneOf P
  told step command s number =
      record s {
        world = happened ways (happenings.Command number step command) (happened ways (happenings.See number) s.world);
        post = s.post ++ (given ways (happenings.Command number step command) (happened ways (happenings.See number) s.world)).sends;
      }

  -- What is done by the step of this number.
  abbrev pub done : ℕ → SceneOf P → Effect → SceneOf P
  done step s Nothing = s
  done step s (Enter op) = record s { world = happened ways (entering op) s.world }
  done step s (Join number signer watchers) = record s { world = joined ways number signer watchers s.world }
  done step s (Tell numbers command) = fold (told step command) s numbers
  done step s (Post to bytes) = record s { post = s.post ++ (to, bytes) ∷ [] }
  done step s (Lose to) = record s { post = filter (λ letter. not (bytes_eq letter.0 to)) s.post }
  done step s (Catch name number key channel turn) = record s { names = naming s.names name key channel (caught channel turn (journal ways s.world number)) }
  done step s (Rounds count) = play_rounds count s

  -- ---- scripts

  abbrev pub done_as : ℕ → SceneOf P → Meaning → SceneOf P
  done_as step s m = done step (record s { names = m.names }) m.effect

  abbrev pub played : SceneOf P → ℕ × Step → SceneOf P
  played s step = done_as step.0 s (meaning s.names step.1)

  abbrev pub play_steps : List Step → SceneOf P
  play_steps steps = fold played empty (numbered 1 steps)

  abbrev pub at_end : SceneOf P → SceneOf P
  at_end s = record s { world = fold (seen_by ways) s.world s.names.people }

  -- the steps one after another, and then each node sees
  abbrev pub play : List Step → SceneOf P
  play steps = at_end (play_steps steps)
