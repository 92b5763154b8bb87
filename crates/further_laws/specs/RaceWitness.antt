-- The premises of safety in a race can hold together, where a watcher answers old states and a channel becomes final.
use Rattle.std.specs.Prelude.{ℕ, List, length}
use Rattle.channel_values.specs.Rules.{KeepsFinal}
use Rattle.channel_safety.specs.Premises.{Unforged}
use Rattle.channel_safety.specs.Occurring.{NoCollision, AreValid}
use Rattle.channel_safety.specs.Honest.{Honest}
use Rattle.channel_safety.specs.Safety.{IsChannelOf}
use Rattle.channel_safety.specs.RaceWitness.{Story, second_round, history, journal, PassesRounds}

-- the journal is that of a participant with this key, and the channel is one of its own
pub record PremisesHold : Type 0 where
  pub story : Story
  pub key : List ℕ
  pub passes : PassesRounds story
  pub keeps : KeepsFinal story.rules
  pub honest : Honest story.rules key (history story) (journal story)
  pub unforged : Unforged story.rules key (history story) (journal story)
  pub distinct : NoCollision story.rules (history story) (journal story)
  pub valid : AreValid (history story) (journal story)
  pub channel : IsChannelOf key story.fixed (journal story) (length (second_round story))
