-- A node's journal can be one of a race in which its look is answered.
use Rattle.std.specs.Prelude.{◌≡◌, true, [], ◌∷◌, length, Some}
use Rattle.call_history.specs.History.{time_set, is_accepted}
use Rattle.call_history.specs.declared.call.Call.TheVariants.{Checkpoint}
use Rattle.call_history.specs.declared.call.Op.TheVariants as ops
use Rattle.call_history.specs.declared.entry.Entry.{Entry}
use Rattle.channel_safety.specs.Occurring.{NoCollision}
use Rattle.channel_node.specs.Nodes.{told_of}
use Rattle.channel_node.specs.Places.{lines_of}
use Rattle.stage_tables.specs.Stages.{stages}
use Rattle.channel_node.specs.Races.{PlaysRace}
use Rattle.further_laws.specs.NodeWitness.{StandsWithJournal}

-- The checkpoint of the look is entered and accepted, and then the round's time comes. With these two entries the
-- history is one of a race of one round, which the node plays, and names and digests determine what they name.
pub record PlaysRound (w : StandsWithJournal) : Type 0 where
  pub answer : Entry
  pub time : Entry
  pub answers : answer.op ≡ ops.Call (Checkpoint w.chain)
  pub accepted : is_accepted answer.reply ≡ true
  pub ticks : time_set time.op time.reply ≡ Some 1
  pub race :
      PlaysRace stages w.rules w.signing (time ∷ answer ∷ w.history) (told_of w.node)
      (length (answer ∷ w.history) ∷ [])
  pub distinct : NoCollision w.rules (time ∷ answer ∷ w.history) (lines_of w.signing.key (told_of w.node))

abbrev pub RacesCanBePlayed : Type 0
RacesCanBePlayed = (w : StandsWithJournal) × PlaysRound w
