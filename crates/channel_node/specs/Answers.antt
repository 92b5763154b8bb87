-- What the calls of a node answer, and what it is after them.
use Rattle.std.specs.Prelude.{◌≡◌, ℕ, true, false, List, ◌⊎◌, Option, Some, None, Result, Ok, Err}
use Rattle.channel_values.specs.Rules.{Rules}
use Rattle.call_history.specs.History.{Legal}
use Rattle.call_history.specs.Reading.{message_of}
use Rattle.call_history.specs.declared.entry.Entry.{Entry}
use Rattle.channel_values.specs.Parts.{StateParts}
use Rattle.channel_node.specs.Minds.{Mind}
use Rattle.channel_node.specs.Nodes.{NodeOf, handled, asked, told_to}
use Rattle.channel_node.specs.Standing.{Stands}
use Rattle.channel_node.specs.Tables.{Tables}
use Rattle.channel_node.specs.Playing.{Signing, signing_of}
use Rattle.network.specs.declared.outs.Outs.{Outs}
use Rattle.channel_node.specs.Giving.{command_answers}
use Rattle.channel_node.specs.Refusing.{message_refusal, command_refusal, signs_in}
use Rattle.network.specs.declared.command.Command.{Command}
use Rattle.network.specs.declared.outs.NodeFault.{NodeFault}
use Rattle.network.specs.declared.outs.NodeFault.TheVariants.{Refused, NoMemory}

-- a state that the rules give in a channel, where a payment may wait
pub record IsWanted (t : Tables) (r : Rules) (m : Mind) (channel : List ℕ) (state : StateParts) : Type 0 where
  pub waits : Option Command
  pub is : signs_in t r waits m channel ≡ Some state

-- the same journal and commands
pub record SameJournal (old new : NodeOf) : Type 0 where
  pub journal : new.journal ≡ old.journal
  pub commands : new.commands ≡ old.commands

-- where it stands for a history before, it stands for it after
abbrev pub StaysFor : Tables → Rules → List Entry → NodeOf → NodeOf → Type 0
StaysFor t r h old new = Stands t r (signing_of old.signer) h old → Stands t r (signing_of old.signer) h new

-- and so for each legal history
abbrev pub StaysForAll : Tables → Rules → NodeOf → NodeOf → Type 0
StaysForAll t r old new = (h : List Entry) → Legal r h → StaysFor t r h old new

-- the same as those of a node that stands for each history for which this one did
abbrev pub StandsPartly : Tables → Rules → Signing → NodeOf → NodeOf → Type 0
StandsPartly t r s old new = (mid : NodeOf) × ((h : List Entry) → Legal r h → Stands t r s h old → Stands t r s h mid) × SameJournal mid new

-- the journal and the commands as they were, or with the command's event
abbrev pub IsPartly : Tables → Rules → Signing → ℕ → Command → NodeOf → NodeOf → Type 0
IsPartly t r s step command old new = SameJournal old new ⊎ SameJournal (asked r s step command (command_refusal t r s.limit old.used old.mind command) old) new

-- what a message comes to; a lost node answers only that it is
abbrev pub HandleAnswers : {A : Type 0} → Tables → Rules → List ℕ → NodeOf → NodeOf → Result A NodeFault → Type 0
HandleAnswers t r bytes old new (Ok done) = (old.is_lost ≡ false) × (message_refusal t r old.mind (message_of bytes) ≡ None) × (new ≡ handled t r bytes old)
HandleAnswers t r bytes old new (Err (Refused refusal)) =
    (old.is_lost ≡ false) × (message_refusal t r old.mind (message_of bytes) ≡ Some refusal) × (new ≡ handled t r bytes old)
HandleAnswers t r bytes old new (Err NoMemory) = (new.is_lost ≡ true) × SameJournal old new

-- and a command
abbrev pub CommandAnswers : Tables → Rules → Signing → ℕ → Command → NodeOf → NodeOf → Result Outs NodeFault → Type 0
CommandAnswers t r s step command old new (Ok outs) =
    (old.is_lost ≡ false) × (Ok outs ≡ command_answers t r s step command old) × (new ≡ told_to t r s step command old)
CommandAnswers t r s step command old new (Err (Refused refusal)) =
    (old.is_lost ≡ false) × (Err (Refused refusal) ≡ command_answers t r s step command old) × (new ≡ told_to t r s step command old)
CommandAnswers t r s step command old new (Err NoMemory) = new.is_lost ≡ true
