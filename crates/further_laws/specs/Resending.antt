-- A payment whose message was lost is sent again: the same messages, no further signature, and no harm where the
-- payee has it already.
use Rattle.std.specs.Prelude.{◌≡◌, ℕ, true, false, List, [], ◌∷◌, ◌++◌, map, Option, Some, None, is_some, Result, Ok}
use Rattle.channel_values.specs.Parts.{StateParts}
use Rattle.channel_values.specs.declared.chain.Signed.{Signed}
use Rattle.channel_values.specs.Messages.{message_of_state}
use Rattle.channel_values.specs.Rules.{Rules, newest}
use Rattle.call_history.specs.Limits.{IsMessage}
use Rattle.call_history.specs.Reading.{message_of}
use Rattle.call_history.specs.Spelling.{Message, message}
use Rattle.call_history.specs.declared.entry.Entry.{Entry}
use Rattle.call_history.specs.declared.event.Deed.{Deed}
use Rattle.call_history.specs.declared.event.Deed.TheVariants as deeds
use Rattle.call_history.specs.declared.event.NodeRefusal.{NodeRefusal}
use Rattle.channel_store.specs.Storing.{kept_of}
use Rattle.channel_store.specs.declared.kept.Kept.{Kept}
use Rattle.network.specs.declared.command.Command.{Command}
use Rattle.network.specs.declared.command.Command.TheVariants.{Pay, Resend}
use Rattle.network.specs.declared.outs.NodeFault.{NodeFault}
use Rattle.network.specs.declared.outs.Outs.{Outs}
use Rattle.channel_node.specs.Giving.{others, signed_here, command_answers}
use Rattle.channel_node.specs.MessageLaws.{Refuses}
use Rattle.channel_node.specs.Minds.{Mind, saw, did, noted}
use Rattle.channel_node.specs.Nodes.{NodeOf, handled, told_to}
use Rattle.channel_node.specs.Playing.{Signing}
use Rattle.channel_node.specs.Refusing.{paying, message_refusal, command_refusal}
use Rattle.channel_node.specs.Tables.{Tables}

-- ---- a payment is sent again

-- its state, with the payer's signature
abbrev pub payment : Rules → Signing → List ℕ → (asset amount : ℕ) → Kept → NodeOf → Signed
payment r s channel asset amount k n =
    record {
      state = paying n.mind channel asset amount k;
      signature = s.made n.used (message_of_state (r.digest channel (paying n.mind channel asset amount k)));
    }

-- nothing but messages goes out
abbrev pub sends_only : List (List ℕ × List ℕ) → Result Outs NodeFault
sends_only sends = Ok (record { sends = sends; calls = []; spent = None })

-- After a payment that the node accepted, Resend gives the messages of the payment once more: its state, for each of
-- the channel's other people.
pub record IsSentAgain (t : Tables) (r : Rules) (s : Signing) (step later : ℕ) (channel : List ℕ) (asset amount : ℕ)
    (n : NodeOf) : Type 0 where
  pub k : Kept
  pub keeps : kept_of channel n.mind.kept ≡ Some k
  pub same :
      command_answers t r s later (Resend channel) (told_to t r s step (Pay channel asset amount) n)
      ≡ command_answers t r s step (Pay channel asset amount) n
  pub gives :
      command_answers t r s later (Resend channel) (told_to t r s step (Pay channel asset amount) n)
      ≡ sends_only (map (λ person. (person, message (channel, payment r s channel asset amount k n))) (others k))

abbrev pub PaymentsAreSentAgain : Type 0
PaymentsAreSentAgain =
    (t : Tables) (r : Rules) (s : Signing) (step later : ℕ) (channel : List ℕ) (asset amount : ℕ) (n : NodeOf)
    → command_refusal t r s.limit n.used n.mind (Pay channel asset amount) ≡ None
    → IsSentAgain t r s step later channel asset amount n

-- ---- for as long as nothing more is signed there

-- What a node becomes by events that sign nothing in the channel, and by entries that it follows. What else a node has,
-- as how often its key signed, may change.
pub data Later (r : Rules) (channel : List ℕ) (old : NodeOf) : NodeOf → Type 0 where
  still : Later r channel old old
  event :
      (n new : NodeOf) (seen : ℕ) (deed : Deed) (command : Option Command) → Later r channel old n
      → signed_here channel deed ≡ None → new.journal ≡ n.journal ++ record { seen = seen; deed = deed } ∷ []
      → new.mind ≡ did r deed command n.mind → Later r channel old new
  entry :
      (n new : NodeOf) (e : Entry) → Later r channel old n → new.journal ≡ n.journal → new.mind ≡ saw r e n.mind
      → Later r channel old new

-- Resend gives the same then
abbrev pub ResendsStay : Type 0
ResendsStay =
    (t : Tables) (r : Rules) (s : Signing) (step later : ℕ) (channel : List ℕ) (old new : NodeOf)
    → command_refusal t r s.limit old.used old.mind (Resend channel) ≡ None → Later r channel old new
    → command_answers t r s later (Resend channel) new ≡ command_answers t r s step (Resend channel) old

-- ---- it signs nothing

-- What it knows stays, its key didn't sign, and its journal has one event more, that of the command.
pub record SignsNothing (t : Tables) (r : Rules) (s : Signing) (step : ℕ) (channel : List ℕ) (n : NodeOf) : Type 0 where
  pub mind : (told_to t r s step (Resend channel) n).mind ≡ n.mind
  pub used : (told_to t r s step (Resend channel) n).used ≡ n.used
  pub journal :
      (told_to t r s step (Resend channel) n).journal
      ≡ n.journal ++ record {
        seen = n.mind.view.count;
        deed = deeds.Commanded step (command_refusal t r s.limit n.used n.mind (Resend channel));
      } ∷ []

abbrev pub ResendsSignNothing : Type 0
ResendsSignNothing =
    (t : Tables) (r : Rules) (s : Signing) (step : ℕ) (channel : List ℕ) (n : NodeOf) → SignsNothing t r s step channel n

-- ---- a message that comes twice

-- a node that refuses a message changes nothing but that its journal says so
abbrev pub RefusedMessagesDoNothing : Type 0
RefusedMessagesDoNothing =
    (t : Tables) (r : Rules) (bytes : List ℕ) (refusal : NodeRefusal) (n : NodeOf)
    → message_refusal t r n.mind (message_of bytes) ≡ Some refusal → Refuses t r bytes refusal n

-- the newest state that is kept of the channel
pub record Holds (channel : List ℕ) (state : StateParts) (m : Mind) : Type 0 where
  pub k : Kept
  pub keeps : kept_of channel m.kept ≡ Some k
  pub top : newest k.chain.states ≡ Some state

-- A node that takes a message notes its state, and then holds it. It refuses the message when that comes again.
pub record IsTaken (t : Tables) (r : Rules) (bytes : List ℕ) (m : Message) (n : NodeOf) : Type 0 where
  pub notes : (handled t r bytes n).mind ≡ noted r false m.0 m.1 n.mind
  pub holds : Holds m.0 m.1.state (handled t r bytes n).mind
  pub again : is_some (message_refusal t r (handled t r bytes n).mind (message_of bytes)) ≡ true
  pub twice : (handled t r bytes (handled t r bytes n)).mind ≡ (handled t r bytes n).mind

abbrev pub MessagesAreTakenOnce : Type 0
MessagesAreTakenOnce =
    (t : Tables) (r : Rules) (bytes : List ℕ) (m : Message) (n : NodeOf) → message_of bytes ≡ Ok m
    → message_refusal t r n.mind (message_of bytes) ≡ None → IsTaken t r bytes m n

-- ---- payer and payee

-- both keep the channel, and know it by the same fixed part
pub record AreOfOne (channel : List ℕ) (payer payee : Mind) (k : Kept) : Type 0 where
  pub keeps : kept_of channel payer.kept ≡ Some k
  pub other : Kept
  pub keeps_too : kept_of channel payee.kept ≡ Some other
  pub fixed : k.chain.fixed ≡ other.chain.fixed

-- After an accepted payment and a Resend the payee, who doesn't refuse the message, holds the state, and so does the
-- payer, whatever became of the first message.
abbrev pub ResentPaymentsAreHeld : Type 0
ResentPaymentsAreHeld =
    (t : Tables) (r : Rules) (s : Signing) (step later : ℕ) (channel : List ℕ) (asset amount : ℕ) (payer payee : NodeOf)
    (k : Kept) → AreOfOne channel payer.mind payee.mind k
    → command_refusal t r s.limit payer.used payer.mind (Pay channel asset amount) ≡ None
    → IsMessage (channel, payment r s channel asset amount k payer)
    → message_refusal t r payee.mind (message_of (message (channel, payment r s channel asset amount k payer))) ≡ None
    → Holds channel (paying payer.mind channel asset amount k)
    (told_to t r s later (Resend channel) (told_to t r s step (Pay channel asset amount) payer)).mind
    × Holds channel (paying payer.mind channel asset amount k)
    (handled t r (message (channel, payment r s channel asset amount k payer)) payee).mind
