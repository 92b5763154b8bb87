-- That a person sends no state but one that its journal signed, and that its journal keeps what it signed.
use Rattle.std.specs.Prelude.{◌≡◌, ℕ, Bool, false, List}
use Rattle.std.specs.List.{AllByRecursion}
use Rattle.channel_values.specs.Messages.{message_of_state}
use Rattle.channel_values.specs.declared.chain.Signed.{Signed}
use Rattle.call_history.specs.Spelling.{message}
use Rattle.call_history.specs.declared.call.Call.{Call}
use Rattle.call_history.specs.declared.entry.Entry.{Entry}
use Rattle.channel_safety.specs.Journals.{In}
use Rattle.network.specs.Ways.{Ways}
use Rattle.network.specs.Members.{accepted}
use Rattle.network.specs.declared.command.Command.{Command}
use Rattle.channel_node.specs.Places.{Told}
use Rattle.support_rules.specs.Real.{real}
use Rattle.node_guarantees.specs.Once.{Signature, signed_by}

-- a message that spells a state of a channel with the signature of it that stands among these
pub record IsSigned (made : List Signature) (bytes : List ℕ) : Type 0 where
  pub channel : List ℕ
  pub state : Signed
  pub spells : bytes ≡ message (channel, state)
  pub there : In (record { message = message_of_state (real.digest channel state.state); bytes = state.signature }) made

-- so of all that are sent, each with the person that it is for
abbrev pub AreSigned : List Signature → List (List ℕ × List ℕ) → Type 0
AreSigned made = AllByRecursion (λ letter. IsSigned made letter.1)

module _ {P : Type 0} (ways : Ways P) where
  -- What a node sends at a tick or by a command, its journal has signed then, unless memory failed it.
  pub record SendWhatTheySigned (lost : P → Bool) (told : P → List Told) : Type 0 where
    pub ticked : (p : P) → lost p ≡ false → AreSigned (signed_by real (told (ways.ticked p))) (ways.gives p).sends
    pub commanded :
        (step : ℕ) (command : Command) (p : P) → lost p ≡ false
        → AreSigned (signed_by real (told (ways.commanded step command p))) (accepted (ways.answers command p)).sends

  -- whatever comes to a node, this stays so
  pub record StaysSo (is : P → Type 0) : Type 0 where
    pub saw : (entries : List Entry) (p : P) → is p → is (ways.saw entries p)
    pub commanded : (step : ℕ) (command : Command) (p : P) → is p → is (ways.commanded step command p)
    pub handled : (bytes : List ℕ) (p : P) → is p → is (ways.handled bytes p)
    pub ticked : (p : P) → is p → is (ways.ticked p)
    pub watched : (seen place : ℕ) (calls : List Call) (p : P) → is p → is (ways.watched seen place calls p)

  -- the node has this key, and its journal this signature
  pub record HasSigned (told : P → List Told) (key : List ℕ) (made : Signature) (p : P) : Type 0 where
    pub own : ways.key p ≡ key
    pub there : In made (signed_by real (told p))

  -- what its journal signed stays there
  abbrev pub SignaturesStay : (told : P → List Told) → Type 0
  SignaturesStay told = (key : List ℕ) (made : Signature) → StaysSo (HasSigned told key made)
