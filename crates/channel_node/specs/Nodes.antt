-- What is seen of a node, what its calls make of it, and when it stands for a history.
use Rattle.std.specs.Prelude.{ℕ, suc, Bool, false, ◌&&◌, ◌||◌, nat_lt, List, [], ◌∷◌, ◌++◌, reverse, fold, Option, Some, None, if◌then◌else◌}
use Rattle.channel_values.specs.Parts.{StateParts}
use Rattle.channel_values.specs.Messages.{message_of_state, message_of_challenge}
use Rattle.channel_values.specs.Rules.{Rules}
use Rattle.call_history.specs.Reading.{message_of}
use Rattle.call_history.specs.declared.call.Call.{Call}
use Rattle.call_history.specs.declared.entry.Entry.{Entry}
use Rattle.call_history.specs.declared.event.Deed.{Deed}
use Rattle.call_history.specs.declared.event.Deed.TheVariants as deeds
use Rattle.call_history.specs.declared.event.Event.{Event}
use Rattle.call_history.specs.declared.event.NodeRefusal.{NodeRefusal}
use Rattle.channel_node.specs.Minds.{Mind, fresh, facts_of, saw, did}
use Rattle.channel_node.specs.Tables.{Tables}
use Rattle.channel_node.specs.Refusing.{message_refusal, command_refusal, signs_in}
use Rattle.channel_node.specs.Leaving.{OwnChallenge, challenge_in, is_over}
use Rattle.channel_node.specs.Places.{Told, told}
use Rattle.channel_node.specs.Playing.{Signing, SignerOf, signing_of}
use Rattle.network.specs.declared.command.Command.{Command}
use Rattle.network.specs.declared.command.Command.TheVariants.{Pay}

-- What it knows, what its signer is made of and how often its key signed, and its journal and its commands in the
-- order of time. It says too whether the calls of its exit were given, and whether memory failed it.
pub record NodeOf : Type 0 where
  pub mind : Mind
  pub signer : SignerOf
  pub used : ℕ
  pub journal : List Event
  pub commands : List Command
  pub has_exited : Bool
  pub is_lost : Bool

-- one that followed nothing, with a signer that hasn't signed
abbrev pub new_node : SignerOf → NodeOf
new_node signer = record { mind = fresh (signing_of signer).key; signer = signer; used = 0; journal = []; commands = []; has_exited = false; is_lost = false }

-- its events with their commands, newest first
abbrev pub told_of : NodeOf → List Told
told_of n = told (reverse n.journal) (reverse n.commands)

-- ---- calls

-- with one more event, which had seen so many entries
abbrev pub wrote_at : ℕ → Deed → Mind → NodeOf → NodeOf
wrote_at seen deed m n = record n { mind = m; journal = n.journal ++ record { seen = seen; deed = deed } ∷ [] }

abbrev pub wrote : Deed → Mind → NodeOf → NodeOf
wrote deed m n = wrote_at n.mind.view.count deed m n

-- a message
abbrev pub handled : Tables → Rules → List ℕ → NodeOf → NodeOf
handled t r bytes n =
    wrote (deeds.Handled bytes (message_refusal t r n.mind (message_of bytes))) (did r (deeds.Handled bytes (message_refusal t r n.mind (message_of bytes))) None n.mind) n

-- a state that it signs
abbrev pub signed : Rules → Signing → List ℕ → StateParts → NodeOf → NodeOf
signed r s channel state n =
    record (wrote (deeds.Signed channel state (s.made n.used (message_of_state (r.digest channel state))))
    (did r (deeds.Signed channel state (s.made n.used (message_of_state (r.digest channel state)))) None n.mind) n) { used = suc n.used }

abbrev pub signed_if : Rules → Signing → List ℕ → Option StateParts → NodeOf → NodeOf
signed_if r s channel None n = n
signed_if r s channel (Some state) n = if nat_lt n.used s.limit then signed r s channel state n else n

-- in each of these channels the state that it wants
abbrev pub ticked : Tables → Rules → Signing → List (List ℕ) → NodeOf → NodeOf
ticked t r s [] n = n
ticked t r s (channel ∷ channels) n = ticked t r s channels (signed_if r s channel (signs_in t r None n.mind channel) n)

-- a challenge that it signs
abbrev pub challenged : Rules → Signing → List ℕ → OwnChallenge → NodeOf → NodeOf
challenged r s channel c n =
    record (wrote (deeds.SignedChallenge channel c.state c.who (s.made n.used (message_of_challenge (r.digest channel c.state) c.who))) n.mind n) { used = suc n.used }

abbrev pub challenged_if : Rules → Signing → List ℕ → Option OwnChallenge → NodeOf → NodeOf
challenged_if r s channel None n = n
challenged_if r s channel (Some c) n = if nat_lt n.used s.limit then challenged r s channel c n else n

-- in each of these channels, where it left
abbrev pub challenged_all : Rules → Signing → List (List ℕ) → NodeOf → NodeOf
challenged_all r s [] n = n
challenged_all r s (channel ∷ channels) n = challenged_all r s channels (challenged_if r s channel (challenge_in n.mind channel) n)

-- with a call given, and with each of these
abbrev pub gave_one : NodeOf → Call → NodeOf
gave_one n call = wrote (deeds.Called call) n.mind n

abbrev pub gave : List Call → NodeOf → NodeOf
gave [] n = n
gave (call ∷ calls) n = gave calls (gave_one n call)

-- once it left and all channels with a held chain are final the calls of its exit are given, whether there are any or
-- none
abbrev pub exited : NodeOf → NodeOf
exited n = record n { has_exited = n.has_exited || (n.mind.left && is_over (facts_of n.mind)) }

-- a command's event
abbrev pub asked : Rules → Signing → ℕ → Command → Option NodeRefusal → NodeOf → NodeOf
asked r s step command refusal n =
    record (wrote (deeds.Commanded step refusal) (did r (deeds.Commanded step refusal) (Some command) n.mind) n) { commands = n.commands ++ command ∷ [] }

-- and the state of a payment that isn't refused
abbrev pub paid_if : Tables → Rules → Signing → Option NodeRefusal → Command → NodeOf → NodeOf
paid_if t r s None (Pay channel asset amount) n = signed_if r s channel (signs_in t r (Some (Pay channel asset amount)) n.mind channel) n
paid_if t r s _ command n = n

abbrev pub told_to : Tables → Rules → Signing → ℕ → Command → NodeOf → NodeOf
told_to t r s step command n =
    paid_if t r s (command_refusal t r s.limit n.used n.mind command) command (asked r s step command (command_refusal t r s.limit n.used n.mind command) n)

-- entries that it follows
abbrev pub saw_one : Rules → NodeOf → Entry → NodeOf
saw_one r n e = record n { mind = saw r e n.mind }

abbrev pub saw_all : Rules → List Entry → NodeOf → NodeOf
saw_all r entries n = fold (saw_one r) n entries

-- a look of a watcher that had seen so many entries
abbrev pub watched : ℕ → ℕ → List Call → NodeOf → NodeOf
watched seen watcher calls n = wrote_at seen (deeds.Watched watcher calls) n.mind n
