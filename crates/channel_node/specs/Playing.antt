-- When a journal is one of a node: each event is what the node's rules give at its place.
use Rattle.std.specs.Prelude.{◌≡◌, ℕ, suc, ◌<◌, ◌≤◌, ◌^◌, Bool, true, false, List, [], ◌∷◌, ◌++◌, length, Option, Some, None, if◌then◌else◌}
use Rattle.std.specs.List.{flat_map}
use Rattle.channel_values.specs.Messages.{message_of_state, message_of_challenge}
use Rattle.channel_values.specs.Rules.{Rules}
use Rattle.call_history.specs.Reading.{message_of}
use Rattle.call_history.specs.declared.entry.Entry.{Entry}
use Rattle.call_history.specs.declared.event.Deed.{Deed}
use Rattle.call_history.specs.declared.event.Deed.TheVariants as deeds
use Rattle.call_history.specs.declared.event.NodeRefusal.{NodeRefusal}
use Rattle.channel_safety.specs.Journals.{In, is_watched}
use Rattle.network.specs.Watching.{looks}
use Rattle.channel_store.specs.Keeping.{held_chain}
use Rattle.lms_signatures.specs.Made.{made_key, made_bytes}
use Rattle.channel_node.specs.Minds.{Mind}
use Rattle.channel_node.specs.Tables.{Tables}
use Rattle.channel_node.specs.Refusing.{message_refusal, command_refusal, signs_in}
use Rattle.channel_node.specs.Leaving.{ChallengesWith, MayCall}
use Rattle.channel_node.specs.Places.{Told, mind_at, AreFew}
use Rattle.network.specs.declared.command.Command.{Command}
use Rattle.network.specs.declared.command.Command.TheVariants.{Pay}

-- A signer: its public key, how often it signs, and its signature of a message with an index.
pub record Signing : Type 0 where
  pub key : List ℕ
  pub limit : ℕ
  pub made : ℕ → List ℕ → List ℕ

-- What a signer is made of: a seed, an identifier, and the height of its tree.
pub record SignerOf : Type 0 where
  pub seed : List ℕ
  pub id : List ℕ
  pub h : ℕ

-- the signer that is made of these
unfoldable pub signing_of : SignerOf → Signing
signing_of s = record { key = made_key s.seed s.id s.h; limit = 2 ^ s.h; made = made_bytes s.seed s.id s.h }

-- each of its signatures verifies
abbrev pub SignsWell : Rules → Signing → Type 0
SignsWell r s = (index : ℕ) (message : List ℕ) → index < s.limit → r.verifies s.key message (s.made index message) ≡ true

abbrev pub is_signed : Deed → Bool
is_signed (deeds.Signed channel state signature) = true
is_signed (deeds.SignedChallenge channel state who signature) = true
is_signed _ = false

-- how many signatures these events took
abbrev pub signings : List Told → ℕ
signings [] = 0
signings (x ∷ front) = if is_signed x.deed then suc (signings front) else signings front

abbrev pub payment_in : Deed → Option Command → Option Command
payment_in (deeds.Commanded step None) (Some (Pay channel asset amount)) = Some (Pay channel asset amount)
payment_in _ _ = None

-- the payment that was commanded last and isn't signed yet
abbrev pub pending : List Told → Option Command
pending [] = None
pending (x ∷ front) = payment_in x.deed x.command

abbrev pub Answers : Tables → Rules → Signing → ℕ → Mind → Option NodeRefusal → Option Command → Type 0
Answers t r s used m refusal None = ⊥
Answers t r s used m refusal (Some command) = refusal ≡ command_refusal t r s.limit used m command

-- what a node may write into its journal, by the entries, what it knows, the signatures before, and a payment that
-- waits
abbrev pub Allowed : Tables → Rules → Signing → List Entry → Mind → ℕ → Option Command → Deed → Option Command → Type 0
Allowed t r s past m used waits (deeds.Commanded step refusal) command = (waits ≡ None) × Answers t r s used m refusal command
Allowed t r s past m used waits (deeds.Handled bytes refusal) command = (waits ≡ None) × (refusal ≡ message_refusal t r m (message_of bytes))
Allowed t r s past m used waits (deeds.Signed channel state signature) command =
    (signs_in t r waits m channel ≡ Some state) × (used < s.limit) × (signature ≡ s.made used (message_of_state (r.digest channel state)))
Allowed t r s past m used waits (deeds.SignedChallenge channel state who signature) command =
    (waits ≡ None) × ChallengesWith m channel state who × (used < s.limit) × (signature ≡ s.made used (message_of_challenge (r.digest channel state) who))
Allowed t r s past m used waits (deeds.Called call) command = (waits ≡ None) × MayCall t m call
Allowed t r s past m used waits (deeds.Watched watcher given) command = (waits ≡ None) × (given ≡ looks r past (flat_map held_chain m.kept))

-- And it had seen no more than there is, entries of few people each; nothing but a look had seen more than what comes
-- after it.
pub record PlaysEvent (t : Tables) (r : Rules) (s : Signing) (h : List Entry) (x : Told) (front : List Told) : Type 0 where
  pub within : x.seen ≤ length h
  pub rising : (y : Told) → In y front → is_watched y.deed ≡ false → y.seen ≤ x.seen
  pub place :
      (later past : List Entry) → h ≡ later ++ past → length past ≡ x.seen
      → AreFew past × Allowed t r s past (mind_at r s.key past front) (signings front) (pending front) x.deed x.command

-- the journal is one of the node with this signer, over this history
abbrev pub Plays : Tables → Rules → Signing → List Entry → List Told → Type 0
Plays t r s h [] = Unit {0}
Plays t r s h (x ∷ front) = PlaysEvent t r s h x front × Plays t r s h front
