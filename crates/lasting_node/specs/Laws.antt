-- What stays true of a node, whatever comes to it, over any number of crashes and restarts of one state file.
use Rattle.std.specs.Prelude.{◌≡◌, ◌+◌, ℕ, false, List, [], ◌∷◌, ◌++◌, length, flat_map, Some, Result, Ok, Err}
use Rattle.std.specs.List.{AllByRecursion}
use Rattle.channel_values.specs.Collisions.{NoneCollide}
use Rattle.channel_values.specs.Messages.{message_of_challenge}
use Rattle.channel_values.specs.Parts.{StateParts}
use Rattle.channel_values.specs.Rules.{newest}
use Rattle.call_history.specs.History.{Legal}
use Rattle.call_history.specs.declared.call.Call.{Call}
use Rattle.call_history.specs.declared.call.Call.TheVariants.{Challenge}
use Rattle.call_history.specs.declared.call.ChallengeCall.{ChallengeCall}
use Rattle.call_history.specs.declared.entry.Entry.{Entry}
use Rattle.channel_node.specs.Places.{Told, lines_of}
use Rattle.channel_safety.specs.Hashed.{hashed}
use Rattle.channel_safety.specs.Journals.{In}
use Rattle.channel_safety.specs.Occurring.{AreValid}
use Rattle.channel_safety.specs.Premises.{Unforged, InTime}
use Rattle.channel_safety.specs.Valid.{IsValidEntry}
use Rattle.lms_signatures.specs.Made.{made_key}
use Rattle.lms_signatures.specs.Signing.{Signing}
use Rattle.support_rules.specs.Real.{real}
use Rattle.network.specs.Histories.{IsFresh}
use Rattle.network.specs.Watching.{StandsFor}
use Rattle.network.specs.declared.lookout.Lookout.{Lookout}
use Rattle.node_guarantees.specs.Challenges.{CallsOwnChallenges}
use Rattle.node_guarantees.specs.Commanded.{told}
use Rattle.node_guarantees.specs.Once.{Signature, signed_by, SignsOnce}
use Rattle.node_guarantees.specs.Placed.{IsPlaced}
use Rattle.node_guarantees.specs.Promised.{IsHonest, StaysSafe}
use Rattle.node_guarantees.specs.Sends.{IsSigned, AreSigned}
use Rattle.node_guarantees.specs.Telling.{KeepsIf}
use Rattle.node_guarantees.specs.Ways.{Numbered, ways}
use Rattle.lasting_lines.specs.Batches.{parts}
use Rattle.lasting_lines.specs.Files.{written}
use Rattle.lasting_lines.specs.Lines.{after, recovered, done_text}
use Rattle.lasting_lines.specs.Lives.{Run, AreLives, IsLeft}
use Rattle.lasting_lines.specs.Serving.{state, IsPrefix}
use Rattle.lasting_lines.specs.declared.played.Played.{Played}
use Rattle.node_lines.specs.Texts.{effect_text}
use Rattle.node_lines.specs.declared.effects.Effect.{Effect}
use Rattle.node_lines.specs.declared.effects.Effect.TheVariants as kinds
use Rattle.node_lines.specs.declared.events.NodeEvent.{NodeEvent}
use Rattle.lasting_node.specs.Machines.{taken, number, effects_of, line_ways, node_ways, unplayed}
use Rattle.lasting_node.specs.Queries.{resent}
use Rattle.lasting_node.specs.declared.machine.NodeMachine.{NodeMachine}
use Rattle.lasting_node.specs.declared.taking.NotTaken.{NotTaken}

-- ---- the node stands for its history

-- the watcher stands for the whole history
pub record HasFollowed (h : List Entry) (l : Lookout) : Type 0 where
  pub count : l.seen ≡ length h
  pub stands : StandsFor real h l.watcher

-- The history is legal, and its entries keep the limits of their format. The node has this key, stands for the
-- history and has followed all of it, and memory didn't fail it. Its watcher has followed all of it too.
pub record IsStanding (key : List ℕ) (m : NodeMachine) : Type 0 where
  pub legal : Legal real m.ledger
  pub valid : AllByRecursion IsValidEntry m.ledger
  pub own : ways.key m.node ≡ key
  pub stands : IsPlaced m.ledger m.node
  pub able : m.node.node.is_lost ≡ false
  pub seen : ways.seen m.node ≡ length m.ledger
  pub watcher : HasFollowed m.ledger m.lookout

-- what the journal of a node signed
abbrev pub made_by : Numbered → List Signature
made_by p = signed_by real (told p)

-- It is safe where nothing is forged, no hashed strings collide, and its watchers are in time.
abbrev pub IsSafeIf : List Entry → List ℕ → List Told → Type 0
IsSafeIf h key events =
    AreValid h (lines_of key events) → Unforged real key h (lines_of key events)
    → NoneCollide (hashed h (lines_of key events)) → InTime real h (lines_of key events) → StaysSafe h key events

-- The node's journal is honest and by the rules, and no index of the key signs twice in it. It called no challenge
-- but one that it signed right before, as itself, and what it sends again it has signed. Where its premises hold, no
-- channel of its person becomes final with an outcome older than its newest supported state. The person keeps its
-- share, is paid on its exit, signs fairly and ends well.
pub record Keeps (m : NodeMachine) : Type 0 where
  pub honest : IsHonest m.ledger (ways.key m.node) (told m.node)
  pub challenges : CallsOwnChallenges (ways.key m.node) (told m.node)
  pub again : AreSigned (made_by m.node) (resent m.node)
  pub safe : IsSafeIf m.ledger (ways.key m.node) (told m.node)
  pub keeps : KeepsIf m.ledger (ways.key m.node) (told m.node)

-- after the lines of these records
abbrev pub machine_after : Signing → List (List ℕ) → NodeMachine
machine_after signer batches = (state node_ways (unplayed signer) batches).machine

-- the lines of a file's records
abbrev pub batches_in : Signing → List ℕ → List (List ℕ)
batches_in signer file = recovered node_ways (unplayed signer) file

-- ---- what is sent is signed once

-- the string that a challenge of this state of a channel signs
abbrev pub challenge_string : (channel : List ℕ) → (state : StateParts) → (challenger : ℕ) → List ℕ
challenge_string channel state challenger = message_of_challenge (real.digest channel state) challenger

-- a challenge's signature is among these, of the newest state of its chain
pub record IsSignedChallenge (made : List Signature) (k : ChallengeCall) : Type 0 where
  pub state : StateParts
  pub newest : newest k.chain.states ≡ Some state
  pub there :
      In (record { message = challenge_string (real.named k.chain.fixed) state k.challenger; bytes = k.signature }) made

abbrev pub IsSignedCall : List Signature → Call → Type 0
IsSignedCall made (Challenge k) = IsSignedChallenge made k
IsSignedCall made call = Unit {0}

-- a message that is sent spells a state that is signed among these, and a challenge that is called is signed among them
abbrev pub IsSent : List Signature → Effect → Type 0
IsSent made (kinds.Send to bytes) = IsSigned made bytes
IsSent made (kinds.Call place call) = IsSignedCall made call
IsSent made effect = Unit {0}

-- The effects of an event, with its number.
pub record Answer : Type 0 where
  pub event : ℕ
  pub effects : List Effect

abbrev pub answer_text : Answer → List ℕ
answer_text a = flat_map (effect_text a.event) a.effects

-- The answers to the lines of a record, with the record's number and mark.
pub record Response : Type 0 where
  pub answers : List Answer
  pub count : ℕ
  pub mark : List ℕ

-- what is written of it
abbrev pub response_text : Response → List ℕ
response_text r = flat_map answer_text r.answers ++ done_text r.count r.mark

abbrev pub answer_if : NodeMachine → Result NodeEvent NotTaken → List Answer
answer_if m (Err why) = []
answer_if m (Ok event) = record { event = number m; effects = effects_of event m } ∷ []

-- to lines, one after the other
abbrev pub answers_to : NodeMachine → List (List ℕ) → List Answer
answers_to m [] = []
answers_to m (line ∷ lines) = answer_if m (taken m line) ++ answers_to (line_ways.next m line) lines

-- to the lines of records
abbrev pub responses : Played NodeMachine → List (List ℕ) → List Response
responses p [] = []
responses p (batch ∷ batches) =
    record {
      answers = answers_to p.machine (parts batch);
      count = p.count + 1;
      mark = (after node_ways p batch).mark;
    } ∷ responses (after node_ways p batch) batches

abbrev pub IsSentIn : List Signature → Answer → Type 0
IsSentIn made a = AllByRecursion (IsSent made) a.effects

abbrev pub AreSent : List Signature → Response → Type 0
AreSent made r = AllByRecursion (IsSentIn made) r.answers

-- What each run of a file wrote is a prefix of the responses to the lines that are in it in the end. Each message
-- that is sent in them spells a state that the journal of its machine signed. Each challenge that is called is one
-- that it signed. There no two messages are signed with one index of the key.
pub record SignsOnceOver (signer : Signing) (runs : List Run) (file : List ℕ) : Type 0 where
  pub story :
      AllByRecursion (λ run. IsPrefix (written run.before run.ops)
      (flat_map response_text (responses (unplayed signer) (batches_in signer file)))) runs
  pub sent :
      AllByRecursion (AreSent (made_by (machine_after signer (batches_in signer file)).node))
      (responses (unplayed signer) (batches_in signer file))
  pub once : SignsOnce real (told (machine_after signer (batches_in signer file)).node)

-- ---- the laws, of one key

-- After any records, so of any file, the node stands for its history.
abbrev pub LastingStands : Signing → Type 0
LastingStands signer =
    (batches : List (List ℕ)) → IsStanding (made_key signer.seed signer.id signer.h) (machine_after signer batches)

-- And it keeps what it promises its person.
abbrev pub LastingKeeps : Signing → Type 0
LastingKeeps signer = (batches : List (List ℕ)) → Keeps (machine_after signer batches)

-- Over any crashes and restarts of one file no index of the key signs two messages.
abbrev pub LastingIndicesOnce : Signing → Type 0
LastingIndicesOnce signer =
    (runs : List Run) (file : List ℕ) → AreLives node_ways (unplayed signer) runs → IsLeft file runs
    → SignsOnceOver signer runs file

pub record Lasts (signer : Signing) : Type 0 where
  pub stands : LastingStands signer
  pub keeps : LastingKeeps signer
  pub once : LastingIndicesOnce signer

-- so of each key that has signed nothing
abbrev pub NodesLast : Type 0
NodesLast = (signer : Signing) → IsFresh signer → Lasts signer
