-- The journal that a node's rules make is honest.
use Rattle.std.specs.Prelude.{◌≡◌, ◌≤◌, ℕ, true, false, List, ◌∷◌, ◌++◌, length}
use Rattle.std.specs.List.{All}
use Rattle.channel_values.specs.Parts.{FixedParts}
use Rattle.channel_values.specs.Rules.{Rules}
use Rattle.call_history.specs.History.{Legal}
use Rattle.call_history.specs.declared.call.Call.{Call}
use Rattle.call_history.specs.declared.entry.Entry.{Entry}
use Rattle.channel_store.specs.Storing.{kept_of}
use Rattle.channel_safety.specs.Held.{held}
use Rattle.channel_store.specs.Laws.{KeepsHeld}
use Rattle.channel_safety.specs.Honest.{Honest}
use Rattle.channel_node.specs.Nodes.{NodeOf, new_node, told_of, handled, ticked, challenged_all, gave_one, gave, told_to, saw_one, watched}
use Rattle.channel_node.specs.Standing.{Stands, ComesNext, Looks}
use Rattle.channel_node.specs.Leaving.{MayCall}
use Rattle.channel_node.specs.Giving.{after_tick}
use Rattle.channel_node.specs.Tables.{Tables}
use Rattle.channel_node.specs.Places.{Told, lines_of, mind_at, AreFew}
use Rattle.channel_node.specs.Playing.{Signing, SignerOf, signing_of, SignsWell, Plays}
use Rattle.network.specs.declared.command.Command.{Command}
use Rattle.channel_node.specs.Exits.{LeavesForGood}

abbrev pub KeptIsHeld : Type 0
KeptIsHeld =
    (r : Rules) (key : List ℕ) (f : FixedParts) (past : List Entry) (journal : List Told) → Legal r past → AreFew past
    → KeepsHeld f (kept_of (r.named f) (mind_at r key past journal).kept) (held r f past (lines_of key journal))

abbrev pub PlayedJournalsAreHonest : Type 0
PlayedJournalsAreHonest =
    (t : Tables) (r : Rules) (s : Signing) (h : List Entry) (journal : List Told) → SignsWell r s → Legal r h → Plays t r s h journal
    → Honest r s.key h (lines_of s.key journal)

abbrev pub PlayedJournalsLeaveForGood : Type 0
PlayedJournalsLeaveForGood =
    (t : Tables) (r : Rules) (s : Signing) (h : List Entry) (newer : List Told) (x : Told) (front : List Told) → Legal r h
    → Plays t r s h (newer ++ x ∷ front) → LeavesForGood x front

-- ---- nodes

-- A node stands for the history that it stood for after a message, a command, and a tick with its states, challenges
-- and calls. So it does after a look and an entry that comes next.
pub record CallsStand (t : Tables) (r : Rules) (s : Signing) (h : List Entry) (n : NodeOf) : Type 0 where
  pub handles : (bytes : List ℕ) → Stands t r s h (handled t r bytes n)
  pub tells : (step : ℕ) (command : Command) → Stands t r s h (told_to t r s step command n)
  pub ticks : (channels : List (List ℕ)) → Stands t r s h (ticked t r s channels n)
  pub challenges : (channels : List (List ℕ)) → Stands t r s h (challenged_all r s channels n)
  pub gives : (call : Call) → MayCall t n.mind call → Stands t r s h (gave_one n call)
  pub gives_all : (calls : List Call) → All (MayCall t n.mind) calls → Stands t r s h (gave calls n)
  pub ticks_all : Stands t r s h (after_tick t r s n)
  pub watches : (seen watcher : ℕ) (given : List Call) → Looks r h seen given n → Stands t r s h (watched seen watcher given n)
  pub sees : (e : Entry) → ComesNext h e n → Stands t r s h (saw_one r n e)

abbrev pub CallsKeepStanding : Type 0
CallsKeepStanding = (t : Tables) (r : Rules) (s : Signing) (h : List Entry) (n : NodeOf) → Legal r h → n.is_lost ≡ false → Stands t r s h n → CallsStand t r s h n

-- a new node stands for every history
abbrev pub FreshNodesStand : Type 0
FreshNodesStand = (t : Tables) (r : Rules) (signer : SignerOf) (h : List Entry) → Stands t r (signing_of signer) h (new_node signer)

-- and a node whose memory ran out stands as long as its journal and its commands stay
abbrev pub LostNodesStand : Type 0
LostNodesStand =
    (t : Tables) (r : Rules) (s : Signing) (h : List Entry) (n new : NodeOf) → new.is_lost ≡ true → new.journal ≡ n.journal → new.commands ≡ n.commands
    → Stands t r s h n → Stands t r s h new

-- the journal of a node that stands for a legal history is honest
abbrev pub StandingNodesAreHonest : Type 0
StandingNodesAreHonest =
    (t : Tables) (r : Rules) (s : Signing) (h : List Entry) (n : NodeOf) → SignsWell r s → Legal r h → Stands t r s h n → Honest r s.key h (lines_of s.key (told_of n))

-- ---- longer histories

-- a node that stands for a history stands for it with one more entry, and has followed no more than there is
abbrev pub StandingGrows : Type 0
StandingGrows = (t : Tables) (r : Rules) (s : Signing) (h : List Entry) (e : Entry) (n : NodeOf) → Stands t r s h n → Stands t r s (e ∷ h) n

abbrev pub FollowsWithin : Type 0
FollowsWithin = (t : Tables) (r : Rules) (s : Signing) (h : List Entry) (n : NodeOf) → Legal r h → n.is_lost ≡ false → Stands t r s h n → n.mind.view.count ≤ length h
