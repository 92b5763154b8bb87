-- When a node stands for a history.
use Rattle.std.specs.Prelude.{◌≡◌, ℕ, ◌≤◌, false, List, ◌∷◌, ◌++◌, length, None}
use Rattle.std.specs.List.{flat_map}
use Rattle.channel_values.specs.Rules.{Rules}
use Rattle.call_history.specs.Rows.{fixed_of}
use Rattle.call_history.specs.declared.call.Call.{Call}
use Rattle.call_history.specs.declared.entry.Entry.{Entry}
use Rattle.channel_safety.specs.Journals.{In, is_watched}
use Rattle.channel_store.specs.Keeping.{held_chain}
use Rattle.history_view.specs.Few.{OfFew}
use Rattle.network.specs.Watching.{looks}
use Rattle.channel_node.specs.Tables.{Tables}
use Rattle.channel_node.specs.Places.{Told, mind_at, AreFew}
use Rattle.channel_node.specs.Playing.{Signing, signings, pending, Plays}
use Rattle.channel_node.specs.Nodes.{NodeOf, told_of}

-- A node that knows what its journal says at the place up to which it followed the history.
pub record Knows (r : Rules) (s : Signing) (h : List Entry) (n : NodeOf) : Type 0 where
  pub later : List Entry
  pub past : List Entry
  pub split : h ≡ later ++ past
  pub few : AreFew past
  pub mind : n.mind ≡ mind_at r s.key past (told_of n)
  pub used : n.used ≡ signings (told_of n)
  pub before : (y : Told) → In y (told_of n) → is_watched y.deed ≡ false → y.seen ≤ length past
  pub waits : pending (told_of n) ≡ None

-- Its journal is one that the rules give over the whole history, of which it followed the beginning.
pub record Stands (t : Tables) (r : Rules) (s : Signing) (h : List Entry) (n : NodeOf) : Type 0 where
  pub plays : Plays t r s h (told_of n)
  pub knows : n.is_lost ≡ false → Knows r s h n

-- the entry, of few people, comes next in the history for the node
abbrev pub ComesNext : List Entry → Entry → NodeOf → Type 0
ComesNext h e n = (later : List Entry) × (past : List Entry) × (h ≡ later ++ e ∷ past) × (length past ≡ n.mind.view.count) × OfFew (fixed_of e.op)

-- These are the calls of a look, by the chains that the node holds, of a watcher that followed so many entries, no
-- fewer than the node.
pub record Looks (r : Rules) (h : List Entry) (seen : ℕ) (given : List Call) (n : NodeOf) : Type 0 where
  pub within : seen ≤ length h
  pub after : n.mind.view.count ≤ seen
  pub are : (later past : List Entry) → h ≡ later ++ past → length past ≡ seen → AreFew past × (given ≡ looks r past (flat_map held_chain n.mind.kept))
