-- What a node keeps, whatever comes to it: it called its own challenges alone, and knows each channel by its name and
-- by its own place there.
use Rattle.std.specs.Prelude.{◌≡◌, ℕ, false, List, Some, slice_get}
use Rattle.std.specs.List.{AllByRecursion}
use Rattle.call_history.specs.declared.entry.Entry.{Entry}
use Rattle.channel_store.specs.declared.kept.Kept.{Kept}
use Rattle.channel_node.specs.Minds.{Mind}
use Rattle.channel_node.specs.Nodes.{NodeOf, told_of}
use Rattle.network.specs.Standing.{AreKept}
use Rattle.node_guarantees.specs.Commanded.{told}
use Rattle.node_guarantees.specs.Placed.{IsPlaced}
use Rattle.node_guarantees.specs.Ways.{Numbered, key_of, ways}
use Rattle.node_guarantees.specs.Challenges.{CallsOwnChallenges}
use Rattle.node_guarantees.specs.Telling.{ChallengesAreOwn}
use Rattle.support_rules.specs.Real.{real}

-- what is kept of a channel has its name, and its place there is the key's
pub record IsNamed (key : List ℕ) (k : Kept) : Type 0 where
  pub name : real.named k.chain.fixed ≡ k.channel
  pub mine : slice_get k.chain.fixed.keys k.me ≡ Some key

-- so of all that is kept of the person with this key
pub record IsMindOf (key : List ℕ) (m : Mind) : Type 0 where
  pub same : m.key ≡ key
  pub named : AllByRecursion (IsNamed key) m.kept

pub record Owns (key : List ℕ) (n : NodeOf) : Type 0 where
  pub calls : CallsOwnChallenges key (told_of n)
  pub mind : IsMindOf key n.mind

-- It stands for the history, and, unless memory failed it, keeps that.
pub record StandsOwning (h : List Entry) (p : Numbered) : Type 0 where
  pub placed : IsPlaced h p
  pub owning : p.node.is_lost ≡ false → Owns (key_of p.node.signer) p.node

-- Whatever a node is commanded, handed or shown of a legal history, it stands so.
abbrev pub NodesStandOwning : Type 0
NodesStandOwning = AreKept ways StandsOwning

-- and so it calls its own challenges alone
abbrev pub NodesCallTheirOwn : Type 0
NodesCallTheirOwn = ChallengesAreOwn ways StandsOwning (λ p. p.node.is_lost) told
