-- How many channels a node keeps.
use Rattle.std.specs.Prelude.{◌≡◌, ◌≤◌, ℕ, List, false, length}
use Rattle.funding_plans.specs.Parts.{channels}
use Rattle.channel_node.specs.Minds.{Mind}
use Rattle.channel_node.specs.Nodes.{NodeOf}
use Rattle.node_guarantees.specs.Ways.{key_of}

-- no more than its plan has, which are at most 64
pub record KeepsFew (m : Mind) : Type 0 where
  pub kept : length m.kept ≤ length (channels m.parts)
  pub planned : length (channels m.parts) ≤ 64

-- so where memory didn't fail it
abbrev pub IsSmall : NodeOf → Type 0
IsSmall n = n.is_lost ≡ false → KeepsFew n.mind

-- the key is that of its signer, and it keeps few channels
pub record IsNode (key : List ℕ) (n : NodeOf) : Type 0 where
  pub own : key ≡ key_of n.signer
  pub small : IsSmall n
