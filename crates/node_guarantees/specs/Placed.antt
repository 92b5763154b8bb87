-- When a node stands for a history, and what it noted of its exit is right.
use Rattle.std.specs.Prelude.{◌≡◌, ◌≤◌, ℕ, false, List, [], ◌∷◌, ◌++◌, length, Option, Some, None}
use Rattle.call_history.specs.declared.entry.Entry.{Entry}
use Rattle.channel_node.specs.Keys.{FitsSigner}
use Rattle.channel_node.specs.Nodes.{told_of}
use Rattle.channel_node.specs.Standing.{Stands}
use Rattle.channel_node.specs.Places.{Told, AreFew, mind_at}
use Rattle.channel_node.specs.Playing.{signing_of}
use Rattle.stage_tables.specs.Stages.{stages}
use Rattle.support_rules.specs.Real.{real}
use Rattle.channel_node.specs.Exiting.{until_exit}
use Rattle.node_guarantees.specs.Gains.{shares_known}
use Rattle.node_guarantees.specs.Ways.{Numbered, key_of, seen_of}

-- how many entries had been followed at the newest of these events
abbrev pub seen_at : List Told → ℕ
seen_at [] = 0
seen_at (x ∷ front) = x.seen

-- These shares are those that a node with this key knew at a place: after the entries `past`, as many as it had
-- followed, and these events.
pub record IsKnownAt (h : List Entry) (key : List ℕ) (amounts : List (ℕ × ℕ)) (front : List Told) : Type 0 where
  pub later : List Entry
  pub past : List Entry
  pub split : h ≡ later ++ past
  pub seen : length past ≡ seen_at front
  pub shares : amounts ≡ shares_known (mind_at real key past front)

-- where there was a command to exit, and there alone, shares were noted, which are those known just after it
abbrev pub IsNoted : List Entry → List ℕ → Option (List (ℕ × ℕ)) → Option (List Told) → Type 0
IsNoted h key None None = Unit {0}
IsNoted h key (Some amounts) (Some front) = IsKnownAt h key amounts front
IsNoted h key _ _ = ⊥

-- It has followed no more than there is. Where no channel of the history has more people than values have, it stands
-- for the history, with a signer whose signatures verify. Unless memory failed it, what it noted is right.
pub record IsPlaced (h : List Entry) (p : Numbered) : Type 0 where
  pub sound : FitsSigner p.node.signer
  pub within : seen_of p.node ≤ length h
  pub stands : AreFew h → Stands stages real (signing_of p.node.signer) h p.node
  pub noted : AreFew h → p.node.is_lost ≡ false → IsNoted h (key_of p.node.signer) p.exits (until_exit (told_of p.node))
