-- The channel runs: what both hold of it.
use Rattle.std.specs.Prelude.{◌≡◌, ℕ, ◌+◌, ◌%◌, Bool, true, false, cond, List, [], ◌∷◌, nat_le, Option}
use Rattle.channel_values.specs.Parts.{StateParts}
use Rattle.channel_values.specs.declared.chain.Mark.{Mark}
use Rattle.channel_node.specs.Minds.{Mind}
use Rattle.channel_node.specs.Playing.{SignerOf}
use Rattle.node_guarantees.specs.Ways.{Numbered}
use Rattle.script_play.specs.Play.{SceneOf}
use Rattle.step_meanings.specs.declared.names.Names.{Names}
use Rattle.support_rules.specs.Real.{real}
use Rattle.script_run.specs.Entries.{deposits}
use Rattle.script_run.specs.Pair.{mind, marks_a, marks_b, state, funded}
use Rattle.script_run.specs.TwoPeople.{Pair}
use Rattle.script_run.specs.Finish.{At, both}

-- the two run the channel, of which they hold these two states
abbrev pub a_runs : Pair → Bool → (older latest : StateParts) → List Mark → Option StateParts → Mind
a_runs p closing older latest marks last = mind real p 0 p.key_a closing (funded real p) (older ∷ latest ∷ []) marks last

abbrev pub b_runs : Pair → Bool → (older latest : StateParts) → List Mark → Option StateParts → Mind
b_runs p closing older latest marks last = mind real p 1 p.key_b closing (funded real p) (older ∷ latest ∷ []) marks last

-- by whose turn is next: the other signed last
abbrev pub marks_by : Bool → (ga gb : List ℕ) → List Mark
marks_by next_a ga gb = cond next_a (marks_b ga gb) (marks_a ga gb)

abbrev pub parity : Bool → ℕ
parity next_a = cond next_a 0 1

-- Both hold the same two states, of which the latest has this turn and these amounts; the history is the two
-- deposits, and no message is on its way.
pub record Standing (p : Pair) (sa sb : SignerOf) (names : Names) (next_a : Bool) (turn x y ua ub : ℕ) (s : SceneOf Numbered) : Type 0 where
  pub before : ℕ
  pub u : ℕ
  pub v : ℕ
  pub ga : List ℕ
  pub gb : List ℕ
  pub last_a : Option StateParts
  pub last_b : Option StateParts
  pub late : nat_le 3 turn ≡ true
  pub whose : (turn + 1) % 2 ≡ parity next_a
  pub sum : x + y ≡ p.a + p.b
  pub at :
      At names (deposits real p) (both p sa sb ua ub (a_runs p false (state p before false u v) (state p turn false x y) (marks_by next_a ga gb) last_a)
      (b_runs p false (state p before false u v) (state p turn false x y) (marks_by next_a ga gb) last_b)) [] s
