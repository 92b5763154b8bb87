-- What the one whose turn it is signs of a direct payment channel of two people, at each stage, over any rules of
-- channels.
use Rattle.std.specs.Prelude.{◌≡◌, ℕ, ◌+◌, ◌%◌, ◌<◌, ◌^◌, nat_lt, Bool, true, false, List, [], ◌∷◌, Option, Some, None}
use Rattle.std.specs.Str.{bytes_eq}
use Rattle.channel_values.specs.Parts.{StateParts}
use Rattle.channel_values.specs.Digests.{name_of_person}
use Rattle.channel_values.specs.Rules.{Rules}
use Rattle.history_view.specs.Views.{unseen}
use Rattle.channel_node.specs.Minds.{facts_of}
use Rattle.channel_node.specs.Refusing.{signs_in}
use Rattle.funding_plans.specs.Limits.{is_valid}
use Rattle.script_run.specs.Pair.{mind, mark, marks_a, marks_b, state, split, funded}
use Rattle.script_run.specs.Table.{stages, is_running}
use Rattle.script_run.specs.TwoPeople.{Pair, fixed, name}

-- What is asked of the two and of what they begin with.
pub record Begins (r : Rules) (p : Pair) : Type 0 where
  pub valid : is_valid (split p p.a p.b) ≡ true
  pub apart : bytes_eq (name_of_person p.key_a) (name_of_person p.key_b) ≡ false
  pub repeats : (turn : ℕ) → turn < 3 → r.step (fixed p) (state p turn false p.a p.b) (state p (turn + 1) false p.a p.b) ≡ None
  pub some_a : 0 < p.a
  pub some_b : 0 < p.b

-- While the channel opens each of the two signs its two states of the set-up: the first round at once, the second
-- once both deposits are seen. Then the channel runs.
pub record PairsOpen (r : Rules) (p : Pair) : Type 0 where
  pub first : (last : Option StateParts) → signs_in stages r None (mind r p 0 p.key_a false unseen [] [] last) (name r p) ≡ Some (state p 0 false p.a p.b)
  pub second : (last : Option StateParts) (ga : List ℕ) → signs_in stages r None (mind r p 1 p.key_b false unseen (state p 0 false p.a p.b ∷ []) (mark 0 ga ∷ []) last) (name r p) ≡ Some (state p 1 false p.a p.b)
  pub third :
      (last : Option StateParts) (ga gb : List ℕ)
      → signs_in stages r None (mind r p 0 p.key_a false (funded r p) (state p 0 false p.a p.b ∷ state p 1 false p.a p.b ∷ []) (marks_b ga gb) last) (name r p) ≡ Some (state p 2 false p.a p.b)
  pub fourth :
      (last : Option StateParts) (ga gb : List ℕ)
      → signs_in stages r None (mind r p 1 p.key_b false (funded r p) (state p 1 false p.a p.b ∷ state p 2 false p.a p.b ∷ []) (marks_a ga gb) last) (name r p) ≡ Some (state p 3 false p.a p.b)
  pub runs :
      (me : ℕ) (key : List ℕ) (last : Option StateParts) (ga gb : List ℕ)
      → is_running (facts_of (mind r p me key false (funded r p) (state p 2 false p.a p.b ∷ state p 3 false p.a p.b ∷ []) (marks_b ga gb) last)) (name r p) ≡ true

-- From Close on, in a channel whose latest state has this turn and these amounts, each signs a final state at its turn.
pub record PairsEnd (r : Rules) (p : Pair) (turn x y : ℕ) (final : Bool) : Type 0 where
  pub by_first :
      (last : Option StateParts) (ga gb : List ℕ) (before u v : ℕ) → (turn + 1) % 2 ≡ 0
      → signs_in stages r None (mind r p 0 p.key_a true (funded r p) (state p before false u v ∷ state p turn final x y ∷ []) (marks_b ga gb) last) (name r p) ≡ Some (state p (turn + 1) true x y)
  pub by_second :
      (last : Option StateParts) (ga gb : List ℕ) (before u v : ℕ) → (turn + 1) % 2 ≡ 1
      → signs_in stages r None (mind r p 1 p.key_b true (funded r p) (state p before false u v ∷ state p turn final x y ∷ []) (marks_a ga gb) last) (name r p) ≡ Some (state p (turn + 1) true x y)

abbrev pub PairsSign : Type 0
PairsSign =
    (r : Rules) (p : Pair)
    → (Begins r p → PairsOpen r p)
    × ((turn x y : ℕ) (final : Bool) → nat_lt (turn + 1) (2 ^ 48) ≡ true → r.step (fixed p) (state p turn final x y) (state p (turn + 1) true x y) ≡ None → PairsEnd r p turn x y final)
