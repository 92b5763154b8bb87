-- What a chain that supports a turn has, condition by condition, over any rules.
use Rattle.std.specs.Prelude.{◌≡◌, ◌↔◌, ◌≤◌, ◌<◌, ℕ, suc, ◌+◌, Bool, true, List, [], ◌∷◌, length, drop, Some, None, Ok}
use Rattle.std.specs.List.{slice_get}
use Rattle.channel_values.specs.Parts.{FixedParts, StateParts}
use Rattle.channel_values.specs.declared.chain.Mark.{Mark}
use Rattle.channel_values.specs.declared.chain.Chain.{Chain}
use Rattle.channel_values.specs.Rows.{mover, last_of, last_turn}
use Rattle.channel_values.specs.Rules.{Rules, people, newest, top_turn, signs_state}
use Rattle.channel_values.specs.Support.{is_marked_well, support_of, verified_marks, supports}

-- each state has the turn after the one before it, the first after s
abbrev pub Rises : StateParts → List StateParts → Type 0
Rises s [] = Unit {0}
Rises s (t ∷ ts) = (t.turn ≡ s.turn + 1) × Rises t ts

-- each state follows from the one before it, the first from s
abbrev pub AreSteps : Rules → FixedParts → StateParts → List StateParts → Type 0
AreSteps r f s [] = Unit {0}
AreSteps r f s (t ∷ ts) = (r.step f s t ≡ None) × AreSteps r f t ts

-- a row of states: there is one, and each follows at the next turn
abbrev pub IsRow : Rules → FixedParts → List StateParts → Type 0
IsRow r f [] = ⊥
IsRow r f (s ∷ ss) = Rises s ss × AreSteps r f s ss

-- The states from the one on that has this place and on which participant j's mark stands: it isn't before j's last
-- turn, is that turn's where j moved to it, and every step from it to the end is there.
pub record FromMark (r : Rules) (f : FixedParts) (states : List StateParts) (turn j place : ℕ) : Type 0 where
  pub state : StateParts
  pub there : slice_get states place ≡ Some state
  pub late : last_turn (people f) j turn ≤ state.turn
  pub own : mover (people f) state.turn ≡ j → state.turn ≡ last_turn (people f) j turn
  pub rises : Rises state (drop (suc place) states)
  pub steps : AreSteps r f state (drop (suc place) states)
  pub few : length (drop (suc place) states) < people f
  pub last : newest states ≡ Some (last_of state (drop (suc place) states))

pub record IsSupported (r : Rules) (chain : Chain) (verified : List Bool) (turn : ℕ) : Type 0 where
  pub row : IsRow r chain.fixed chain.states
  pub few : length chain.states ≤ people chain.fixed
  pub marks : length chain.marks ≡ people chain.fixed
  pub top : top_turn chain.states ≡ turn
  pub all_had_a_turn : people chain.fixed ≤ turn + 1
  pub each : (j : ℕ) (mark : Mark) → slice_get chain.marks j ≡ Some mark →
      (slice_get verified j ≡ Some true) × FromMark r chain.fixed chain.states turn j mark.place

-- a chain that supports a turn has all of that
abbrev pub SupportTells : Type 0
SupportTells =
    (r : Rules) (chain : Chain) (verified : List Bool) (turn : ℕ)
    → support_of r chain verified ≡ Ok turn → IsSupported r chain verified turn

-- participant j's mark stands: on a state of the chain whose turn is at least j's last turn, and which key j verifies
pub record Stands (r : Rules) (chain : Chain) (turn j : ℕ) (mark : Mark) : Type 0 where
  pub state : StateParts
  pub there : slice_get chain.states mark.place ≡ Some state
  pub late : last_turn (people chain.fixed) j turn ≤ state.turn
  pub signed : signs_state r chain.fixed j state mark.signature ≡ true

-- the conditions on which a chain supports a turn
pub record Supports (r : Rules) (chain : Chain) (turn : ℕ) : Type 0 where
  pub row : IsRow r chain.fixed chain.states
  pub few : length chain.states ≤ people chain.fixed
  pub marks : length chain.marks ≡ people chain.fixed
  pub top : top_turn chain.states ≡ turn
  pub all_had_a_turn : people chain.fixed ≤ turn + 1
  pub each : (j : ℕ) (mark : Mark) → slice_get chain.marks j ≡ Some mark → Stands r chain turn j mark

-- A chain supports a turn exactly on these conditions.
abbrev pub SupportIsExact : Type 0
SupportIsExact = (r : Rules) (chain : Chain) (turn : ℕ) → supports r chain ≡ Ok turn ↔ Supports r chain turn

-- a truth value for each mark: whether its participant's key verifies the state at its place
pub record AreOfMarks (r : Rules) (chain : Chain) (verified : List Bool) : Type 0 where
  pub as_many : length verified ≡ length chain.marks
  pub each : (j : ℕ) (mark : Mark) → slice_get chain.marks j ≡ Some mark
      → slice_get verified j ≡ Some (is_marked_well r chain.fixed j mark.signature (slice_get chain.states mark.place))

-- Each chain has truth values for its marks, no others, and what it supports is what it supports with them.
abbrev pub SupportIsByMarks : Type 0
SupportIsByMarks =
    (r : Rules) (chain : Chain)
    → AreOfMarks r chain (verified_marks r chain)
    × ((verified : List Bool) → AreOfMarks r chain verified → support_of r chain verified ≡ supports r chain)
