-- Good chains.
use Rattle.std.specs.Prelude.{◌≡◌, ℕ, ◌<◌, true, List, [], ◌∷◌, length, Option, Some, None, ◌⊎◌}
use Rattle.std.specs.List.{slice_get}
use Rattle.channel_values.specs.Parts.{FixedParts, StateParts}
use Rattle.channel_values.specs.declared.chain.Mark.{Mark}
use Rattle.channel_values.specs.Rules.{Rules, people, signs_state}
use Rattle.channel_values.specs.Supported.{Rises, AreSteps}
use Rattle.call_history.specs.Marked.{Marked, is_supported}

-- each state has the turn after the one before it, and follows from it
abbrev pub InTurn : List StateParts → Type 0
InTurn [] = Unit {0}
InTurn (s ∷ rest) = Rises s rest

abbrev pub InSteps : Rules → FixedParts → List StateParts → Type 0
InSteps r f [] = Unit {0}
InSteps r f (s ∷ rest) = AreSteps r f s rest

-- fewer than n states, of turns 0 and on, each following and with its mover's mark
pub record IsYoung (r : Rules) (f : FixedParts) (w : Marked) : Type 0 where
  pub few : length w.states < people f
  pub marks : length w.marks ≡ length w.states
  pub first : (s : StateParts) → slice_get w.states 0 ≡ Some s → s.turn ≡ 0
  pub turns : InTurn w.states
  pub steps : InSteps r f w.states
  pub at : (i : ℕ) (mark : Mark) → slice_get w.marks i ≡ Some mark → mark.place ≡ i
  pub well : (i : ℕ) (mark : Mark) (s : StateParts) → slice_get w.marks i ≡ Some mark → slice_get w.states i ≡ Some s
      → signs_state r f i s mark.signature ≡ true

-- the first round so far, or a supported chain
abbrev pub IsGood : Rules → FixedParts → Marked → Type 0
IsGood r f w = IsYoung r f w ⊎ (is_supported r f w ≡ true)

-- what is held, where the channel is in the plan
abbrev pub IsGoodIfAny : Rules → FixedParts → Option Marked → Type 0
IsGoodIfAny r f None = Unit {0}
IsGoodIfAny r f (Some w) = IsGood r f w
