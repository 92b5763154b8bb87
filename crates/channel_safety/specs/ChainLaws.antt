-- What a chain stays as states are added that pass the tests.
use Rattle.std.specs.Prelude.{◌≡◌, ◌+◌, ◌≤◌, true, Some}
use Rattle.channel_values.specs.Parts.{FixedParts}
use Rattle.channel_values.specs.declared.chain.Signed.{Signed}
use Rattle.channel_values.specs.Rules.{Rules, people, newest}
use Rattle.call_history.specs.Marked.{Marked, is_supported, answered, extends}
use Rattle.channel_safety.specs.Good.{IsGood}

-- the longer chain is good again, ends with the state, and is supported from turn n-1 on
pub record Grown (r : Rules) (f : FixedParts) (s : Signed) (w : Marked) : Type 0 where
  pub good : IsGood r f (answered f s w)
  pub ends : newest (answered f s w).states ≡ Some s.state
  pub chain : people f ≤ s.state.turn + 1 → is_supported r f (answered f s w) ≡ true

abbrev pub GoodChainsGrow : Type 0
GoodChainsGrow =
    (r : Rules) (f : FixedParts) (s : Signed) (w : Marked) → IsGood r f w → extends r f s w ≡ true → Grown r f s w
