-- What an accepted command promises of the channels and the part that it opens.
use Rattle.std.specs.Prelude.{◌≡◌, ℕ, ◌+◌, ◌^◌, ◌<◌, true, false, List, [], ◌∷◌, ◌++◌, length, map, filter, slice_index_or, None}
use Rattle.std.specs.Str.{bytes_eq}
use Rattle.channel_values.specs.Parts.{FixedParts}
use Rattle.call_history.specs.Naming.{name_of}
use Rattle.channel_store.specs.Storing.{kept_of}
use Rattle.channel_store.specs.declared.kept.Kept.{Kept}
use Rattle.funding_plans.specs.declared.plan.Goal.{Goal}
use Rattle.funding_plans.specs.declared.plan.Part.{Part}
use Rattle.network.specs.declared.command.Command.{Command}
use Rattle.network.specs.declared.command.Command.TheVariants.{Open, OpenOn, OpenVirtual}
use Rattle.channel_node.specs.Minds.{Mind}
use Rattle.channel_node.specs.Openings.{takes_part, opened}
use Rattle.support_rules.specs.Real.{real}
use Rattle.support_rules.specs.Steps.{persons}

-- what is kept of those of these channels in which the participant with this key is one
abbrev pub joined : List ℕ → List FixedParts → List Kept
joined key fs = map (opened real key) (filter (takes_part key) fs)

-- none of those is kept yet, as they are added one after the other
abbrev pub CanJoin : List ℕ → List FixedParts → List Kept → Type 0
CanJoin key [] kept = Unit {0}
CanJoin key (f ∷ fs) kept = (takes_part key f ≡ true → kept_of (name_of f) kept ≡ None) × CanJoin key fs (kept ++ joined key (f ∷ []))

-- with a part more, and what is commanded of it
abbrev pub with_part : Part → Goal → Mind → Mind
with_part part goal m = record m { parts = m.parts ++ part ∷ []; goals = m.goals ++ goal ∷ [] }

-- these channels can be added, and there is room for a part more
pub record CanOpen (m : Mind) (fs : List FixedParts) : Type 0 where
  pub channels : CanJoin m.key fs m.kept
  pub room : length m.parts < 64

-- the channel's first two people differ, and both amounts together are one
pub record CanShare (f : FixedParts) (amounts : ℕ × ℕ) : Type 0 where
  pub apart : bytes_eq (slice_index_or (persons f) 0 []) (slice_index_or (persons f) 1 []) ≡ false
  pub within : amounts.0 + amounts.1 < 2 ^ 64

abbrev pub CanTake : Command → Mind → Type 0
CanTake (Open f outcome) m = CanOpen m (f ∷ [])
CanTake (OpenOn o) m = CanOpen m (o.fixed ∷ []) × CanShare o.fixed o.amounts
CanTake (OpenVirtual v) m = CanOpen m (v.guarantors.0 ∷ v.guarantors.1 ∷ v.joint ∷ v.channel ∷ []) × CanShare v.channel v.amounts
CanTake _ m = Unit {0}
