-- What an outcome has for an asset.
use Rattle.std.specs.Prelude.{ℕ, Bool, List, [], Option, Some, None}
use Rattle.std.specs.List.{list_any, position_or_len}
use Rattle.channel_values.specs.declared.value.AssetOutcome.{AssetOutcome}
use Rattle.channel_values.specs.declared.value.Dest.{Dest}
use Rattle.channel_values.specs.declared.value.Item.{Item}
use Rattle.channel_values.specs.declared.value.Shape.{Shape}
use Rattle.channel_values.specs.declared.value.Shape.TheVariants.{Allocation, Guarantee}
use Rattle.channel_values.specs.Outcomes.{is_same}
use Rattle.call_history.specs.Dues.{shape_in}

-- the items of an allocation, and the list of a guarantee
abbrev pub items_of : Option Shape → List Item
items_of (Some (Allocation items)) = items
items_of _ = []

abbrev pub list_of : Option Shape → List Dest
list_of (Some (Guarantee target list)) = list
list_of _ = []

-- of an asset
abbrev pub items_in : ℕ → List AssetOutcome → List Item
items_in asset os = items_of (shape_in os asset)

abbrev pub list_in : ℕ → List AssetOutcome → List Dest
list_in asset os = list_of (shape_in os asset)

-- whether and where a destination is listed
abbrev pub is_listed : List Dest → Dest → Bool
is_listed list to = list_any (λ d. is_same d to) list

abbrev pub position_of : List Dest → Dest → ℕ
position_of list to = position_or_len (λ d. is_same d to) list
