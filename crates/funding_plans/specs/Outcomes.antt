-- How a ledger sets money aside for a channel on it, and takes it back.
use Rattle.std.specs.Prelude.{ℕ, ◌+◌, ◌-◌, ◌==◌, Bool, true, false, not, List, [], ◌∷◌, ◌++◌, if◌then◌else◌, map, filter, min, ◌^◌}
use Rattle.channel_values.specs.declared.value.Dest.{Dest}
use Rattle.channel_values.specs.declared.value.Dest.TheVariants.{Person, Channel}
use Rattle.channel_values.specs.declared.value.Item.{Item}
use Rattle.channel_values.specs.declared.value.Shape.TheVariants.{Allocation}
use Rattle.channel_values.specs.declared.value.AssetOutcome.{AssetOutcome}
use Rattle.channel_values.specs.Outcomes.{is_same}
use Rattle.channel_values.specs.Amounts.{amt, has}
use Rattle.funding_plans.specs.Shapes.{items_in}
use Rattle.funding_plans.specs.declared.child.Child.{Child}

-- what two people have in an outcome
abbrev pub amounts_in : ℕ → List ℕ → List ℕ → List AssetOutcome → ℕ × ℕ
amounts_in asset first second os = (amt (items_in asset os) (Person first), amt (items_in asset os) (Person second))

abbrev pub with_items_at : ℕ → List Item → AssetOutcome → AssetOutcome
with_items_at asset items o = if o.asset == asset then record { asset = asset; shape = Allocation items } else o

-- the outcome with other items for that asset
abbrev pub with_items : ℕ → List Item → List AssetOutcome → List AssetOutcome
with_items asset items os = map (with_items_at asset items) os

-- A difference is cut at 0, and a sum at the largest amount.
abbrev pub plus : ℕ → ℕ → ℕ
plus a b = min (a + b) (2 ^ 64 - 1)

-- what of the child's money comes from a destination
abbrev pub part_of : Child → Dest → ℕ
part_of k to = if is_same to (Person k.first) then k.a else (if is_same to (Person k.second) then k.b else 0)

abbrev pub is_item_of : Child → Item → Bool
is_item_of k i = is_same i.to (Channel k.name)

-- the ledger names the child
abbrev pub names : Child → List AssetOutcome → Bool
names k os = has (items_in k.asset os) (Channel k.name)

abbrev pub lowered : Child → Item → Item
lowered k i = record { to = i.to; amount = i.amount - part_of k i.to }

abbrev pub raised : Child → Item → Item
raised k i = record { to = i.to; amount = plus i.amount (part_of k i.to) }

-- up: the two people's items fall, and the child's is appended
abbrev pub items_up : Child → List Item → List Item
items_up k items = map (lowered k) items ++ record { to = Channel k.name; amount = plus k.a k.b } ∷ []

-- down: the child's item is removed, and theirs rise
abbrev pub items_down : Child → List Item → List Item
items_down k items = map (raised k) (filter (λ i. not (is_item_of k i)) items)

abbrev pub changed_items : Bool → Child → List Item → List Item
changed_items true k items = items_up k items
changed_items false k items = items_down k items

abbrev pub changed : Bool → Child → List AssetOutcome → List AssetOutcome
changed is_up k os = with_items k.asset (changed_items is_up k (items_in k.asset os)) os

-- the ledger's outcome with the child, or itself where it names the child already
abbrev pub up : Child → List AssetOutcome → List AssetOutcome
up k os = if names k os then os else changed true k os

-- changed back, or itself where it doesn't name the child
abbrev pub down : Child → List AssetOutcome → List AssetOutcome
down k os = if names k os then changed false k os else os

abbrev pub moved : Bool → Child → List AssetOutcome → List AssetOutcome
moved true k os = up k os
moved false k os = down k os
