-- Which outcomes there are.
use Rattle.std.specs.Prelude.{◌≡◌, ℕ, ◌^◌, ◌<◌, ◌≤◌, Bool, false, List, [], ◌∷◌, length, slice_index, nat_le, sum_by}
use Rattle.std.specs.List.{AllByRecursion, list_any}
use Rattle.std.specs.Str.{bytes_eq}
use Rattle.channel_values.specs.declared.value.Dest.{Dest}
use Rattle.channel_values.specs.declared.value.Dest.TheVariants.{Person, Channel}
use Rattle.channel_values.specs.declared.value.Item.{Item}
use Rattle.channel_values.specs.declared.value.Shape.{Shape}
use Rattle.channel_values.specs.declared.value.Shape.TheVariants.{Allocation, Guarantee}
use Rattle.channel_values.specs.declared.value.AssetOutcome.{AssetOutcome}

abbrev pub AreBytes : List ℕ → Type 0
AreBytes bytes = (i : ℕ) → slice_index bytes i < 256

abbrev pub IsName : List ℕ → Type 0
IsName name = (length name ≡ 32) × AreBytes name

abbrev pub IsDest : Dest → Type 0
IsDest (Person name) = IsName name
IsDest (Channel name) = IsName name

abbrev pub is_same : Dest → Dest → Bool
is_same (Person a) (Person b) = bytes_eq a b
is_same (Person a) (Channel b) = false
is_same (Channel a) (Person b) = false
is_same (Channel a) (Channel b) = bytes_eq a b

-- no item stands in the relation to a later one
abbrev pub AreApart : {X : Type 0} → (X → X → Bool) → List X → Type 0
AreApart meets [] = Unit {0}
AreApart meets (x ∷ xs) = (list_any (meets x) xs ≡ false) × AreApart meets xs

abbrev pub pays_same : Item → Item → Bool
pays_same a b = is_same a.to b.to

abbrev pub IsItem : Item → Type 0
IsItem item = IsDest item.to × (item.amount < 2 ^ 64)

-- the sum of the amounts
abbrev pub total : List Item → ℕ
total items = sum_by (λ item. item.amount) items

-- items of one asset: each destination once, and a total that fits
pub record AreItems (items : List Item) : Type 0 where
  pub each : AllByRecursion IsItem items
  pub apart : AreApart pays_same items
  pub within : total items < 2 ^ 64

pub record AreDests (dests : List Dest) : Type 0 where
  pub each : AllByRecursion IsDest dests
  pub apart : AreApart is_same dests

-- what each value of the types is
abbrev pub FitsShape : Shape → Type 0
FitsShape (Allocation items) = AllByRecursion IsItem items
FitsShape (Guarantee target dests) = IsName target × AllByRecursion IsDest dests

abbrev pub FitsAsset : AssetOutcome → Type 0
FitsAsset o = (o.asset < 2 ^ 32) × FitsShape o.shape

abbrev pub IsShape : Shape → Type 0
IsShape (Allocation items) = (length items ≤ 16) × AreItems items
IsShape (Guarantee target dests) = IsName target × (length dests ≤ 16) × AreDests dests

abbrev pub IsAssetOutcome : AssetOutcome → Type 0
IsAssetOutcome o = (o.asset < 2 ^ 32) × IsShape o.shape

-- the second asset isn't above the first
abbrev pub is_unordered : AssetOutcome → AssetOutcome → Bool
is_unordered a b = nat_le b.asset a.asset

pub record AreAssets (os : List AssetOutcome) : Type 0 where
  pub each : AllByRecursion IsAssetOutcome os
  pub rising : AreApart is_unordered os

-- at most four assets, which rise
abbrev pub IsOutcome : List AssetOutcome → Type 0
IsOutcome os = (length os ≤ 4) × AreAssets os
