-- What a ledger sets aside and takes back, one item after the other: the same where each destination has one item.
use Rattle.std.specs.Prelude.{◌≡◌, ◌<◌, ◌+◌, ◌^◌, false, List}
use Rattle.std.specs.List.{AllByRecursion}
use Rattle.std.specs.Str.{bytes_eq}
use Rattle.channel_values.specs.declared.value.Item.{Item}
use Rattle.channel_values.specs.Outcomes.{pays_same, AreApart}
use Rattle.funding_plans.specs.declared.child.Child.{Child}
use Rattle.funding_plans.specs.Outcomes.{items_up, items_down}
use Rattle.share_laws.specs.Items.{set_aside, taken_back}

abbrev pub UpSetsAside : Type 0
UpSetsAside =
    (k : Child) (items : List Item) → AreApart pays_same items → bytes_eq k.first k.second ≡ false → k.a + k.b < 2 ^ 64 →
    items_up k items ≡ set_aside k.first k.second k.name k.a k.b items

-- each amount has room for what comes back
abbrev pub HasRoom : Child → Item → Type 0
HasRoom k i = i.amount + (k.a + k.b) < 2 ^ 64

abbrev pub DownTakesBack : Type 0
DownTakesBack =
    (k : Child) (items : List Item) → AreApart pays_same items → bytes_eq k.first k.second ≡ false → AllByRecursion (HasRoom k) items →
    items_down k items ≡ taken_back k.first k.second k.name k.a k.b items
