-- What people vote for, of a ledger and of a joint channel, is what their signatures may move.
use Rattle.std.specs.Prelude.{◌≡◌, ℕ, ◌+◌, ◌≤◌, true, false, List, [], ◌∷◌}
use Rattle.std.specs.Str.{bytes_eq}
use Rattle.channel_values.specs.Outcomes.{AreApart, pays_same}
use Rattle.channel_values.specs.declared.value.Dest.TheVariants.{Person, Channel}
use Rattle.channel_values.specs.declared.value.Item.{Item}
use Rattle.channel_values.specs.Amounts.{amt, has}
use Rattle.share_laws.specs.Books.{Books}
use Rattle.funding_plans.specs.declared.plan.Virtual.{Virtual}
use Rattle.share_laws.specs.Items.{set_aside, taken_back, apart, together}
use Rattle.share_laws.specs.Moves.{SetsAside, IsApart, IsTogether, IsApartBetween, IsTogetherBetween}

-- what the ledger sets aside, of each of its two people
abbrev pub SetAsideFits : Type 0
SetAsideFits =
    (first second x : List ℕ) (a c : ℕ) (items : List Item) → bytes_eq first second ≡ false →
    has items (Channel x) ≡ false → a ≤ amt items (Person first) → c ≤ amt items (Person second) →
    SetsAside first x a (a + c) items (set_aside first second x a c items)
    × SetsAside second x c (a + c) items (set_aside first second x a c items)

-- what goes back of it
abbrev pub TakenBackFits : Type 0
TakenBackFits =
    (first second x : List ℕ) (a c : ℕ) (items : List Item) → bytes_eq first second ≡ false → AreApart pays_same items →
    has items (Channel x) ≡ true → amt items (Channel x) ≡ a + c → has items (Person first) ≡ true
    → has items (Person second) ≡ true →
    SetsAside first x a (a + c) (taken_back first second x a c items) items
    × SetsAside second x c (a + c) (taken_back first second x a c items) items

-- the joint channel of the ends
abbrev pub ApartFits : Type 0
ApartFits =
    (first second middle x : List ℕ) (a c : ℕ) → bytes_eq first second ≡ false →
    IsApart first x a (apart first second middle a c) × IsApart second x c (apart first second middle a c)

abbrev pub TogetherFits : Type 0
TogetherFits =
    (me middle x : List ℕ) (all : ℕ) → bytes_eq middle me ≡ false → IsTogether me x all (together middle x all)

-- and of the intermediary, whose guarantors' lists have the payment channel, an end, and the intermediary
abbrev pub JointFits : Type 0
JointFits =
    (b : Books) (first second middle : List ℕ) (a c : ℕ) (v : Virtual) → v.total ≡ a + c →
    bytes_eq first second ≡ false → bytes_eq first middle ≡ false → bytes_eq second middle ≡ false →
    b.list v.guarantor_a ≡ Channel v.channel ∷ Person first ∷ Person middle ∷ [] →
    b.list v.guarantor_b ≡ Channel v.channel ∷ Person second ∷ Person middle ∷ [] →
    IsApartBetween b middle v a c (apart first second middle a c)
    × IsTogetherBetween b middle v (together middle v.channel (a + c))
