-- The items that people vote for: of a ledger, and of a joint channel.
use Rattle.std.specs.Prelude.{ℕ, ◌+◌, ◌-◌, List, [], ◌∷◌, ◌++◌, if◌then◌else◌}
use Rattle.channel_values.specs.Outcomes.{is_same}
use Rattle.channel_values.specs.declared.value.Dest.{Dest}
use Rattle.channel_values.specs.declared.value.Dest.TheVariants.{Person, Channel}
use Rattle.channel_values.specs.declared.value.Item.{Item}

abbrev pub pays : Dest → ℕ → Item
pays to amount = record { to = to; amount = amount }

-- d's item lowered or raised by k
abbrev pub lowered : Dest → ℕ → List Item → List Item
lowered d k [] = []
lowered d k (x ∷ xs) = if is_same x.to d then pays x.to (x.amount - k) ∷ xs else x ∷ lowered d k xs

abbrev pub raised : Dest → ℕ → List Item → List Item
raised d k [] = []
raised d k (x ∷ xs) = if is_same x.to d then pays x.to (x.amount + k) ∷ xs else x ∷ raised d k xs

abbrev pub without : Dest → List Item → List Item
without d [] = []
without d (x ∷ xs) = if is_same x.to d then xs else x ∷ without d xs

-- A ledger of two people: what it sets aside for the channel x comes from both.
abbrev pub set_aside : (first second x : List ℕ) (a c : ℕ) → List Item → List Item
set_aside first second x a c items =
    lowered (Person first) a (lowered (Person second) c items) ++ pays (Channel x) (a + c) ∷ []

-- and goes back to both
abbrev pub taken_back : (first second x : List ℕ) (a c : ℕ) → List Item → List Item
taken_back first second x a c items = raised (Person first) a (raised (Person second) c (without (Channel x) items))

-- A joint channel: two amounts for the ends, and both together for the intermediary
abbrev pub apart : (first second middle : List ℕ) (a c : ℕ) → List Item
apart first second middle a c = pays (Person first) a ∷ pays (Person second) c ∷ pays (Person middle) (a + c) ∷ []

-- or all for the payment channel, and as much for the intermediary
abbrev pub together : (middle x : List ℕ) (all : ℕ) → List Item
together middle x all = pays (Channel x) all ∷ pays (Person middle) all ∷ []
