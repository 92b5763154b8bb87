-- A small plan in which the premises on moves hold together: a ledger sets money aside for a channel, and a joint
-- channel joins what two ledgers guarantee.
use Rattle.std.specs.Prelude.{◌≡◌, ℕ, true, false, List, [], ◌∷◌, if◌then◌else◌}
use Rattle.std.specs.Str.{bytes_eq}
use Rattle.channel_values.specs.declared.value.Dest.{Dest}
use Rattle.channel_values.specs.declared.value.Dest.TheVariants.{Person, Channel}
use Rattle.channel_values.specs.declared.value.Item.{Item}
use Rattle.funding_plans.specs.declared.plan.Part.{Part}
use Rattle.funding_plans.specs.declared.plan.Part.TheVariants.{Root, OnLedger, Middle}
use Rattle.funding_plans.specs.declared.plan.Virtual.{Virtual}
use Rattle.share_laws.specs.Books.{Books}
use Rattle.share_laws.specs.Worth.{no_reach}
use Rattle.share_laws.specs.Funded.{are_funded}
use Rattle.share_laws.specs.Plans.{IsPlan}
use Rattle.share_laws.specs.Moves.{owing, IsFair}
use Rattle.share_laws.specs.Items.{pays, set_aside, apart, together}

abbrev pub name : ℕ → List ℕ
name n = n ∷ []

abbrev pub me : List ℕ
me = name 1

abbrev pub ann : List ℕ
ann = name 2

abbrev pub bob : List ℕ
bob = name 3

-- ledgers 10 and 11, a channel 12, and a virtual channel 16 with guarantors 13 and 14 and joint channel 15
abbrev pub between : Virtual
between = record {
  ledger_a = name 10;
  ledger_b = name 11;
  guarantor_a = name 13;
  guarantor_b = name 14;
  joint = name 15;
  channel = name 16;
  asset = 0;
  total = 5;
  side_b = false;
}

abbrev pub parts : List Part
parts = Root (name 10) ∷ Root (name 11) ∷ OnLedger (name 10) (name 12) ∷ Middle between ∷ []

abbrev pub held : List ℕ → ℕ
held n = if bytes_eq n (name 10) then 25 else (if bytes_eq n (name 11) then 25 else 0)

abbrev pub items : List ℕ → List Item
items n =
    if bytes_eq n (name 10) then pays (Person me) 10 ∷ pays (Person ann) 10 ∷ pays (Channel (name 13)) 5 ∷ []
    else (if bytes_eq n (name 11) then pays (Person me) 10 ∷ pays (Person bob) 10 ∷ pays (Channel (name 14)) 5 ∷ []
    else (if bytes_eq n (name 12) then pays (Person me) 4 ∷ pays (Person ann) 2 ∷ []
    else (if bytes_eq n (name 15) then apart ann bob me 2 3 else [])))

abbrev pub lists : List ℕ → List Dest
lists n =
    if bytes_eq n (name 13) then Channel (name 16) ∷ Person ann ∷ Person me ∷ []
    else (if bytes_eq n (name 14) then Channel (name 16) ∷ Person bob ∷ Person me ∷ [] else [])

abbrev pub books : Books
books = owing held (λ n. true) lists items

-- the plan is funded, and both moves are fair
abbrev pub PremisesHold : Type 0
PremisesHold =
    IsPlan parts × (are_funded books me parts no_reach ≡ true)
    × IsFair books me parts (name 10) (set_aside me ann (name 12) 4 2 (items (name 10)))
    × IsFair books me parts (name 15) (together me (name 16) 5)
