-- Flows of funds, and the balances that they sum up to.
use Rattle.std.specs.Prelude.{◌≡◌, ◌≤◌, ◌<◌, ◌+◌, ◌^◌, ◌-◌, ◌==◌, ◌&&◌, ◌++◌, ◌∷◌, [], ℕ, List, Bool, true, false, if◌then◌else◌, Option, Some, None, sum_by, flat_map}
use Rattle.std.specs.List.{list_any}
use Rattle.std.specs.Str.{bytes_eq}
use Rattle.channel_values.specs.Outcomes.{is_same}
use Rattle.channel_values.specs.declared.value.Dest.{Dest}
use Rattle.channel_values.specs.declared.value.Dest.TheVariants.{Person, Channel}
use Rattle.call_history.specs.declared.funds.Flow.{Flow}
use Rattle.call_history.specs.declared.funds.Payment.{Payment}

abbrev pub is_person : Dest → Bool
is_person (Person person) = true
is_person (Channel channel) = false

-- what a flow carries of an asset
abbrev pub carries : ℕ → Flow → ℕ
carries asset flow = if flow.asset == asset then flow.amount else 0

abbrev pub comes_from : List ℕ → Option (List ℕ) → Bool
comes_from channel None = false
comes_from channel (Some source) = bytes_eq source channel

abbrev pub is_outside : Option (List ℕ) → Bool
is_outside None = true
is_outside (Some source) = false

-- what a flow brings to a destination, takes out of a channel, and brings from outside, of an asset
abbrev pub brings : Dest → ℕ → Flow → ℕ
brings to asset flow = if is_same flow.to to then carries asset flow else 0

abbrev pub takes : List ℕ → ℕ → Flow → ℕ
takes channel asset flow = if comes_from channel flow.from then carries asset flow else 0

abbrev pub enters : ℕ → Flow → ℕ
enters asset flow = if is_outside flow.from then carries asset flow else 0

abbrev pub into : List Flow → Dest → ℕ → ℕ
into flows to asset = sum_by (brings to asset) flows

abbrev pub out_of : List Flow → List ℕ → ℕ → ℕ
out_of flows channel asset = sum_by (takes channel asset) flows

-- what a channel holds of an asset, what a person was paid of it, and what came from outside
abbrev pub held_in : List Flow → List ℕ → ℕ → ℕ
held_in flows channel asset = into flows (Channel channel) asset - out_of flows channel asset

abbrev pub paid_in : List Flow → List ℕ → ℕ → ℕ
paid_in flows person asset = into flows (Person person) asset

abbrev pub deposited_in : List Flow → ℕ → ℕ
deposited_in flows asset = sum_by (enters asset) flows

-- no channel paid out more than it received
abbrev pub AreCovered : List Flow → Type 0
AreCovered flows = (channel : List ℕ) (asset : ℕ) → out_of flows channel asset ≤ into flows (Channel channel) asset

-- no channel paid out more than it received, and no more than 2^64 - 1 of any asset was deposited
pub record AreWithinAmounts (flows : List Flow) : Type 0 where
  pub covered : AreCovered flows
  pub deposits : (asset : ℕ) → deposited_in flows asset < 2 ^ 64

-- whether a name is among these
abbrev pub is_among : List ℕ → List (List ℕ) → Bool
is_among name names = list_any (bytes_eq name) names

-- these names, each once
abbrev pub distinct : List (List ℕ) → List (List ℕ)
distinct [] = []
distinct (name ∷ names) = if is_among name names then distinct names else name ∷ distinct names

abbrev pub channel_of : Dest → List (List ℕ)
channel_of (Channel channel) = channel ∷ []
channel_of (Person person) = []

abbrev pub person_of : Dest → List (List ℕ)
person_of (Channel channel) = []
person_of (Person person) = person ∷ []

abbrev pub source_of : Option (List ℕ) → List (List ℕ)
source_of None = []
source_of (Some source) = source ∷ []

-- the channels and the persons that flows name
abbrev pub channels_named : List Flow → List (List ℕ)
channels_named flows = flat_map (λ flow. source_of flow.from ++ channel_of flow.to) flows

abbrev pub persons_named : List Flow → List (List ℕ)
persons_named flows = flat_map (λ flow. person_of flow.to) flows

-- what all channels hold and all persons were paid, of an asset
abbrev pub held_by_all : List Flow → ℕ → ℕ
held_by_all flows asset = sum_by (λ channel. held_in flows channel asset) (distinct (channels_named flows))

abbrev pub paid_to_all : List Flow → ℕ → ℕ
paid_to_all flows asset = sum_by (λ person. paid_in flows person asset) (distinct (persons_named flows))

-- of each asset, what came from outside is what the channels hold and what the persons were paid
abbrev pub AreConserved : List Flow → Type 0
AreConserved flows = (asset : ℕ) → deposited_in flows asset ≡ held_by_all flows asset + paid_to_all flows asset

-- One more flow changes these balances: of its source, of its destination, and where it comes from outside what was
-- deposited. Where a channel pays itself, what it holds stays.
pub record HasMoved (old : List Flow) (flow : Flow) (new : List Flow) : Type 0 where
  pub held : (channel : List ℕ) (asset : ℕ)
      → held_in new channel asset
      ≡ (held_in old channel asset + brings (Channel channel) asset flow) - takes channel asset flow
  pub paid : (person : List ℕ) (asset : ℕ)
      → paid_in new person asset ≡ paid_in old person asset + brings (Person person) asset flow
  pub deposited : (asset : ℕ) → deposited_in new asset ≡ deposited_in old asset + enters asset flow

-- what was paid of an item
abbrev pub pays : List ℕ → ℕ → ℕ → Payment → ℕ
pays channel asset place payment =
    if bytes_eq payment.channel channel && ((payment.asset == asset) && (payment.place == place))
    then payment.amount else 0

abbrev pub paid_of_item : List Payment → List ℕ → ℕ → ℕ → ℕ
paid_of_item payments channel asset place = sum_by (pays channel asset place) payments
