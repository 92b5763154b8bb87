-- The sums of flows: what was deposited of each asset, what channels hold, and what persons were paid.
use Rattle.std.specs.Prelude.{ℕ, ◌==◌, List, [], ◌∷◌, ◌++◌, map, flat_map, replicate, if◌then◌else◌}
use Rattle.channel_values.specs.declared.value.Dest.TheVariants.{Person, Channel}
use Rattle.call_history.specs.Flows.{held_in, paid_in, deposited_in}
use Rattle.call_history.specs.declared.funds.Flow.{Flow}
use Rattle.asset_holder.specs.Receipts.{Pair, assets_of, receivers_of}
use Rattle.run_record.specs.declared.run_record.Sum.{Sum}
use Rattle.run_record.specs.declared.run_record.SumOf.{SumOf}
use Rattle.run_record.specs.declared.run_record.SumOf.TheVariants.{Deposited, Held, Paid}

-- nobody's name
abbrev pub no_name : List ℕ
no_name = replicate 32 0

abbrev pub sum_with : SumOf → List ℕ → (asset amount : ℕ) → Sum
sum_with kind name asset amount = record { kind = kind; name = name; asset = asset; amount = amount }

-- none where the amount is 0
abbrev pub sum_if : SumOf → List ℕ → (asset amount : ℕ) → List Sum
sum_if kind name asset amount = if amount == 0 then [] else sum_with kind name asset amount ∷ []

abbrev pub deposited_sum : List Flow → ℕ → Sum
deposited_sum flows asset = sum_with Deposited no_name asset (deposited_in flows asset)

-- of a channel alone, and of a person alone
abbrev pub held_sum : List Flow → Pair → List Sum
held_sum flows (Channel channel, asset) = sum_if Held channel asset (held_in flows channel asset)
held_sum flows (Person person, asset) = []

abbrev pub paid_sum : List Flow → Pair → List Sum
paid_sum flows (Person person, asset) = sum_if Paid person asset (paid_in flows person asset)
paid_sum flows (Channel channel, asset) = []

-- by asset, rising; then channels, and then persons, in the order in which they first received something
abbrev pub sums_of : List Flow → List Sum
sums_of flows =
    map (deposited_sum flows) (assets_of flows)
    ++ (flat_map (held_sum flows) (receivers_of flows) ++ flat_map (paid_sum flows) (receivers_of flows))
