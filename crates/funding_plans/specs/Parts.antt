-- The channels of a plan.
use Rattle.std.specs.Prelude.{ℕ, Bool, true, false, List, [], ◌∷◌, if◌then◌else◌}
use Rattle.std.specs.List.{flat_map}
use Rattle.funding_plans.specs.declared.plan.Part.{Part}
use Rattle.funding_plans.specs.declared.plan.Part.TheVariants.{Root, OnLedger, End, Middle}
use Rattle.funding_plans.specs.declared.plan.Virtual.{Virtual}

abbrev pub own_ledger : Virtual → List ℕ
own_ledger v = if v.side_b then v.ledger_b else v.ledger_a

abbrev pub own_guarantor : Virtual → List ℕ
own_guarantor v = if v.side_b then v.guarantor_b else v.guarantor_a

-- the channel that a part is about
abbrev pub own_channel : Part → List ℕ
own_channel (Root channel) = channel
own_channel (OnLedger ledger channel) = channel
own_channel (End v) = v.channel
own_channel (Middle v) = v.channel

-- the guarantors, the joint channel and the payment channel
abbrev pub channels_of_virtual : Virtual → List (List ℕ)
channels_of_virtual v = v.guarantor_a ∷ v.guarantor_b ∷ v.joint ∷ v.channel ∷ []

abbrev pub channels_of : Part → List (List ℕ)
channels_of (Root channel) = channel ∷ []
channels_of (OnLedger ledger channel) = channel ∷ []
channels_of (End v) = channels_of_virtual v
channels_of (Middle v) = channels_of_virtual v

-- the channels of a plan, by its parts in their order
abbrev pub channels : List Part → List (List ℕ)
channels parts = flat_map channels_of parts

-- those of them in which the person of the part is a participant
abbrev pub joined_of : Part → List (List ℕ)
joined_of (Root channel) = channel ∷ []
joined_of (OnLedger ledger channel) = channel ∷ []
joined_of (End v) = own_guarantor v ∷ v.joint ∷ v.channel ∷ []
joined_of (Middle v) = v.guarantor_a ∷ v.guarantor_b ∷ v.joint ∷ []

-- the ledgers on which a part stands
abbrev pub ledgers_of : Part → List (List ℕ)
ledgers_of (Root channel) = []
ledgers_of (OnLedger ledger channel) = ledger ∷ []
ledgers_of (End v) = own_ledger v ∷ []
ledgers_of (Middle v) = v.ledger_a ∷ v.ledger_b ∷ []

-- the stages in which a part is running and closed
abbrev pub running : Part → ℕ
running (Root channel) = 3
running (OnLedger ledger channel) = 3
running (End v) = 5
running (Middle v) = 5

abbrev pub closed : Part → ℕ
closed (Root channel) = 6
closed (OnLedger ledger channel) = 6
closed (End v) = 9
closed (Middle v) = 9
