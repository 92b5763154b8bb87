-- The calls of an exit: those by which a person is paid for its plan once its channels are final.
use Rattle.std.specs.Prelude.{ℕ, ◌==◌, nat_lt, Bool, ◌&&◌, List, [], ◌∷◌, ◌++◌, Option, Some, None, if◌then◌else◌}
use Rattle.std.specs.List.{flat_map, list_any}
use Rattle.channel_values.specs.declared.value.AssetOutcome.{AssetOutcome}
use Rattle.channel_values.specs.declared.value.Dest.{Dest}
use Rattle.channel_values.specs.declared.value.Dest.TheVariants.{Person, Channel}
use Rattle.channel_values.specs.declared.value.Item.{Item}
use Rattle.channel_values.specs.Amounts.{has}
use Rattle.channel_values.specs.Places.{place_of}
use Rattle.call_history.specs.Flows.{is_among}
use Rattle.call_history.specs.declared.call.Call.{Call}
use Rattle.call_history.specs.Calls.{make_transfer, make_claim}
use Rattle.funding_plans.specs.Parts.{own_guarantor, channels, ledgers_of}
use Rattle.funding_plans.specs.Shapes.{items_in, list_in, is_listed, position_of}
use Rattle.funding_plans.specs.declared.plan.Part.{Part}
use Rattle.funding_plans.specs.declared.plan.Part.TheVariants.{Root, OnLedger, End, Middle}

-- what each channel ended with, if it did
abbrev pub Ended : Type 0
Ended = List ℕ → Option (List AssetOutcome)

-- ---- one call, where its item is there

abbrev pub transfer_if : List ℕ → Option (List AssetOutcome) → Dest → ℕ → List Call
transfer_if channel None to asset = []
transfer_if channel (Some o) to asset =
    if has (items_in asset o) to then make_transfer channel o asset (place_of (items_in asset o) to) ∷ [] else []

-- a transfer of a destination's item of an asset
abbrev pub transfer_to : Ended → List ℕ → Dest → ℕ → List Call
transfer_to ended channel to asset = transfer_if channel (ended channel) to asset

abbrev pub claim_if : List ℕ → Option (List AssetOutcome) → List ℕ → Option (List AssetOutcome) → Dest → ℕ → List Call
claim_if guarantor (Some promise) target (Some o) to asset =
    if is_listed (list_in asset promise) to && has (items_in asset o) to
    then make_claim guarantor promise target o asset (position_of (list_in asset promise) to) ∷ []
    else []
claim_if guarantor _ target _ to asset = []

-- a claim from a guarantor of a destination's item of the target
abbrev pub claim_for : Ended → (guarantor target : List ℕ) → Dest → ℕ → List Call
claim_for ended guarantor target to asset = claim_if guarantor (ended guarantor) target (ended target) to asset

-- ---- the calls of a part, of one asset

-- a transfer to a channel of these names
abbrev pub transfer_among : Ended → List ℕ → List (List ℕ) → ℕ → Dest → List Call
transfer_among ended root names asset (Person person) = []
transfer_among ended root names asset (Channel channel) =
    if is_among channel names then transfer_to ended root (Channel channel) asset else []

abbrev pub items_ended : Option (List AssetOutcome) → ℕ → List Item
items_ended None asset = []
items_ended (Some o) asset = items_in asset o

-- to the channels that a channel names, in the items' order, then to the person
abbrev pub transfers_of : Ended → List ℕ → List (List ℕ) → List ℕ → ℕ → List Call
transfers_of ended me names c asset =
    flat_map (λ item. transfer_among ended c names asset item.to) (items_ended (ended c) asset) ++ transfer_to ended c (Person me) asset

abbrev pub root_calls : Ended → List ℕ → List (List ℕ) → Part → ℕ → List Call
root_calls ended me names (Root c) asset = transfers_of ended me names c asset
root_calls ended me names _ asset = []

-- a part stands on the channel
abbrev pub is_ledger : List Part → List ℕ → Bool
is_ledger parts name = list_any (λ part. is_among name (ledgers_of part)) parts

-- the channels to which the channel of an end passes on what it is paid: those of the plan, where it is a virtual
-- ledger
abbrev pub passed_to : List Part → List ℕ → List (List ℕ)
passed_to parts name = if is_ledger parts name then channels parts else []

-- another part's, in a plan of these parts: the claims for the channel before those for the person
abbrev pub other_calls : Ended → List ℕ → List Part → Part → ℕ → List Call
other_calls ended me parts (Root c) asset = []
other_calls ended me parts (OnLedger l c) asset = transfer_to ended c (Person me) asset
other_calls ended me parts (End v) asset =
    claim_for ended (own_guarantor v) v.joint (Channel v.channel) asset
    ++ (claim_for ended (own_guarantor v) v.joint (Person me) asset
    ++ transfers_of ended me (passed_to parts v.channel) v.channel asset)
other_calls ended me parts (Middle v) asset =
    claim_for ended v.guarantor_a v.joint (Channel v.channel) asset
    ++ (claim_for ended v.guarantor_b v.joint (Channel v.channel) asset
    ++ (claim_for ended v.guarantor_a v.joint (Person me) asset
    ++ claim_for ended v.guarantor_b v.joint (Person me) asset))

-- ---- the list

-- the channels that pay in a part's exit
abbrev pub exits : Part → List (List ℕ)
exits (Root c) = c ∷ []
exits (OnLedger l c) = c ∷ []
exits (End v) = v.channel ∷ own_guarantor v ∷ []
exits (Middle v) = v.guarantor_a ∷ v.guarantor_b ∷ []

-- an asset in its place among others, once
abbrev pub put : ℕ → List ℕ → List ℕ
put asset [] = asset ∷ []
put asset (a ∷ rest) = if asset == a then a ∷ rest else if nat_lt asset a then asset ∷ a ∷ rest else a ∷ put asset rest

abbrev pub put_all : List AssetOutcome → List ℕ → List ℕ
put_all [] assets = assets
put_all (o ∷ os) assets = put o.asset (put_all os assets)

abbrev pub put_ended : Option (List AssetOutcome) → List ℕ → List ℕ
put_ended None assets = assets
put_ended (Some os) assets = put_all os assets

-- the assets of what these channels ended with, rising
abbrev pub assets_of : Ended → List (List ℕ) → List ℕ
assets_of ended [] = []
assets_of ended (c ∷ cs) = put_ended (ended c) (assets_of ended cs)

-- of each asset of a part's channels that pay
abbrev pub of_each : Ended → (Part → ℕ → List Call) → Part → List Call
of_each ended calls part = flat_map (calls part) (assets_of ended (exits part))

-- the calls of the roots, then those of the other parts
abbrev pub exit_calls : Ended → List ℕ → List Part → List Call
exit_calls ended me parts =
    flat_map (of_each ended (root_calls ended me (channels parts))) parts ++ flat_map (of_each ended (other_calls ended me parts)) parts
