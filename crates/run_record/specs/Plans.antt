-- When the share of a plan can be determined, and what it is after a history, the newest entry first.
use Rattle.std.specs.Prelude.{◌≡◌, ◌≤◌, ℕ, Bool, true, false, not, ◌&&◌, count_by, List, [], ◌∷◌, ◌++◌, map, Option, Some, None, if◌then◌else◌}
use Rattle.std.specs.List.{filter, flat_map, list_all}
use Rattle.std.specs.Str.{bytes_eq}
use Rattle.channel_values.specs.declared.value.AssetOutcome.{AssetOutcome}
use Rattle.call_history.specs.Mode.{is_final}
use Rattle.channel_values.specs.Rules.{Rules}
use Rattle.call_history.specs.Flows.{is_among}
use Rattle.call_history.specs.History.{mode, paid_to, rest_of_channel}
use Rattle.call_history.specs.Same.{same_outcome}
use Rattle.call_history.specs.declared.entry.Entry.{Entry}
use Rattle.call_history.specs.declared.held_chain.Known.{Known}
use Rattle.funding_plans.specs.Parts.{channels, joined_of, ledgers_of}
use Rattle.funding_plans.specs.declared.plan.Part.{Part}
use Rattle.funding_plans.specs.declared.plan.Part.TheVariants.{Root, OnLedger, End, Middle}
use Rattle.funding_plans.specs.declared.plan.Plan.{Plan}
use Rattle.share_laws.specs.Books.{Counting}
use Rattle.share_laws.specs.Places.{possible_if, counting_of, balances}
use Rattle.share_laws.specs.Share.{share_of}

-- ---- what the channels of a plan can end with

-- the channels of parts in which their person is a participant
abbrev pub joined : List Part → List (List ℕ)
joined parts = flat_map joined_of parts

abbrev pub without : List ℕ → List (List ℕ) → List (List ℕ)
without name names = filter (λ other. not (bytes_eq name other)) names

-- of each of these channels the first known state
abbrev pub firsts : List (List ℕ) → List Known → List Known
firsts names [] = []
firsts names (k ∷ ks) = if is_among k.channel names then k ∷ firsts (without k.channel names) ks else firsts names ks

-- the outcomes that a channel can end with, by the state that was signed last
abbrev pub possible_then : Rules → List Entry → Known → List (List AssetOutcome)
possible_then r h k = possible_if (is_final (mode r k.channel h)) (rest_of_channel r k.channel h) k.last

abbrev pub counting_then : Rules → List Entry → List Known → List Counting
counting_then r h [] = []
counting_then r h (k ∷ ks) = counting_of k.channel (possible_then r h k) ++ counting_then r h ks

-- the channels of the plan that count
abbrev pub counting : Rules → List Entry → Plan → List Known → List Counting
counting r h own known = counting_then r h (firsts (joined own.parts) known)

-- ---- conditions

abbrev pub are_distinct : List (List ℕ) → Bool
are_distinct [] = true
are_distinct (name ∷ names) = not (is_among name names) && are_distinct names

-- the channels on which a later part can stand
abbrev pub bears : Part → List (List ℕ)
bears (Root channel) = channel ∷ []
bears (OnLedger ledger channel) = channel ∷ []
bears (End v) = v.channel ∷ []
bears (Middle v) = []

-- each part stands on channels of parts before it
abbrev pub stand_on : (before : List (List ℕ)) → List Part → Bool
stand_on before [] = true
stand_on before (p ∷ ps) =
    list_all (λ ledger. is_among ledger before) (ledgers_of p) && stand_on (before ++ bears p) ps

-- an outcome, and another one
abbrev pub other_than : List AssetOutcome → Option (List AssetOutcome) → Bool
other_than o None = false
other_than o (Some p) = not (same_outcome p o)

abbrev pub are_two : List (List AssetOutcome) → Bool
are_two [] = false
are_two (o ∷ []) = false
are_two (o ∷ p ∷ ps) = other_than o (Some p)

-- a channel can end with two outcomes
abbrev pub has_two : Rules → List Entry → Known → Bool
has_two r h k = are_two (possible_then r h k)

-- each channel once, each ledger before the parts on it, and at most two channels that can end with two outcomes
pub record IsTellable (r : Rules) (h : List Entry) (own : Plan) (known : List Known) : Type 0 where
  pub once : are_distinct (channels own.parts) ≡ true
  pub grounded : stand_on [] own.parts ≡ true
  pub few : count_by (has_two r h) (firsts (joined own.parts) known) ≤ 2

-- ---- the share

-- what the plan's person was paid, and the least that its parts are worth, whichever outcomes its channels end with
abbrev pub share_then : Rules → List Entry → Plan → List Known → (asset : ℕ) → ℕ
share_then r h own known asset =
    share_of own.me (paid_to h own.me asset) own.parts (balances h asset) (counting r h own known) asset

-- of each of these assets
abbrev pub shares_then : Rules → List Entry → Plan → List Known → (assets : List ℕ) → List (ℕ × ℕ)
shares_then r h own known assets = map (λ asset. (asset, share_then r h own known asset)) assets
