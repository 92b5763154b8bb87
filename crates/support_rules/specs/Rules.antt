-- The steps of the three applications: each is a table of lines, of which the first broken one is the fault.
use Rattle.std.specs.Prelude.{ℕ, ◌+◌, ◌-◌, Bool, false, not, ◌&&◌, ◌||◌, List, [], length, Option, Some, None, ◌==◌, nat_le, nat_lt, if◌then◌else◌, slice_index_or}
use Rattle.std.specs.List.{list_any}
use Rattle.std.specs.Str.{bytes_eq}
use Rattle.channel_values.specs.declared.value.Dest.{Dest}
use Rattle.channel_values.specs.declared.value.Dest.TheVariants.{Person}
use Rattle.channel_values.specs.declared.value.Item.{Item}
use Rattle.channel_values.specs.declared.value.Shape.{Shape}
use Rattle.channel_values.specs.declared.value.Shape.TheVariants.{Allocation, Guarantee}
use Rattle.channel_values.specs.declared.value.AssetOutcome.{AssetOutcome}
use Rattle.channel_values.specs.Parts.{StateParts}
use Rattle.channel_values.specs.Outcomes.{is_same, total}
use Rattle.channel_values.specs.Spelling.{outcome}
use Rattle.channel_values.specs.declared.fault.StepFault.{StepFault}
use Rattle.channel_values.specs.declared.fault.StepFault.TheVariants as faults
use Rattle.channel_values.specs.Words.{fault_if, ◌⊳◌, all_along, first_along}
use Rattle.support_rules.specs.Ballots.{Ballot, ballot_of}

-- two outcomes with one spelling
abbrev pub is_same_outcome : List AssetOutcome → List AssetOutcome → Bool
is_same_outcome a b = bytes_eq (outcome a) (outcome b)

-- ---- consensus

-- a vote for what is proposed, which isn't the last one
abbrev pub is_vote : ℕ → ℕ → Bool
is_vote k l = nat_le 2 k && (l + 1 == k)

-- the pairs of votes before and after a move
abbrev pub is_move : ℕ → ℕ → ℕ → Bool
is_move n k l =
    (k == 0 && l == 0)  -- pass
    || (k == 0 && l == n - 1)  -- propose
    || is_vote k l  -- vote
    || (k == 1 && l == 0)  -- final vote
    || (nat_le 1 k && l == 0)  -- veto

-- the final vote, by which the proposal becomes the outcome
abbrev pub is_final_vote : Ballot → Ballot → List AssetOutcome → Bool
is_final_vote a b after = a.votes == 1 && b.votes == 0 && bytes_eq (outcome after) a.proposal

abbrev pub move_fault : ℕ → Ballot → Ballot → List AssetOutcome → List AssetOutcome → Option StepFault
move_fault n a b before after =
    fault_if (not (is_move n a.votes b.votes)) faults.Votes
    ⊳ fault_if (is_vote a.votes b.votes && not (bytes_eq a.proposal b.proposal)) faults.Proposal
    ⊳ fault_if (not (is_same_outcome before after) && not (is_final_vote a b after)) faults.Outcome

abbrev pub ballots_fault : ℕ → Option Ballot → Option Ballot → List AssetOutcome → List AssetOutcome → Option StepFault
ballots_fault n None b before after = Some faults.Data
ballots_fault n (Some a) None before after = Some faults.Data
ballots_fault n (Some a) (Some b) before after = move_fault n a b before after

-- a step of n participants from s to t
abbrev pub consensus_fault : ℕ → StateParts → StateParts → Option StepFault
consensus_fault n s t = ballots_fault n (ballot_of n s.app_bytes) (ballot_of n t.app_bytes) s.outcome t.outcome

-- ---- payment

-- the destination of the person at a place
abbrev pub person_at : List (List ℕ) → ℕ → Dest
person_at people j = Person (slice_index_or people j [])

abbrev pub is_one_of : List (List ℕ) → Dest → Bool
is_one_of people d = list_any (λ name. is_same d (Person name)) people

-- one destination, and one amount where the item is of neither participant
abbrev pub is_alike : List (List ℕ) → Item → Item → Bool
is_alike people a b = is_same a.to b.to && (is_one_of people a.to || a.amount == b.amount)

abbrev pub are_shapes_alike : List (List ℕ) → Shape → Shape → Bool
are_shapes_alike people (Allocation xs) (Allocation ys) = all_along (is_alike people) xs ys
are_shapes_alike people (Allocation xs) (Guarantee u es) = false
are_shapes_alike people (Guarantee t ds) (Allocation ys) = false
are_shapes_alike people (Guarantee t ds) (Guarantee u es) = bytes_eq t u && all_along is_same ds es

abbrev pub are_assets_alike : List (List ℕ) → AssetOutcome → AssetOutcome → Bool
are_assets_alike people a b = a.asset == b.asset && are_shapes_alike people a.shape b.shape

-- an item of the mover that rises, or of the other that falls
abbrev pub item_fault : List (List ℕ) → ℕ → Item → Item → Option StepFault
item_fault people mover a b =
    fault_if (is_same a.to (person_at people mover) && nat_lt a.amount b.amount) faults.Raised
    ⊳ fault_if (is_same a.to (person_at people (1 - mover)) && nat_lt b.amount a.amount) faults.Lowered

abbrev pub items_fault : List (List ℕ) → ℕ → Shape → Shape → Option StepFault
items_fault people mover (Allocation xs) (Allocation ys) = first_along (item_fault people mover) xs ys
items_fault people mover (Allocation xs) (Guarantee u es) = None
items_fault people mover (Guarantee t ds) ys = None

abbrev pub asset_fault : List (List ℕ) → ℕ → AssetOutcome → AssetOutcome → Option StepFault
asset_fault people mover a b = items_fault people mover a.shape b.shape

abbrev pub total_of : Shape → ℕ
total_of (Allocation items) = total items
total_of (Guarantee target dests) = 0

abbrev pub have_one_total : AssetOutcome → AssetOutcome → Bool
have_one_total a b = total_of a.shape == total_of b.shape

-- a step of two people, of whom one moves
abbrev pub payment_fault : List (List ℕ) → ℕ → StateParts → StateParts → Option StepFault
payment_fault people mover s t =
    fault_if (not (length s.app_bytes == 0) || not (length t.app_bytes == 0)) faults.Data
    ⊳ fault_if (not (all_along (are_assets_alike people) s.outcome t.outcome)) faults.Outcome
    ⊳ first_along (asset_fault people mover) s.outcome t.outcome
    ⊳ fault_if (not (all_along have_one_total s.outcome t.outcome)) faults.Outcome

-- ---- fixed

abbrev pub fixed_fault : StateParts → StateParts → Option StepFault
fixed_fault s t =
    fault_if (not (length s.app_bytes == 0) || not (length t.app_bytes == 0)) faults.Data
    ⊳ fault_if (not (is_same_outcome s.outcome t.outcome)) faults.Outcome

-- ---- all three

unfoldable pub app_fault : ℕ → List (List ℕ) → ℕ → StateParts → StateParts → Option StepFault
app_fault app people mover s t =
    if app == 0
    then consensus_fault (length people) s t
    else (if app == 1 then payment_fault people mover s t else fixed_fault s t)
