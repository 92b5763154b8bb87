-- What a participant's facts say of one of its channels.
use Rattle.std.specs.Prelude.{ℕ, ◌&&◌, ◌==◌, nat_le, Bool, true, false, List, [], ◌∷◌, length, Option, Some, None, find, position}
use Rattle.std.specs.List.{list_all}
use Rattle.std.specs.Str.{bytes_eq}
use Rattle.channel_values.specs.declared.value.AssetOutcome.{AssetOutcome}
use Rattle.channel_values.specs.Parts.{StateParts}
use Rattle.channel_values.specs.Rules.{newest}
use Rattle.call_history.specs.declared.held_chain.HeldChain.{HeldChain}
use Rattle.call_history.specs.declared.held_chain.Known.{Known}
use Rattle.call_history.specs.declared.held_chain.Place.{Place}
use Rattle.call_history.specs.declared.view.ChannelView.{ChannelView}
use Rattle.funding_plans.specs.Known.{FactsOf}
use Rattle.funding_plans.specs.Parts.{own_channel}
use Rattle.funding_plans.specs.declared.plan.Goal.{Goal}
use Rattle.funding_plans.specs.Seats.{Seat}
use Rattle.funding_plans.specs.declared.child.Child.{Child}

abbrev pub place_in : List ℕ → List Place → Option Place
place_in name places = find (λ p. bytes_eq p.channel name) places

abbrev pub chain_in : List ℕ → List HeldChain → Option HeldChain
chain_in name chains = find (λ h. bytes_eq h.channel name) chains

-- what the view says of a channel
abbrev pub view_in : List ℕ → List ChannelView → Option ChannelView
view_in name views = find (λ v. bytes_eq v.channel name) views

abbrev pub known_in : List ℕ → List Known → Option Known
known_in name known = find (λ k. bytes_eq k.channel name) known

abbrev pub top_of : Option HeldChain → Option StateParts
top_of None = None
top_of (Some h) = newest h.chain.states

-- the states of the held chain are all final
abbrev pub are_final : Option HeldChain → Bool
are_final None = false
are_final (Some h) = list_all (λ s. s.is_final) h.chain.states

abbrev pub last_of : Option Known → Option StateParts
last_of None = None
last_of (Some k) = Some k.last

-- what was commanded of the part at a place of the plan
abbrev pub goal_at : Option ℕ → List Goal → Option Goal
goal_at None goals = None
goal_at (Some part) goals = find (λ g. g.part == part) goals

-- and of the part that is about a channel
abbrev pub goal_in : FactsOf → List ℕ → Option Goal
goal_in f name = goal_at (position (λ p. bytes_eq (own_channel p) name) f.plan.parts) f.goals

-- a channel has two to four people
abbrev pub seat_if : Bool → Seat → Option Seat
seat_if true c = Some c
seat_if false c = None

abbrev pub are_few : List (List ℕ) → Bool
are_few people = nat_le 2 (length people) && nat_le (length people) 4

abbrev pub seat_at : FactsOf → List ℕ → List AssetOutcome → Option Place → Option Seat
seat_at f name opening None = None
seat_at f name opening (Some p) = seat_if (are_few p.people) (record {
  name = name;
  people = p.people;
  me = p.me;
  next = p.next;
  opening = opening;
  top = top_of (chain_in name f.chains);
  all_final = are_final (chain_in name f.chains);
  own = last_of (known_in name f.known);
})

-- a channel that opens with an outcome
abbrev pub seat_with : FactsOf → List ℕ → List AssetOutcome → Option Seat
seat_with f name opening = seat_at f name opening (place_in name f.places)

-- a channel that a part is about opens as was commanded
abbrev pub seat_for : FactsOf → List ℕ → Option Goal → Option Seat
seat_for f name None = None
seat_for f name (Some g) = seat_with f name g.opening

abbrev pub seat_in : FactsOf → List ℕ → Option Seat
seat_in f name = seat_for f name (goal_in f name)

-- what a ledger of two people sets aside for a channel
abbrev pub child_for : (asset : ℕ) → (name : List ℕ) → (amounts : ℕ × ℕ) → (people : List (List ℕ)) → Option Child
child_for asset name ab (first ∷ second ∷ []) = Some (record { asset = asset; name = name; first = first; second = second; a = ab.0; b = ab.1 })
child_for asset name ab _ = None
