-- A view stands for a history: it says of time, rows, balances, shown chains, outcomes and their rests what the history
-- says.
use Rattle.std.specs.Prelude.{◌≡◌, ℕ, ◌≤◌, List, [], ◌∷◌, length, nat_lt, Option, Some, None, if◌then◌else◌}
use Rattle.std.specs.Option.{option_map}
use Rattle.channel_values.specs.declared.chain.Chain.{Chain}
use Rattle.call_history.specs.declared.standing.Standing.TheVariants.{Challenged}
use Rattle.channel_values.specs.Rules.{Rules, top_turn}
use Rattle.call_history.specs.Marked.{Marked, marked_of}
use Rattle.call_history.specs.Rows.{fixed_of}
use Rattle.call_history.specs.Shown.{challenged, shown}
use Rattle.call_history.specs.History.{Legal, now_of, row, mode, settled, held_of, paid_to, rest_of_channel}
use Rattle.call_history.specs.declared.entry.Entry.{Entry}
use Rattle.call_history.specs.declared.view.ChannelView.{ChannelView}
use Rattle.call_history.specs.declared.view.WorldView.{WorldView}
use Rattle.history_view.specs.Views.{view_of, held_amount, paid_amount, followed, unseen}
use Rattle.history_view.specs.Room.{CanFollow}
use Rattle.history_view.specs.Few.{OfFew}

-- a chain that was shown and the newest before it: the newer one, at equal turns the later one; a chain of no state is
-- none
abbrev pub newer : Marked → Option Marked → Option Marked
newer w None = if nat_lt 0 (length w.states) then Some w else None
newer w (Some before) =
    if nat_lt 0 (length w.states)
    then Some (if nat_lt (top_turn w.states) (top_turn before.states) then before else w)
    else Some before

-- the newest chain of the channel that the entries show
abbrev pub newest_shown : Rules → List ℕ → List Entry → Option Marked
newest_shown r channel [] = None
newest_shown r channel (e ∷ past) = newer (shown r channel past e) (newest_shown r channel past)

-- there is a chain of the channel, with these states and marks
abbrev pub IsChainOf : Rules → List ℕ → Marked → Option Chain → Type 0
IsChainOf r channel w shown =
    (chain : Chain) × (shown ≡ Some chain) × (r.named chain.fixed ≡ channel) × (marked_of chain ≡ w)

-- what is known of a channel is so; and while it is challenged, the chain that is shown is the challenged one, to
-- which an answer can be added
pub record KnowsChannel (r : Rules) (channel : List ℕ) (h : List Entry) (v : ChannelView) : Type 0 where
  pub turn : v.turn ≡ (row r channel h).turn
  pub deadline : v.deadline ≡ (row r channel h).deadline
  pub held : (asset : ℕ) → held_amount v.held asset ≡ held_of h channel asset
  pub shown : option_map marked_of v.shown ≡ newest_shown r channel h
  pub short : length (challenged r channel h).states ≤ 255
  pub challenged : mode r channel h ≡ Challenged → IsChainOf r channel (challenged r channel h) v.shown
  pub settled : v.settled ≡ settled r channel h
  pub rest : v.rest ≡ rest_of_channel r channel h

pub record StandsFor (r : Rules) (h : List Entry) (w : WorldView) : Type 0 where
  pub now : w.now ≡ now_of h
  pub count : w.count ≡ length h
  pub channels : (channel : List ℕ) → KnowsChannel r channel h (view_of w.channels channel)
  pub paid : (person : List ℕ) (asset : ℕ) → paid_amount w.paid person asset ≡ paid_to h person asset

-- the view of nothing stands for no entry
abbrev pub UnseenStands : Type 0
UnseenStands = (r : Rules) → StandsFor r [] unseen

-- a view that stands for a legal history can follow its next entry, and then stands for the history with it
pub record Follows (r : Rules) (h : List Entry) (e : Entry) (w : WorldView) : Type 0 where
  pub can : CanFollow r.named e w
  pub stands : OfFew (fixed_of e.op) → StandsFor r (e ∷ h) (followed r.named e w)

abbrev pub FollowingKeepsStanding : Type 0
FollowingKeepsStanding =
    (r : Rules) (h : List Entry) (e : Entry) (w : WorldView) → Legal r (e ∷ h) → StandsFor r h w → Follows r h e w
