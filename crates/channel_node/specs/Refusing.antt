-- Why a node refuses a message or a command: the first line that holds. And what it signs.
use Rattle.std.specs.Prelude.{ℕ, ◌+◌, ◌-◌, ◌^◌, ◌==◌, Bool, true, false, ◌&&◌, ◌||◌, not, nat_lt, nat_le, List, [], ◌∷◌, length, map, position, slice_index_or, Option, Some, None, is_none, is_some, Result, Ok, Err, if◌then◌else◌}
use Rattle.std.specs.List.{find, list_all}
use Rattle.std.specs.Str.{bytes_eq}
use Rattle.channel_values.specs.Parts.{StateParts, state_with}
use Rattle.channel_values.specs.Outcomes.{is_same}
use Rattle.channel_values.specs.declared.chain.Signed.{Signed}
use Rattle.channel_values.specs.declared.fault.ByteFault.{ByteFault}
use Rattle.channel_values.specs.declared.value.AssetOutcome.{AssetOutcome}
use Rattle.channel_values.specs.declared.value.Dest.{Dest}
use Rattle.channel_values.specs.declared.value.Dest.TheVariants.{Person}
use Rattle.channel_values.specs.declared.value.Item.{Item}
use Rattle.channel_values.specs.declared.value.Shape.{Shape}
use Rattle.channel_values.specs.declared.value.Shape.TheVariants.{Allocation, Guarantee}
use Rattle.call_history.specs.Mode.{mode_at}
use Rattle.call_history.specs.declared.standing.Standing.{Standing}
use Rattle.call_history.specs.declared.standing.Standing.TheVariants.{Open}
use Rattle.channel_values.specs.Words.{fault_if, ◌⊳◌}
use Rattle.channel_values.specs.Amounts.{amt, has}
use Rattle.channel_values.specs.Rows.{mover}
use Rattle.channel_values.specs.Rules.{Rules, people, newest, is_signed_well}
use Rattle.support_rules.specs.Steps.{persons}
use Rattle.call_history.specs.Flows.{is_among}
use Rattle.call_history.specs.Spelling.{Message}
use Rattle.call_history.specs.declared.event.NodeRefusal.{NodeRefusal}
use Rattle.call_history.specs.declared.event.NodeRefusal.TheVariants.{BadBytes, UnknownChannel, NotOpen, NotNext, BadSignature, NotAStep, NotWanted, KeySpent, TooMany}
use Rattle.history_view.specs.Views.{view_of}
use Rattle.channel_store.specs.Keeping.{is_ended, next_of, step_of}
use Rattle.channel_store.specs.Storing.{kept_of}
use Rattle.channel_store.specs.declared.kept.Kept.{Kept}
use Rattle.funding_plans.specs.Known.{FactsOf}
use Rattle.funding_plans.specs.Parts.{own_channel, channels_of, channels, joined_of, ledgers_of, running, closed}
use Rattle.funding_plans.specs.Shapes.{items_in}
use Rattle.funding_plans.specs.declared.plan.Goal.{Goal}
use Rattle.funding_plans.specs.declared.plan.Part.{Part}
use Rattle.network.specs.declared.command.Command.{Command}
use Rattle.network.specs.declared.command.Command.TheVariants as commands
use Rattle.channel_node.specs.Tables.{Tables}
use Rattle.channel_node.specs.Openings.{opened_by, ledgers_for, are_apart}
use Rattle.channel_node.specs.Minds.{Mind, facts_of, place_with}
use Rattle.network.specs.declared.command.Release.{Release}

-- the first of these that has a fault
abbrev pub first_fault : {A E : Type 0} → (A → Option E) → List A → Option E
first_fault fault [] = None
first_fault fault (x ∷ xs) = fault x ⊳ first_fault fault xs

-- ---- lines that several tables share

abbrev pub is_open : Standing → Bool
is_open Open = true
is_open _ = false

abbrev pub stands_in : FactsOf → List ℕ → Standing
stands_in f channel = mode_at (view_of f.view.channels channel).deadline f.view.now

abbrev pub not_open_in : FactsOf → List ℕ → Option NodeRefusal
not_open_in f channel = fault_if (not (is_open (stands_in f channel))) (NotOpen channel (stands_in f channel))

-- the first channel of a part that isn't closed and in which it isn't open
abbrev pub not_open_part : Tables → FactsOf → Part → Option NodeRefusal
not_open_part t f part = if t.stage f part == closed part then None else first_fault (not_open_in f) (joined_of part)

-- a live channel isn't open
abbrev pub not_open : Tables → FactsOf → Option NodeRefusal
not_open t f = first_fault (not_open_part t f) f.plan.parts

abbrev pub unfinished_part : Tables → FactsOf → Part → Option NodeRefusal
unfinished_part t f part = fault_if (t.is_unfinished f part) (NotWanted (t.stage f part))

-- the first part for which something is still to be done
abbrev pub unfinished : Tables → FactsOf → Option NodeRefusal
unfinished t f = first_fault (unfinished_part t f) f.plan.parts

-- nothing more is signed or taken once it left
abbrev pub has_left : Mind → Option NodeRefusal
has_left m = fault_if m.left (NotWanted 99)

-- the part that has a channel, and that which has one in which the node is a participant
abbrev pub part_with : List ℕ → List Part → Option Part
part_with channel parts = find (λ part. is_among channel (channels_of part)) parts

abbrev pub part_joined : List ℕ → List Part → Option Part
part_joined channel parts = find (λ part. is_among channel (joined_of part)) parts

abbrev pub not_running : Tables → FactsOf → Option Part → Option NodeRefusal
not_running t f None = Some (NotWanted 0)
not_running t f (Some part) = fault_if (not (t.stage f part == running part)) (NotWanted (t.stage f part))

-- ---- messages

abbrev pub stage_of : Tables → FactsOf → Option Part → ℕ
stage_of t f None = 0
stage_of t f (Some part) = t.stage f part

abbrev pub state_refusal : Tables → Rules → Mind → List ℕ → Signed → Option Kept → Option NodeRefusal
state_refusal t r m channel s None = Some UnknownChannel
state_refusal t r m channel s (Some k) =
    not_open t (facts_of m)
    ⊳ fault_if (is_ended k) (NotNext 0)
    ⊳ fault_if (not (s.state.turn == next_of k)) (NotNext (next_of k))
    ⊳ fault_if (not (is_signed_well r k.chain.fixed s)) BadSignature
    ⊳ fault_if (is_some (step_of r k s.state)) NotAStep
    ⊳ has_left m
    ⊳ fault_if (not (t.accepts (facts_of m) channel s.state)) (NotWanted (stage_of t (facts_of m) (t.asked (facts_of m) channel)))

abbrev pub message_refusal : Tables → Rules → Mind → Result Message ByteFault → Option NodeRefusal
message_refusal t r m (Err fault) = Some BadBytes
message_refusal t r m (Ok message) = state_refusal t r m message.0 message.1 (kept_of message.0 m.kept)

-- ---- payments

-- the outcome with an amount of an asset moved from one destination to another
abbrev pub moved_item : Dest → Dest → ℕ → Item → Item
moved_item from to amount item =
    if is_same item.to from then record item { amount = item.amount - amount }
    else (if is_same item.to to then record item { amount = item.amount + amount } else item)

abbrev pub moved_shape : Dest → Dest → ℕ → Shape → Shape
moved_shape from to amount (Allocation items) = Allocation (map (moved_item from to amount) items)
moved_shape from to amount (Guarantee target list) = Guarantee target list

abbrev pub moved_asset : Dest → Dest → ℕ → ℕ → AssetOutcome → AssetOutcome
moved_asset from to asset amount o = if o.asset == asset then record o { shape = moved_shape from to amount o.shape } else o

abbrev pub moved : Dest → Dest → ℕ → ℕ → List AssetOutcome → List AssetOutcome
moved from to asset amount outcome = map (moved_asset from to asset amount) outcome

-- the outcome with which the channel of a part opens
abbrev pub opening_of : Option Goal → List AssetOutcome
opening_of None = []
opening_of (Some goal) = goal.opening

abbrev pub goal_of : Mind → List ℕ → Option Goal
goal_of m channel = find (λ goal. goal.part == place_with channel m.parts) m.goals

abbrev pub outcome_or : Option StateParts → List AssetOutcome → List AssetOutcome
outcome_or None opening = opening
outcome_or (Some s) opening = s.outcome

-- the outcome of the latest state, or the opening one
abbrev pub latest_outcome : Mind → List ℕ → Kept → List AssetOutcome
latest_outcome m channel k = outcome_or (newest k.chain.states) (opening_of (goal_of m channel))

abbrev pub own : Kept → Dest
own k = Person (slice_index_or (persons k.chain.fixed) k.me [])

abbrev pub other : Kept → Dest
other k = Person (slice_index_or (persons k.chain.fixed) (1 - k.me) [])

-- the next state, with an amount paid to the other
abbrev pub paying : Mind → List ℕ → ℕ → ℕ → Kept → StateParts
paying m channel asset amount k = state_with (next_of k) false (moved (own k) (other k) asset amount (latest_outcome m channel k)) []

-- it follows from the latest state, where there is one
abbrev pub follows : Rules → Kept → StateParts → Bool
follows r k s = not (is_ended k) && is_none (step_of r k s)

abbrev pub is_payable : Rules → Mind → List ℕ → ℕ → ℕ → Kept → List Item → Bool
is_payable r m channel asset amount k items =
    (k.chain.fixed.app == 1 && nat_lt (next_of k) (2 ^ 48))
    && ((nat_le amount (amt items (own k)) && (amount == 0 || has items (other k))) && follows r k (paying m channel asset amount k))

abbrev pub pay_refusal : Tables → Rules → ℕ → ℕ → Mind → List ℕ → ℕ → ℕ → Option Kept → Option NodeRefusal
pay_refusal t r limit used m channel asset amount None = Some UnknownChannel
pay_refusal t r limit used m channel asset amount (Some k) =
    not_open t (facts_of m)
    ⊳ fault_if (not (mover (people k.chain.fixed) (next_of k) == k.me)) (NotNext (next_of k))
    ⊳ fault_if (not (is_payable r m channel asset amount k (items_in asset (latest_outcome m channel k)))) NotAStep
    ⊳ has_left m
    ⊳ not_running t (facts_of m) (part_joined channel m.parts)
    ⊳ fault_if (nat_le limit used) (KeySpent used)

-- ---- openings

-- the node keeps the channel, or a part of its plan has it
abbrev pub is_planned : Mind → List ℕ → Bool
is_planned m channel = is_some (kept_of channel m.kept) || is_among channel (channels m.parts)

-- the channels are apart, and none is in the plan
abbrev pub are_new : Mind → List (List ℕ) → Bool
are_new m names = are_apart names && list_all (λ name. not (is_planned m name)) names

abbrev pub can_open : Tables → Rules → Mind → Command → Bool
can_open t r m command = t.fits (facts_of m) command && are_new m (map r.named (opened_by command))

-- what was commanded of the part that is about a channel
abbrev pub goal_at : Option ℕ → List Goal → Option Goal
goal_at None goals = None
goal_at (Some part) goals = find (λ g. g.part == part) goals

abbrev pub goal_about : Mind → List ℕ → Option Goal
goal_about m name = goal_at (position (λ p. bytes_eq (own_channel p) name) m.parts) m.goals

abbrev pub is_over : Option Goal → Bool
is_over None = false
is_over (Some g) = g.over

-- each of these channels is in the plan, and the node didn't let go of it
abbrev pub is_there : Mind → List ℕ → Bool
is_there m name = is_among name (channels m.parts) && not (is_over (goal_about m name))

abbrev pub are_planned : Mind → List (List ℕ) → Bool
are_planned m names = list_all (is_there m) names

abbrev pub open_refusal : Tables → Rules → Mind → Command → Option NodeRefusal
open_refusal t r m command =
    fault_if (not (are_planned m (ledgers_for m.key command))) UnknownChannel
    ⊳ not_open t (facts_of m)
    ⊳ fault_if (not (can_open t r m command)) NotAStep
    ⊳ has_left m
    ⊳ unfinished t (facts_of m)
    ⊳ fault_if (nat_lt 64 (length (channels m.parts) + length (opened_by command))) (TooMany (length (channels m.parts)))

-- ---- closing

-- the part stands on this channel and isn't closed
abbrev pub standing_part : Tables → FactsOf → List ℕ → Part → Option NodeRefusal
standing_part t f ledger part = fault_if (is_among ledger (ledgers_of part) && not (t.stage f part == closed part)) (NotWanted (t.stage f part))

-- on the channel of the part itself no unclosed part stands
abbrev pub close_part : Tables → Mind → Option Part → Option NodeRefusal
close_part t m None = Some UnknownChannel
close_part t m (Some part) =
    not_open t (facts_of m)
    ⊳ has_left m
    ⊳ unfinished t (facts_of m)
    ⊳ not_running t (facts_of m) (Some part)
    ⊳ first_fault (standing_part t (facts_of m) (own_channel part)) m.parts

-- ---- letting go

-- it may be let go of this way, and on it no unclosed part stands; whether other channels are open doesn't matter
abbrev pub release_part : Tables → Mind → Release → Option Part → Option NodeRefusal
release_part t m how None = Some UnknownChannel
release_part t m how (Some part) =
    has_left m
    ⊳ fault_if (not (t.releases (facts_of m) how part)) (NotWanted (t.stage (facts_of m) part))
    ⊳ first_fault (standing_part t (facts_of m) (own_channel part)) m.parts

-- ---- sending again

-- the node signed a state in the channel
abbrev pub resend_refusal : Tables → Mind → List ℕ → Option Kept → Option NodeRefusal
resend_refusal t m channel None = Some UnknownChannel
resend_refusal t m channel (Some k) = fault_if (is_none k.last) (NotWanted (stage_of t (facts_of m) (part_joined channel m.parts)))

-- ---- commands

-- with a key that signs `limit` times and has signed `used` times
abbrev pub command_refusal : Tables → Rules → ℕ → ℕ → Mind → Command → Option NodeRefusal
command_refusal t r limit used m (commands.Open f outcome) = open_refusal t r m (commands.Open f outcome)
command_refusal t r limit used m (commands.OpenOn o) = open_refusal t r m (commands.OpenOn o)
command_refusal t r limit used m (commands.OpenVirtual v) = open_refusal t r m (commands.OpenVirtual v)
command_refusal t r limit used m (commands.Pay channel asset amount) = pay_refusal t r limit used m channel asset amount (kept_of channel m.kept)
command_refusal t r limit used m (commands.Close channel) = close_part t m (part_with channel m.parts)
command_refusal t r limit used m (commands.Release how channel) = release_part t m how (part_with channel m.parts)
command_refusal t r limit used m (commands.Resend channel) = resend_refusal t m channel (kept_of channel m.kept)
command_refusal t r limit used m commands.Exit = None

-- ---- what is signed

-- the state of an accepted payment that isn't signed yet, else what the stage wants while every live channel is open
abbrev pub wish_staying : Tables → Option Command → Mind → List ℕ → Kept → Option StateParts
wish_staying t (Some (commands.Pay paid asset amount)) m channel k = if bytes_eq paid channel then Some (paying m channel asset amount k) else None
wish_staying t _ m channel k = if is_none (not_open t (facts_of m)) then t.wanted (facts_of m) channel else None

-- nothing once it left
abbrev pub wish : Tables → Option Command → Mind → List ℕ → Kept → Option StateParts
wish t pending m channel k = if m.left then None else wish_staying t pending m channel k

-- it comes next, at the node's own turn, and follows; and the channel is open
abbrev pub can_sign : Rules → FactsOf → List ℕ → Kept → StateParts → Bool
can_sign r f channel k s = follows r k s && (((s.turn == next_of k) && (mover (people k.chain.fixed) s.turn == k.me)) && is_open (stands_in f channel))

abbrev pub if_signable : Rules → FactsOf → List ℕ → Kept → Option StateParts → Option StateParts
if_signable r f channel k None = None
if_signable r f channel k (Some s) = if can_sign r f channel k s then Some s else None

abbrev pub signs_of : Tables → Rules → Option Command → Mind → List ℕ → Option Kept → Option StateParts
signs_of t r pending m channel None = None
signs_of t r pending m channel (Some k) = if_signable r (facts_of m) channel k (wish t pending m channel k)

-- the state that the node signs in a channel; `pending` is a payment that was accepted and isn't signed yet
abbrev pub signs_in : Tables → Rules → Option Command → Mind → List ℕ → Option StateParts
signs_in t r pending m channel = signs_of t r pending m channel (kept_of channel m.kept)
