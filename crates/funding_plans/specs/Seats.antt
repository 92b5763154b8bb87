-- What a participant knows of one of its channels, and what it may sign and take there.
use Rattle.std.specs.Prelude.{◌≤◌, ℕ, ◌+◌, ◌-◌, ◌%◌, ◌^◌, ◌==◌, nat_le, nat_lt, Bool, true, false, not, ◌&&◌, ◌||◌, List, [], length, Option, Some, None, if◌then◌else◌}
use Rattle.std.specs.Str.{bytes_eq}
use Rattle.channel_values.specs.declared.value.AssetOutcome.{AssetOutcome}
use Rattle.channel_values.specs.Parts.{StateParts, state_with}
use Rattle.channel_values.specs.Spelling.{outcome}
use Rattle.support_rules.specs.Ballots.{Ballot, ballot_of}
use Rattle.support_rules.specs.Rules.{is_same_outcome}
use Rattle.support_rules.specs.Toward.{is_settled, wanted_toward}
use Rattle.funding_plans.specs.declared.child.Child.{Child}
use Rattle.funding_plans.specs.Limits.{is_valid}
use Rattle.funding_plans.specs.Outcomes.{up, down, names, amounts_in}

-- People in their order, the participant's place, the next turn, and the outcome that the channel opens with. The
-- latest state of the held chain, whether its states are all final, and the state that the participant signed last.
pub record Seat : Type 0 where
  pub name : List ℕ
  pub people : List (List ℕ)
  pub me : ℕ
  pub next : ℕ
  pub opening : List AssetOutcome
  pub top : Option StateParts
  pub all_final : Bool
  pub own : Option StateParts

-- two to four people
pub record IsSeat (c : Seat) : Type 0 where
  pub several : 2 ≤ length c.people
  pub few : length c.people ≤ 4

abbrev pub state_is : (StateParts → Bool) → Option StateParts → Bool
state_is test None = false
state_is test (Some s) = test s

abbrev pub outcome_in : Option StateParts → Option (List AssetOutcome)
outcome_in None = None
outcome_in (Some s) = Some s.outcome

abbrev pub is_state_final : StateParts → Bool
is_state_final s = s.is_final

abbrev pub has_no_data : StateParts → Bool
has_no_data s = length s.app_bytes == 0

-- the held chain has this turn or more
abbrev pub holds : ℕ → Seat → Bool
holds turn c = state_is (λ s. nat_le turn s.turn) c.top

-- the set-up is held whole: the turns below the number of people
abbrev pub is_set_up : Seat → Bool
is_set_up c = holds (length c.people - 1) c

-- the participant has signed a turn past the set-up
abbrev pub has_signed_past : Seat → Bool
has_signed_past c = state_is (λ s. nat_le (length c.people) s.turn) c.own

-- the next turn is the participant's own
abbrev pub is_turn : Seat → Bool
is_turn c = c.next % length c.people == c.me

-- ---- what is signed

abbrev pub when : Bool → StateParts → Option StateParts
when true s = Some s
when false s = None

-- own turns from one to below another repeat the opening outcome with empty data
abbrev pub repeats : ℕ → ℕ → Seat → Option StateParts
repeats from until c =
    when (nat_le from c.next && nat_lt c.next until && is_turn c && is_valid c.opening)
    (state_with c.next false c.opening [])

-- at its own turn, where the latest state has no votes, a final state that repeats it
abbrev pub final_after : Seat → Option StateParts → Option StateParts
final_after c None = None
final_after c (Some s) =
    when (has_no_data s && nat_lt c.next (2 ^ 48) && is_turn c)
    (state_with c.next true s.outcome [])

abbrev pub final_state : Seat → Option StateParts
final_state c = final_after c c.top

-- at its own turn the consensus move toward a target
abbrev pub toward_after : Seat → Option StateParts → Option (List AssetOutcome) → Option StateParts
toward_after c None target = None
toward_after c (Some s) None = None
toward_after c (Some s) (Some t) = if is_turn c && is_valid t then wanted_toward (length c.people) t s c.own else None

abbrev pub toward : Option (List AssetOutcome) → Seat → Option StateParts
toward target c = toward_after c c.top target

-- at its own turn on an outcome without votes: pass
abbrev pub pass_after : Seat → List AssetOutcome → Option StateParts → Option StateParts
pass_after c on None = None
pass_after c on (Some s) =
    when (is_turn c && not s.is_final && nat_lt (s.turn + 1) (2 ^ 48) && has_no_data s && is_same_outcome s.outcome on)
    (state_with (s.turn + 1) false s.outcome [])

abbrev pub pass_on : List AssetOutcome → Seat → Option StateParts
pass_on on c = pass_after c on c.top

-- settled on a target
abbrev pub settled_on : Option (List AssetOutcome) → Seat → Bool
settled_on None c = false
settled_on (Some t) c = is_settled (length c.people) t c.own

-- ---- a ledger

-- the target up: the latest outcome with the child
abbrev pub up_after : Child → Option StateParts → Option (List AssetOutcome)
up_after k None = None
up_after k (Some s) = Some (up k s.outcome)

abbrev pub up_in : Child → Seat → Option (List AssetOutcome)
up_in k ledger = up_after k ledger.top

-- the target down: the latest outcome without the child, of which the two people get these amounts
abbrev pub down_after : Child → Option StateParts → Option (ℕ × ℕ) → Option (List AssetOutcome)
down_after k None ab = None
down_after k (Some s) None = None
down_after k (Some s) (Some ab) = Some (down (record k { a = ab.0; b = ab.1 }) s.outcome)

abbrev pub down_in : Child → Seat → Option (ℕ × ℕ) → Option (List AssetOutcome)
down_in k ledger ab = down_after k ledger.top ab

-- the outcome that the participant signed last doesn't name the child
abbrev pub is_down : Child → Seat → Bool
is_down k ledger = state_is (λ s. not (names k s.outcome)) ledger.own

-- what two people have in the latest outcome
abbrev pub amounts_after : ℕ → List ℕ → List ℕ → Option StateParts → Option (ℕ × ℕ)
amounts_after asset first second None = None
amounts_after asset first second (Some s) = Some (amounts_in asset first second s.outcome)

-- ---- what is taken from others

-- a set-up state isn't final and has the opening outcome and empty data
abbrev pub is_opening : Seat → StateParts → Bool
is_opening c s = not s.is_final && is_same_outcome s.outcome c.opening && has_no_data s

-- in a payment channel any step
abbrev pub takes_payment : Seat → StateParts → Bool
takes_payment c s = if nat_lt s.turn (length c.people) then is_opening c s else true

-- it has the present outcome
abbrev pub is_now : Option StateParts → StateParts → Bool
is_now None s = false
is_now (Some t) s = is_same_outcome s.outcome t.outcome

-- in a virtual ledger on which nothing moves the present outcome with no votes, and once it closes a final state
abbrev pub takes_idle : (closing : Bool) → Seat → StateParts → Bool
takes_idle closing c s =
    if nat_lt s.turn (length c.people) then is_opening c s
    else (if s.is_final then closing else is_now c.top s && has_no_data s)

-- in a fixed channel only a final state
abbrev pub takes_fixed : Seat → StateParts → Bool
takes_fixed c s = if nat_lt s.turn (length c.people) then is_opening c s else s.is_final

-- a test of an outcome's spelling: that it is the target
abbrev pub is_spelled : Option (List AssetOutcome) → List ℕ → Bool
is_spelled None bytes = false
is_spelled (Some t) bytes = bytes_eq bytes (outcome t)

abbrev pub takes_ballot : (List ℕ → Bool) → Option Ballot → Bool
takes_ballot is_target None = false
takes_ballot is_target (Some b) = (b.votes == 0) || is_target b.proposal

-- in a consensus channel a final state, or one with the present outcome or a target that, where it has votes,
-- proposes a target
abbrev pub takes_vote : (List ℕ → Bool) → Seat → StateParts → Bool
takes_vote is_target c s =
    if nat_lt s.turn (length c.people) then is_opening c s
    else (s.is_final || ((is_now c.top s || is_target (outcome s.outcome)) && takes_ballot is_target (ballot_of (length c.people) s.app_bytes)))
