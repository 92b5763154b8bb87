-- What a seat wants in its channel keeps its participant's share.
use Rattle.std.specs.Prelude.{◌≡◌, ◌≢◌, ℕ, ◌*◌, ◌≤◌, true, false, List, [], Option, Some, ◌⊎◌}
use Rattle.channel_values.specs.Outcomes.{IsOutcome}
use Rattle.channel_values.specs.Parts.{FixedParts, StateParts, IsState, state_with}
use Rattle.channel_values.specs.declared.value.AssetOutcome.{AssetOutcome}
use Rattle.channel_values.specs.declared.value.Dest.TheVariants.{Person}
use Rattle.channel_values.specs.Digests.{name_of_person}
use Rattle.channel_values.specs.Rules.{people}
use Rattle.call_history.specs.Flows.{is_among}
use Rattle.call_history.specs.declared.entry.Entry.{Entry}
use Rattle.channel_safety.specs.Held.{held}
use Rattle.channel_safety.specs.Journals.{Line}
use Rattle.channel_node.specs.Refusing.{moved}
use Rattle.funding_plans.specs.Limits.{is_valid}
use Rattle.share_laws.specs.Bases.{all_bases}
use Rattle.share_laws.specs.Places.{Order, plan}
use Rattle.share_laws.specs.Fairly.{Wants, Pays}
use Rattle.share_laws.specs.Wanted.{IsTarget}
use Rattle.funding_plans.specs.Seats.{Seat, repeats, final_state, pass_on, toward}
use Rattle.support_rules.specs.Real.{real}
use Rattle.fairness_laws.specs.Carried.{IsRepeatedIfAny}
use Rattle.fairness_laws.specs.SeatSitting.{Sits}

-- a repeated state of the set-up, where the latest state that is held repeats the opening outcome while the set-up
-- lasts
abbrev pub RepeatsAreFair : Type 0
RepeatsAreFair =
    (key : List ℕ) (orders : ℕ → Order) (past : List Entry) (front : List Line) (f : FixedParts) (opening : List AssetOutcome)
    (c : Seat) → Sits key orders past front f opening c → IsRepeatedIfAny f opening (held real f past front)
    → (from until : ℕ) → until ≤ 2 * people f → (state : StateParts) → IsState state → repeats from until c ≡ Some state
    → Wants real (name_of_person key) orders past front f state

-- a final state that repeats the latest one
abbrev pub FinalsAreFair : Type 0
FinalsAreFair =
    (key : List ℕ) (orders : ℕ → Order) (past : List Entry) (front : List Line) (f : FixedParts) (opening : List AssetOutcome)
    (c : Seat) → Sits key orders past front f opening c → (state : StateParts) → final_state c ≡ Some state
    → Wants real (name_of_person key) orders past front f state

-- a pass
abbrev pub PassesAreFair : Type 0
PassesAreFair =
    (key : List ℕ) (orders : ℕ → Order) (past : List Entry) (front : List Line) (f : FixedParts) (opening : List AssetOutcome)
    (c : Seat) → Sits key orders past front f opening c → (on : List AssetOutcome) (state : StateParts)
    → pass_on on c ≡ Some state → Wants real (name_of_person key) orders past front f state

-- outside payment channels, a move toward the outcome that stands, or one that moves an asset for a part of the plan
abbrev pub MovesAreFair : Type 0
MovesAreFair =
    (key : List ℕ) (orders : ℕ → Order) (past : List Entry) (front : List Line) (f : FixedParts) (opening : List AssetOutcome)
    (c : Seat) → Sits key orders past front f opening c → f.app ≢ 1 → (target : Option (List AssetOutcome)) (state : StateParts)
    → toward target c ≡ Some state
    → ((top : StateParts) (t : List AssetOutcome) → c.top ≡ Some top → target ≡ Some t → is_valid t ≡ true
    → IsOutcome t × ((t ≡ top.outcome) ⊎ IsTarget real (name_of_person key) orders past front f top.outcome t))
    → Wants real (name_of_person key) orders past front f state

-- a payment of an amount of an asset, after the latest state
abbrev pub PaymentsAreFair : Type 0
PaymentsAreFair =
    (key : List ℕ) (orders : ℕ → Order) (past : List Entry) (front : List Line) (f : FixedParts) (opening : List AssetOutcome)
    (c : Seat) → Sits key orders past front f opening c → is_among (real.named f) (all_bases (plan orders front)) ≡ false
    → (payee : List ℕ) (asset amount turn : ℕ) (top state : StateParts) → c.top ≡ Some top
    → state ≡ state_with turn false (moved (Person (name_of_person key)) (Person payee) asset amount top.outcome) []
    → Pays real (name_of_person key) orders past front f state asset amount
