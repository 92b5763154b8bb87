-- What is known of a node's payments, and of the set-ups of its ledgers, where it acts.
use Rattle.std.specs.Prelude.{◌≡◌, ◌≤◌, ◌*◌, ℕ, true, false, List, length, Some, None, ◌⊎◌}
use Rattle.channel_values.specs.Outcomes.{IsName}
use Rattle.channel_values.specs.Parts.{FixedParts, StateParts, IsState}
use Rattle.call_history.specs.declared.entry.Entry.{Entry}
use Rattle.funding_plans.specs.declared.plan.Goal.{Goal}
use Rattle.funding_plans.specs.declared.plan.Part.{Part}
use Rattle.funding_plans.specs.declared.plan.Part.TheVariants as kinds
use Rattle.channel_safety.specs.Journals.{In}
use Rattle.network.specs.declared.command.Command.TheVariants as commands
use Rattle.channel_node.specs.Minds.{facts_of}
use Rattle.channel_node.specs.Places.{Told, lines_of, mind_at}
use Rattle.channel_node.specs.Playing.{Signing, pending}
use Rattle.node_guarantees.specs.NodeShareLaws.{IsFront}
use Rattle.fairness_laws.specs.PaymentLaws.{ActsNext}
use Rattle.fairness_laws.specs.PlanBearers.{bears}
use Rattle.fairness_laws.specs.PlanSeats.{SeatIs}
use Rattle.share_laws.specs.Places.{channels, outcomes_of}
use Rattle.funding_plans.specs.Gathered.{goal_in}
use Rattle.funding_plans.specs.Seats.{Seat, repeats}
use Rattle.support_rules.specs.Real.{real}
use Rattle.fairness_laws.specs.LedgerLending.{Lent}
use Rattle.fairness_laws.specs.LedgerPlaces.{is_ledger, own_at, parts_at, lends_at}

-- a payment that waits is of no ledger but of a payment channel, whose ledger, if it stands on one, has gone up
abbrev pub PaymentsRun : Signing → (h : List Entry) → (journal : List Told) → Type 0
PaymentsRun s h journal =
    (past : List Entry) (front : List Told) → IsFront h journal past front → (paid : List ℕ) (asset amount : ℕ) → pending front ≡ Some (commands.Pay paid asset amount)
    → (is_ledger s.key journal paid ≡ false)
    × ((f : FixedParts) → In f (channels (lines_of s.key front)) → real.named f ≡ paid → f.app ≡ 1)
    × ((l : List ℕ) (k : Lent) → In (kinds.OnLedger l paid) (parts_at s past front) → lends_at s past front l (kinds.OnLedger l paid) ≡ Some k → k.is_up ≡ true)

-- what the set-up of a ledger wants repeats an outcome with which it could end, or is the first state, while nothing
-- stands on it
abbrev pub SetUpsStart : Signing → (h : List Entry) → (journal : List Told) → Type 0
SetUpsStart s h journal =
    (past : List Entry) (x : Told) (front : List Told) → ActsNext s h journal past x front
    → (b : Part) (r : List ℕ) (g : Goal) → In b (parts_at s past front) → bears r b ≡ true → goal_in (facts_of (mind_at real s.key past front)) r ≡ Some g → is_ledger s.key journal r ≡ true
    → (f : FixedParts) (c : Seat) → SeatIs s.key past (lines_of s.key front) f g.opening c → real.named f ≡ r → (from until : ℕ) (state : StateParts) → IsState state
    → until ≤ 2 * length c.people → repeats from until c ≡ Some state
    → ((last : StateParts) × (own_at s.key journal front r ≡ Some last) × In state.outcome (outcomes_of last))
    ⊎ ((own_at s.key journal front r ≡ None) × ((p : Part) (k : Lent) → In p (parts_at s past front) → lends_at s past front r p ≡ Some k → ⊥))

-- names of channels are names
abbrev pub NamesAreNames : Type 0
NamesAreNames = (f : FixedParts) → IsName (real.named f)
