-- What a node's ledgers can end with at each place of its journal.
use Rattle.std.specs.Prelude.{◌≡◌, ℕ, ◌+◌, true, false, List, Some, ◌⊎◌}
use Rattle.channel_values.specs.Parts.{StateParts}
use Rattle.call_history.specs.declared.entry.Entry.{Entry}
use Rattle.funding_plans.specs.Known.{FactsOf}
use Rattle.funding_plans.specs.declared.plan.Goal.{Goal}
use Rattle.funding_plans.specs.declared.plan.Part.{Part}
use Rattle.channel_safety.specs.Journals.{In}
use Rattle.channel_node.specs.Minds.{facts_of}
use Rattle.channel_node.specs.Places.{Told, mind_at}
use Rattle.channel_node.specs.Playing.{Signing}
use Rattle.funding_plans.specs.Gathered.{goal_in}
use Rattle.funding_plans.specs.Seats.{down_in, toward}
use Rattle.support_rules.specs.Real.{real}
use Rattle.fairness_laws.specs.LedgerKeeping.{LedgerKeeps, HasGoneUp}
use Rattle.fairness_laws.specs.LedgerLending.{Lent, lent}
use Rattle.fairness_laws.specs.LedgerPlaces.{KeepAt}
use Rattle.fairness_laws.specs.PaymentLaws.{At}
use Rattle.fairness_laws.specs.PlanSettings.{IsFair}

-- What a part wants on a ledger once it closes gives back what was set aside.
abbrev pub GivesBack : FactsOf → Type 0
GivesBack f =
    (p : Part) (l : List ℕ) (k : Lent) (ab : ℕ × ℕ) (state : StateParts) → In p f.plan.parts → lent f l p ≡ Some k → k.back ≡ Some ab
    → toward (down_in k.child k.ledger (Some ab)) k.ledger ≡ Some state → k.falls ≡ true → ab.0 + ab.1 ≡ k.child.a + k.child.b

-- of each ledger on which a part stands, by what is known to be signed last there
abbrev pub LedgersKeep : FactsOf → Type 0
LedgersKeep f =
    (p : Part) (l : List ℕ) (k : Lent) (last : StateParts) → In p f.plan.parts → lent f l p ≡ Some k → k.ledger.own ≡ Some last
    → LedgerKeeps f.plan.parts (lent f) l last

-- it sets the child aside with no votes, and wasn't commanded to close
pub record StandsOn (f : FactsOf) (l : List ℕ) (k : Lent) (last : StateParts) : Type 0 where
  pub up : HasGoneUp k last
  pub stays_open : (g : Goal) → goal_in f l ≡ Some g → g.closing ≡ false

-- so does each ledger on which a part stands that has gone up, while it isn't opened yet, or closes and the ledger
-- may not go down
abbrev pub LedgersStand : FactsOf → Type 0
LedgersStand f =
    (p : Part) (l : List ℕ) (k : Lent) (last : StateParts) → In p f.plan.parts → lent f l p ≡ Some k → k.ledger.own ≡ Some last
    → k.is_up ≡ true → ((k.closing ≡ false) × (k.done ≡ false)) ⊎ ((k.closing ≡ true) × (k.falls ≡ false)) → StandsOn f l k last

-- ---- laws

-- Ledgers back what stands on them at each place of a node's journal,
abbrev pub LedgersBack : Type 0
LedgersBack =
    (s : Signing) (h : List Entry) (journal : List Told) → IsFair s h journal
    → (past : List Entry) (front : List Told) → At s h journal past front → KeepAt s journal past front

-- and what is known of each ledger says so.
abbrev pub KnownLedgersKeep : Type 0
KnownLedgersKeep =
    (s : Signing) (h : List Entry) (journal : List Told) → IsFair s h journal
    → (past : List Entry) (front : List Told) → At s h journal past front → LedgersKeep (facts_of (mind_at real s.key past front))

-- They stand too.
abbrev pub LedgersStandAtPlaces : Type 0
LedgersStandAtPlaces =
    (s : Signing) (h : List Entry) (journal : List Told) → IsFair s h journal
    → (past : List Entry) (front : List Told) → At s h journal past front → LedgersStand (facts_of (mind_at real s.key past front))
