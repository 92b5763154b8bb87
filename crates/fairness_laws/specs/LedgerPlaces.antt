-- What a node's ledgers can end with, from one place of its journal to the next.
use Rattle.std.specs.Prelude.{◌≡◌, ℕ, ◌==◌, Bool, false, ◌&&◌, List, [], ◌∷◌, ◌++◌, Option, Some, None, if◌then◌else◌}
use Rattle.std.specs.List.{list_any}
use Rattle.std.specs.Option.{option_map}
use Rattle.std.specs.Str.{bytes_eq}
use Rattle.channel_values.specs.Outcomes.{IsOutcome}
use Rattle.channel_values.specs.Parts.{StateParts}
use Rattle.channel_values.specs.declared.value.AssetOutcome.{AssetOutcome}
use Rattle.channel_values.specs.declared.value.Dest.TheVariants.{Channel}
use Rattle.call_history.specs.declared.entry.Entry.{Entry}
use Rattle.channel_values.specs.Amounts.{has}
use Rattle.funding_plans.specs.Shapes.{items_in}
use Rattle.funding_plans.specs.declared.plan.Part.{Part}
use Rattle.channel_safety.specs.Journals.{In}
use Rattle.channel_node.specs.Minds.{facts_of}
use Rattle.channel_node.specs.Places.{Told, lines_of, mind_at}
use Rattle.channel_node.specs.Playing.{Signing}
use Rattle.node_guarantees.specs.Orders.{orders_of}
use Rattle.fairness_laws.specs.PaymentLaws.{At, ActsNext}
use Rattle.fairness_laws.specs.PlanBearers.{bears}
use Rattle.fairness_laws.specs.PlanSettings.{IsFair}
use Rattle.share_laws.specs.Places.{channels, plan, last_made, outcomes_of}
use Rattle.support_rules.specs.Real.{real}
use Rattle.fairness_laws.specs.LedgerKeeping.{Lends, AllKeep, ChildrenApart, Drifts, Opens, Closes, Moves}
use Rattle.fairness_laws.specs.LedgerLending.{Lent, lent}

-- a consensus channel that is the own channel of a part of the node's plan on which others may stand
abbrev pub is_ledger : (key : List ℕ) → List Told → List ℕ → Bool
is_ledger key journal l =
    list_any (λ f. bytes_eq (real.named f) l && (f.app == 0)) (channels (lines_of key journal))
    && list_any (bears l) (plan (orders_of real key journal) (lines_of key journal))

-- what the node signed last in such a channel
abbrev pub own_at : (key : List ℕ) → (journal front : List Told) → List ℕ → Option StateParts
own_at key journal front l = if is_ledger key journal l then option_map (λ s. s.state) (last_made l (lines_of key front)) else None

abbrev pub parts_at : Signing → List Entry → List Told → List Part
parts_at s past front = (mind_at real s.key past front).parts

abbrev pub lends_at : Signing → List Entry → List Told → Lends
lends_at s past front = lent (facts_of (mind_at real s.key past front))

abbrev pub KeepAt : Signing → (journal : List Told) → List Entry → List Told → Type 0
KeepAt s journal past front = AllKeep (parts_at s past front) (lends_at s past front) (own_at s.key journal front)

-- What one event or entry makes of parts, of what is set aside for them, and of what was signed last.
pub data Step (parts : List Part) (lends : Lends) (own : List ℕ → Option StateParts) (new : List Part) (now_lends : Lends)
    (next : List ℕ → Option StateParts) : Type 0 where
  drifts : new ≡ parts → Drifts parts lends now_lends own → ((l : List ℕ) → next l ≡ own l) → Step parts lends own new now_lends next
  opens : (p : Part) → new ≡ parts ++ p ∷ [] → Drifts parts lends now_lends own → Opens parts p now_lends own
      → ((l : List ℕ) → next l ≡ own l) → Step parts lends own new now_lends next
  closes : (p : Part) → new ≡ parts → Closes parts p lends now_lends own → ((l : List ℕ) → next l ≡ own l) → Step parts lends own new now_lends next
  -- a ledger moves
  moves : (l : List ℕ) (last state : StateParts) (now : List AssetOutcome) → new ≡ parts → Drifts parts lends now_lends next
      → own l ≡ Some last → In now (outcomes_of last) → IsOutcome now → ChildrenApart parts lends l → Moves parts lends l now state
      → next l ≡ Some state → ((m : List ℕ) → bytes_eq m l ≡ false → next m ≡ own m) → Step parts lends own new now_lends next
  -- a first state is signed in it, while nothing stands on it
  starts : (l : List ℕ) (state : StateParts) → new ≡ parts → Drifts parts lends now_lends next
      → ((p : Part) (k : Lent) → In p parts → lends l p ≡ Some k → ⊥) → outcomes_of state ≡ state.outcome ∷ []
      → ((asset : ℕ) (x : List ℕ) → has (items_in asset state.outcome) (Channel x) ≡ false) → own l ≡ None
      → next l ≡ Some state → ((m : List ℕ) → bytes_eq m l ≡ false → next m ≡ own m) → Step parts lends own new now_lends next

abbrev pub StepsKeep : Type 0
StepsKeep =
    (parts : List Part) (lends : Lends) (own : List ℕ → Option StateParts) (new : List Part) (now_lends : Lends)
    (next : List ℕ → Option StateParts) → AllKeep parts lends own → Step parts lends own new now_lends next → AllKeep new now_lends next

-- from a place to a later one
abbrev pub StepAt : Signing → (journal : List Told) → (past later : List Entry) → (front longer : List Told) → Type 0
StepAt s journal past later front longer =
    Step (parts_at s past front) (lends_at s past front) (own_at s.key journal front)
    (parts_at s later longer) (lends_at s later longer) (own_at s.key journal longer)

-- Each event and each entry is such a step, where ledgers backed what stands on them before.
pub record StepsAtPlaces (s : Signing) (h : List Entry) (journal : List Told) : Type 0 where
  pub events :
      (past : List Entry) (x : Told) (front : List Told) → ActsNext s h journal past x front → KeepAt s journal past front
      → StepAt s journal past past front (x ∷ front)
  pub entries :
      (past : List Entry) (e : Entry) (front : List Told) → At s h journal past front → At s h journal (e ∷ past) front
      → KeepAt s journal past front → StepAt s journal past (e ∷ past) front front

abbrev pub LedgersKeepAtPlaces : Type 0
LedgersKeepAtPlaces =
    (s : Signing) (h : List Entry) (journal : List Told) → IsFair s h journal → StepsAtPlaces s h journal
    → (past : List Entry) (front : List Told) → At s h journal past front → KeepAt s journal past front
