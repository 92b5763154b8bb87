-- What a ledger can end with, for the parts that stand on it.
use Rattle.std.specs.Prelude.{◌≡◌, ℕ, ◌+◌, ◌-◌, ◌^◌, ◌≤◌, true, false, List, [], ◌∷◌, ◌++◌, Option, Some, ◌⊎◌}
use Rattle.std.specs.Str.{bytes_eq}
use Rattle.channel_values.specs.Outcomes.{IsOutcome}
use Rattle.channel_values.specs.Parts.{StateParts}
use Rattle.channel_values.specs.declared.value.AssetOutcome.{AssetOutcome}
use Rattle.channel_values.specs.declared.value.Dest.TheVariants.{Person, Channel}
use Rattle.channel_values.specs.Amounts.{amt, has}
use Rattle.funding_plans.specs.Shapes.{items_in}
use Rattle.funding_plans.specs.declared.plan.Part.{Part}
use Rattle.channel_safety.specs.Journals.{In}
use Rattle.funding_plans.specs.Outcomes as outcomes
use Rattle.funding_plans.specs.Outcomes.{names}
use Rattle.share_laws.specs.Places.{outcomes_of}
use Rattle.fairness_laws.specs.LedgerLending.{Lent}
use Rattle.fairness_laws.specs.LedgerMoving.{HaveItems, Afford}

-- what each ledger sets aside for a part
abbrev pub Lends : Type 0
Lends = List ℕ → Part → Option Lent

-- one outcome with which the ledger can end, for a part for which it sets something aside
pub record Backs (k : Lent) (last : StateParts) (o : List AssetOutcome) : Type 0 where
  -- what it sets aside is the child's amount
  pub amount : names k.child o ≡ true → amt (items_in k.child.asset o) (Channel k.child.name) ≡ k.child.a + k.child.b
  -- both people have items
  pub one : has (items_in k.child.asset o) (Person k.child.first) ≡ true
  pub other : has (items_in k.child.asset o) (Person k.child.second) ≡ true
  -- until it went up it does set it aside, or has it to set aside
  pub room : k.closing ≡ false → k.is_up ≡ false
      → (names k.child o ≡ true)
      ⊎ ((k.child.a ≤ amt (items_in k.child.asset o) (Person k.child.first))
      × (k.child.b ≤ amt (items_in k.child.asset o) (Person k.child.second)))
  -- from then on it does, until it may go down; and once it went down it doesn't
  pub up : k.is_up ≡ true → k.falls ≡ false → names k.child o ≡ true
  pub gone : k.closing ≡ true → names k.child last.outcome ≡ false → names k.child o ≡ false

-- the part has still to be opened, or has still to go down
abbrev pub IsPending : Lent → StateParts → Type 0
IsPending k last = ((k.closing ≡ false) × (k.done ≡ false)) ⊎ ((k.closing ≡ true) × (names k.child last.outcome ≡ true))

-- the ledger has still to go up for it, or may go down for it
abbrev pub IsVoted : Lent → StateParts → Type 0
IsVoted k last = ((k.closing ≡ false) × (k.is_up ≡ false)) ⊎ ((k.closing ≡ true) × (k.falls ≡ true) × (names k.child last.outcome ≡ true))

-- What can become of a ledger, where the participant signed this state last. It backs each part that stands on it,
-- and names children of such parts only. Votes stand only for a part for which it goes up or down.
pub record LedgerKeeps (parts : List Part) (lends : Lends) (l : List ℕ) (last : StateParts) : Type 0 where
  pub backs : (p : Part) (k : Lent) (o : List AssetOutcome) → In p parts → lends l p ≡ Some k → In o (outcomes_of last) → Backs k last o
  pub known : (asset : ℕ) (x : List ℕ) (o : List AssetOutcome) → In o (outcomes_of last) → has (items_in asset o) (Channel x) ≡ true
      → (p : Part) × (k : Lent) × In p parts × (lends l p ≡ Some k) × (k.child.name ≡ x)
  pub quiet : (outcomes_of last ≡ last.outcome ∷ [])
      ⊎ ((p : Part) × (k : Lent) × In p parts × (lends l p ≡ Some k) × IsVoted k last)

-- a part that is pending on one of its ledgers, each of which ends as this says
pub record PendingOn (lends : Lends) (own : List ℕ → Option StateParts) (p : Part) : Type 0 where
  pub ledger : List ℕ
  pub lent : Lent
  pub is : lends ledger p ≡ Some lent
  pub last : StateParts
  pub signed : own ledger ≡ Some last
  pub pending : IsPending lent last

-- one part at most is
abbrev pub OnePending : List Part → Lends → (own : List ℕ → Option StateParts) → Type 0
OnePending parts lends own = (p q : Part) → In p parts → In q parts → PendingOn lends own p → PendingOn lends own q → p ≡ q

pub record AllKeep (parts : List Part) (lends : Lends) (own : List ℕ → Option StateParts) : Type 0 where
  pub ledgers : (l : List ℕ) (last : StateParts) → own l ≡ Some last → LedgerKeeps parts lends l last
  pub one : OnePending parts lends own
  -- a part that closes went up
  pub late : (l : List ℕ) (p : Part) (k : Lent) → In p parts → lends l p ≡ Some k → k.closing ≡ true → k.is_up ≡ true
  -- and one that is opened
  pub ready : (l : List ℕ) (p : Part) (k : Lent) → In p parts → lends l p ≡ Some k → k.closing ≡ false → k.done ≡ true → k.is_up ≡ true

-- ---- what changes

-- each child on a ledger has a name of its own
abbrev pub ChildrenApart : List Part → Lends → List ℕ → Type 0
ChildrenApart parts lends l =
    (p q : Part) (j k : Lent) → In p parts → In q parts → lends l p ≡ Some j → lends l q ≡ Some k
    → bytes_eq j.child.name k.child.name ≡ true → p ≡ q

-- what is signed next is an outcome with which the ledger could end, or the target, or proposes that
pub data Follows (now target : List AssetOutcome) (state : StateParts) : Type 0 where
  stays : state.outcome ≡ now → outcomes_of state ≡ state.outcome ∷ [] → Follows now target state
  settles : state.outcome ≡ target → outcomes_of state ≡ state.outcome ∷ [] → Follows now target state
  proposes : state.outcome ≡ now → ((o : List AssetOutcome) → In o (outcomes_of state) → (o ≡ now) ⊎ (o ≡ target))
      → (target ≡ now → ⊥) → Follows now target state

-- it holds no votes and sets the child's amount aside
pub record HasGoneUp (k : Lent) (last : StateParts) : Type 0 where
  pub alone : outcomes_of last ≡ last.outcome ∷ []
  pub named : names k.child last.outcome ≡ true

-- What is set aside for a part, later: the same child. Where it went up or may go down it stays so, and where it has
-- now gone up the ledger says so.
pub record Later (k j : Lent) (own : Option StateParts) : Type 0 where
  pub child : j.child ≡ k.child
  pub closing : j.closing ≡ k.closing
  pub is_up : k.is_up ≡ true → j.is_up ≡ true
  pub done : k.closing ≡ false → k.done ≡ true → j.done ≡ true
  pub ready : j.closing ≡ false → j.done ≡ true → j.is_up ≡ true
  pub falls : k.falls ≡ true → j.falls ≡ true
  pub rises : k.is_up ≡ false → j.is_up ≡ true → (last : StateParts) → own ≡ Some last → HasGoneUp j last

pub record Drifts (parts : List Part) (was lends : Lends) (own : List ℕ → Option StateParts) : Type 0 where
  pub before : (l : List ℕ) (p : Part) (j : Lent) → In p parts → lends l p ≡ Some j → (k : Lent) × (was l p ≡ Some k) × Later k j (own l)
  pub after : (l : List ℕ) (p : Part) (k : Lent) → In p parts → was l p ≡ Some k → (j : Lent) × (lends l p ≡ Some j)

-- a new part, on ledgers that afford it, where none is pending
pub record Opens (parts : List Part) (p : Part) (lends : Lends) (own : List ℕ → Option StateParts) : Type 0 where
  pub idle : (q : Part) → In q parts → PendingOn lends own q → ⊥
  pub fresh : (l : List ℕ) (k : Lent) → lends l p ≡ Some k → (k.closing ≡ false) × (k.is_up ≡ false) × (k.done ≡ false)
  pub unnamed : (l : List ℕ) (k : Lent) → lends l p ≡ Some k → (q : Part) (j : Lent) → In q parts → lends l q ≡ Some j → j.child.name ≡ k.child.name → ⊥
  pub affords : (l : List ℕ) (k : Lent) → lends l p ≡ Some k → (last : StateParts) → own l ≡ Some last
      → HaveItems k.child last.outcome × Afford k.child last.outcome

-- a part that went up begins to close, and no other changes
pub data Closing (p q : Part) (k j : Lent) : Type 0 where
  other : j.closing ≡ k.closing → j.falls ≡ k.falls → Closing p q k j
  this : q ≡ p → j.closing ≡ true → k.closing ≡ false → k.is_up ≡ true → k.falls ≡ false → Closing p q k j

pub record Closes (parts : List Part) (p : Part) (was lends : Lends) (own : List ℕ → Option StateParts) : Type 0 where
  pub idle : (q : Part) → In q parts → PendingOn was own q → ⊥
  pub before : (l : List ℕ) (q : Part) (j : Lent) → In q parts → lends l q ≡ Some j
      → (k : Lent) × (was l q ≡ Some k) × (j.child ≡ k.child) × (j.is_up ≡ k.is_up) × (j.done ≡ k.done) × Closing p q k j
  pub after : (l : List ℕ) (q : Part) (k : Lent) → In q parts → was l q ≡ Some k → (j : Lent) × (lends l q ≡ Some j)

-- A ledger l moves: after an outcome with which it could end, it repeats that, or goes up or down for a part.
pub data Moves (parts : List Part) (lends : Lends) (l : List ℕ) (now : List AssetOutcome) (state : StateParts) : Type 0 where
  repeats : state.outcome ≡ now → outcomes_of state ≡ state.outcome ∷ [] → Moves parts lends l now state
  up : (p : Part) (k : Lent) → In p parts → lends l p ≡ Some k → k.closing ≡ false → k.is_up ≡ false
      → bytes_eq k.child.first k.child.second ≡ false → k.child.a + k.child.b ≤ 2 ^ 64 - 1
      → Follows now (outcomes.up k.child now) state → Moves parts lends l now state
  down : (p : Part) (k : Lent) (a b : ℕ) → In p parts → lends l p ≡ Some k → k.closing ≡ true → k.falls ≡ true
      → bytes_eq k.child.first k.child.second ≡ false → a + b ≡ k.child.a + k.child.b
      → Follows now (outcomes.down (record k.child { a = a; b = b }) now) state → Moves parts lends l now state

-- ---- laws

-- At the beginning, and after each of these, ledgers back what stands on them.
abbrev pub DriftsKeep : Type 0
DriftsKeep =
    (parts : List Part) (was lends : Lends) (own : List ℕ → Option StateParts) → AllKeep parts was own → Drifts parts was lends own
    → AllKeep parts lends own

abbrev pub OpeningsKeep : Type 0
OpeningsKeep =
    (parts : List Part) (p : Part) (lends : Lends) (own : List ℕ → Option StateParts) → AllKeep parts lends own → Opens parts p lends own
    → AllKeep (parts ++ p ∷ []) lends own

abbrev pub ClosingsKeep : Type 0
ClosingsKeep =
    (parts : List Part) (p : Part) (was lends : Lends) (own : List ℕ → Option StateParts) → AllKeep parts was own → Closes parts p was lends own
    → AllKeep parts lends own

abbrev pub MovesKeep : Type 0
MovesKeep =
    (parts : List Part) (lends : Lends) (l : List ℕ) (last state : StateParts) (now : List AssetOutcome) (own next : List ℕ → Option StateParts)
    → AllKeep parts lends own → own l ≡ Some last → In now (outcomes_of last) → IsOutcome now → ChildrenApart parts lends l
    → Moves parts lends l now state → next l ≡ Some state → ((m : List ℕ) → bytes_eq m l ≡ false → next m ≡ own m)
    → AllKeep parts lends next
