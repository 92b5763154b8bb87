-- What a part has where its channels can end in one way each: whatever the other channels end with.
use Rattle.std.specs.Prelude.{◌≡◌, ℕ, ◌≤◌, true, List, [], ◌∷◌, ◌⊎◌}
use Rattle.channel_values.specs.Parts.{FixedParts}
use Rattle.channel_values.specs.declared.value.AssetOutcome.{AssetOutcome}
use Rattle.channel_values.specs.declared.value.Dest.TheVariants.{Person, Channel}
use Rattle.channel_values.specs.declared.value.Item.{Item}
use Rattle.channel_values.specs.Amounts.{amt, has}
use Rattle.channel_values.specs.Rules.{Rules}
use Rattle.call_history.specs.declared.entry.Entry.{Entry}
use Rattle.channel_safety.specs.Journals.{Line}
use Rattle.funding_plans.specs.declared.plan.Part.{Part}
use Rattle.funding_plans.specs.declared.plan.Part.TheVariants.{Root, OnLedger, End, Middle}
use Rattle.funding_plans.specs.declared.plan.Virtual.{Virtual}
use Rattle.funding_plans.specs.Shapes.{items_in, list_in}
use Rattle.share_laws.specs.Books.{outcome_in, counts_in, books_under}
use Rattle.funding_plans.specs.Parts.{own_ledger, own_guarantor}
use Rattle.share_laws.specs.Funded.{up_to}
use Rattle.share_laws.specs.Places.{possible, counting, balances}
use Rattle.share_laws.specs.Moves.{IsApart, IsTogether, PaysApart, PaysTogether, Backs, Joins}
use Rattle.share_laws.specs.Signatures.{IsOwn}

-- the channel of this name can end with o alone
pub record EndsWith (r : Rules) (past : List Entry) (front : List Line) (name : List ℕ)
    (o : List AssetOutcome) : Type 0 where
  pub fixed : FixedParts
  pub own : IsOwn r front fixed
  pub is : r.named fixed ≡ name
  pub alone : possible r past front fixed ≡ o ∷ []

-- Under each choice it ends with that, and counts.
abbrev pub EndsAsItCan : Type 0
EndsAsItCan =
    (r : Rules) (past : List Entry) (front : List Line) (name : List ℕ) (o : List AssetOutcome)
    → EndsWith r past front name o
    → (taken : List (List ℕ)) → (outcome_in (counting r past front) taken name ≡ o)
    × (counts_in (counting r past front) name ≡ true)

-- ---- of what a ledger sets aside

pub record ChildHas (r : Rules) (me : List ℕ) (past : List Entry) (front : List Line) (c : List ℕ)
    (asset mine all : ℕ) : Type 0 where
  pub outcome : List AssetOutcome
  pub ends : EndsWith r past front c outcome
  pub own : amt (items_in asset outcome) (Person me) ≡ mine
  pub within : up_to (items_in asset outcome) (Person me) ≤ all

pub record EndHas (r : Rules) (me : List ℕ) (past : List Entry) (front : List Line) (v : Virtual)
    (asset mine : ℕ) : Type 0 where
  pub promise : List AssetOutcome
  pub guarantor : EndsWith r past front (own_guarantor v) promise
  pub outcome : List AssetOutcome
  pub joint : EndsWith r past front v.joint outcome
  pub apart : IsApart me v.channel mine (items_in asset outcome)
  pub within : mine ≤ v.total

-- both guarantors of an intermediary, and what its joint channel pays by them
pub record Between (r : Rules) (past : List Entry) (front : List Line) (v : Virtual) : Type 0 where
  pub promise_a : List AssetOutcome
  pub promise_b : List AssetOutcome
  pub guarantor_a : EndsWith r past front v.guarantor_a promise_a
  pub guarantor_b : EndsWith r past front v.guarantor_b promise_b

pub record MiddleHas (r : Rules) (me : List ℕ) (past : List Entry) (front : List Line) (v : Virtual) (l x : List ℕ)
    (asset mine : ℕ) : Type 0 where
  pub between : Between r past front v
  pub outcome : List AssetOutcome
  pub joint : EndsWith r past front v.joint outcome
  pub a : ℕ
  pub c : ℕ
  pub apart : PaysApart me v a c (list_in asset between.promise_a) (list_in asset between.promise_b)
      (items_in asset outcome)
  pub side : ((v.ledger_a ≡ l) × (v.guarantor_a ≡ x) × (mine ≡ c))
      ⊎ ((v.ledger_b ≡ l) × (v.guarantor_b ≡ x) × (mine ≡ a))

-- what the part has of what the ledger l sets aside for the channel x
abbrev pub Has : Rules → (me : List ℕ) → List Entry → List Line → Part → (l x : List ℕ) → (asset mine all : ℕ) → Type 0
Has r me past front (Root c) l x asset mine all = ⊥
Has r me past front (OnLedger m c) l x asset mine all = (m ≡ l) × (c ≡ x) × ChildHas r me past front c asset mine all
Has r me past front (End v) l x asset mine all =
    (own_ledger v ≡ l) × (own_guarantor v ≡ x) × (v.total ≡ all) × EndHas r me past front v asset mine
Has r me past front (Middle v) l x asset mine all = (v.total ≡ all) × MiddleHas r me past front v l x asset mine

-- It has so under each choice.
abbrev pub HasBacks : Type 0
HasBacks =
    (r : Rules) (me : List ℕ) (past : List Entry) (front : List Line) (p : Part) (l x : List ℕ) (asset mine all : ℕ)
    → Has r me past front p l x asset mine all → (taken : List (List ℕ))
    → Backs (books_under (balances past asset) (counting r past front) asset taken) me p l x mine all

-- ---- of a joint channel

-- the guarantor g counts, and the ledger l can end with an outcome alone, which names g with its total
pub record InFull (r : Rules) (past : List Entry) (front : List Line) (l g : List ℕ) (asset all : ℕ) : Type 0 where
  pub promise : List AssetOutcome
  pub guarantor : EndsWith r past front g promise
  pub outcome : List AssetOutcome
  pub ledger : EndsWith r past front l outcome
  pub named : has (items_in asset outcome) (Channel g) ≡ true
  pub amount : amt (items_in asset outcome) (Channel g) ≡ all

pub record EndMay (r : Rules) (me : List ℕ) (past : List Entry) (front : List Line) (v : Virtual) (asset : ℕ)
    (js ks : List Item) : Type 0 where
  pub mine : ℕ
  pub apart : IsApart me v.channel mine js
  pub together : IsTogether me v.channel v.total ks
  pub channel : ChildHas r me past front v.channel asset mine v.total
  pub full : InFull r past front (own_ledger v) (own_guarantor v) asset v.total

pub record MiddleMay (r : Rules) (me : List ℕ) (past : List Entry) (front : List Line) (v : Virtual) (asset : ℕ)
    (js ks : List Item) : Type 0 where
  pub between : Between r past front v
  pub a : ℕ
  pub c : ℕ
  pub apart : PaysApart me v a c (list_in asset between.promise_a) (list_in asset between.promise_b) js
  pub together : PaysTogether me v (list_in asset between.promise_a) (list_in asset between.promise_b) ks
  pub full_a : InFull r past front v.ledger_a v.guarantor_a asset v.total
  pub full_b : InFull r past front v.ledger_b v.guarantor_b asset v.total

-- the part may have its joint channel j pay by js, and by ks
abbrev pub MayJoin : Rules → (me : List ℕ) → List Entry → List Line → Part → (j : List ℕ) → (asset : ℕ)
    → (js ks : List Item) → Type 0
MayJoin r me past front (Root c) j asset js ks = ⊥
MayJoin r me past front (OnLedger m c) j asset js ks = ⊥
MayJoin r me past front (End v) j asset js ks = (v.joint ≡ j) × EndMay r me past front v asset js ks
MayJoin r me past front (Middle v) j asset js ks = (v.joint ≡ j) × MiddleMay r me past front v asset js ks

-- It may so under each choice.
abbrev pub MayJoins : Type 0
MayJoins =
    (r : Rules) (me : List ℕ) (past : List Entry) (front : List Line) (p : Part) (j : List ℕ) (asset : ℕ)
    (js ks : List Item)
    → MayJoin r me past front p j asset js ks → (taken : List (List ℕ))
    → Joins (books_under (balances past asset) (counting r past front) asset taken) me p j js ks
