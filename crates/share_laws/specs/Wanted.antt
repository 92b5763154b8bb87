-- The states that a participant wants to sign, and what they do to its share.
use Rattle.std.specs.Prelude.{◌≡◌, ◌≢◌, ℕ, ◌+◌, ◌≤◌, false, List, [], ◌∷◌, Option, Some, ◌⊎◌}
use Rattle.std.specs.Str.{bytes_eq}
use Rattle.channel_values.specs.Outcomes.{IsOutcome}
use Rattle.channel_values.specs.Parts.{FixedParts, StateParts}
use Rattle.channel_values.specs.declared.value.AssetOutcome.{AssetOutcome}
use Rattle.channel_values.specs.declared.value.Dest.TheVariants.{Person}
use Rattle.channel_values.specs.declared.value.Item.{Item}
use Rattle.call_history.specs.Mode.{is_final}
use Rattle.channel_values.specs.Amounts.{aff}
use Rattle.channel_values.specs.Rules.{Rules}
use Rattle.call_history.specs.Dues.{shape_in}
use Rattle.call_history.specs.Flows.{is_among}
use Rattle.call_history.specs.History.{mode}
use Rattle.call_history.specs.declared.entry.Entry.{Entry}
use Rattle.channel_safety.specs.Journals.{In, Line}
use Rattle.support_rules.specs.Toward.{wanted_toward}
use Rattle.funding_plans.specs.declared.plan.Part.{Part}
use Rattle.funding_plans.specs.Parts.{own_channel}
use Rattle.share_laws.specs.Books.{outcome_in}
use Rattle.share_laws.specs.Places.{Order, plan, possible, counting, outcomes_of, share, Funded}
use Rattle.share_laws.specs.Plans.{IsPlan, IsBare}
use Rattle.share_laws.specs.Bases.{all_bases}
use Rattle.share_laws.specs.Moves.{SetsAside}
use Rattle.share_laws.specs.Items.{lowered, raised}
use Rattle.share_laws.specs.Signatures.{signing, IsOwn}
use Rattle.funding_plans.specs.Shapes.{items_in, list_in}
use Rattle.share_laws.specs.Settled.{Has, MayJoin}

-- whatever the channel l can end with, it sets nothing aside for a part of the plan
abbrev pub LendsNothing : Rules → (ℕ → Order) → List Entry → List Line → (asset : ℕ) → (l : List ℕ) → Type 0
LendsNothing r orders past front asset l =
    (taken : List (List ℕ)) → IsBare (plan orders front) l (items_in asset (outcome_in (counting r past front) taken l))

-- How the items of one asset move in the channel f from one outcome to a target, for a part of the plan.
pub data MovesFor (r : Rules) (me : List ℕ) (orders : ℕ → Order) (past : List Entry) (front : List Line)
    (f : FixedParts) (asset : ℕ) (from target : List Item) : Type 0 where
  up : (p : Part) (x : List ℕ) (mine all : ℕ) → In p (plan orders front)
      → Has r me past front p (r.named f) x asset mine all
      → SetsAside me x mine all from target → MovesFor r me orders past front f asset from target
  down : (p : Part) (x : List ℕ) (mine all : ℕ) → In p (plan orders front)
      → Has r me past front p (r.named f) x asset mine all
      → SetsAside me x mine all target from → MovesFor r me orders past front f asset from target
  together : (p : Part) → In p (plan orders front) → LendsNothing r orders past front asset (own_channel p)
      → MayJoin r me past front p (r.named f) asset from target → MovesFor r me orders past front f asset from target
  apart : (p : Part) → In p (plan orders front) → LendsNothing r orders past front asset (own_channel p)
      → MayJoin r me past front p (r.named f) asset target from → MovesFor r me orders past front f asset from target

-- a target that moves one asset, for a part of the plan, and no other
pub record IsTarget (r : Rules) (me : List ℕ) (orders : ℕ → Order) (past : List Entry) (front : List Line)
    (f : FixedParts) (from target : List AssetOutcome) : Type 0 where
  pub asset : ℕ
  pub moves : MovesFor r me orders past front f asset (items_in asset from) (items_in asset target)
  pub list : list_in asset target ≡ list_in asset from
  pub others : (a : ℕ) → a ≢ asset → shape_in target a ≡ shape_in from a

-- The move toward such a target, or toward the outcome that stands, after a state whose outcome the channel could end
-- with, keeps the share of a funded plan.
abbrev pub WantedVotesKeepShares : Type 0
WantedVotesKeepShares =
    (r : Rules) (me : List ℕ) (orders : ℕ → Order) (past : List Entry) (front : List Line)
    → (f : FixedParts) (n : ℕ) (target : List AssetOutcome) (s : StateParts) (own : Option StateParts)
    → (state : StateParts) (signature : List ℕ) (adds : List FixedParts)
    → IsOwn r front f → IsPlan (plan orders front) → Funded r me orders past front
    → is_final (mode r (r.named f) past) ≡ false
    → (possible r past (signing r past f state signature adds ∷ front) f ≡ [] → possible r past front f ≡ [])
    → IsOutcome target → wanted_toward n target s own ≡ Some state → In s.outcome (possible r past front f)
    → (target ≡ s.outcome) ⊎ IsTarget r me orders past front f s.outcome target
    → (asset : ℕ) → share r me orders past front asset
    ≤ share r me orders past (signing r past f state signature adds ∷ front) asset

-- The first states that it signs in a channel, before that counts, keep it whether the plan is funded or not.
abbrev pub FirstStatesKeepShares : Type 0
FirstStatesKeepShares =
    (r : Rules) (me : List ℕ) (orders : ℕ → Order) (past : List Entry) (front : List Line)
    → (f : FixedParts) (state : StateParts) (signature : List ℕ) (adds : List FixedParts)
    → IsOwn r front f → IsPlan (plan orders front) → possible r past front f ≡ []
    → (asset : ℕ) → share r me orders past front asset
    ≤ share r me orders past (signing r past f state signature adds ∷ front) asset

-- A state that proposes nothing, such as a pass, a turn of the set-up and a final state, keeps it too. Its outcome is
-- one with which the channel could end. In a channel on which no part stands it may also be one that affords no less.
abbrev pub WantedRepeatsKeepShares : Type 0
WantedRepeatsKeepShares =
    (r : Rules) (me : List ℕ) (orders : ℕ → Order) (past : List Entry) (front : List Line)
    → (f : FixedParts) (state : StateParts) (signature : List ℕ) (adds : List FixedParts) (from : List AssetOutcome)
    → IsOwn r front f → IsPlan (plan orders front) → Funded r me orders past front
    → is_final (mode r (r.named f) past) ≡ false
    → (possible r past (signing r past f state signature adds ∷ front) f ≡ [] → possible r past front f ≡ [])
    → outcomes_of state ≡ state.outcome ∷ [] → In from (possible r past front f)
    → (state.outcome ≡ from) ⊎ ((is_among (r.named f) (all_bases (plan orders front)) ≡ false)
    × ((asset n : ℕ) → aff (items_in asset from) n (Person me) ≤ aff (items_in asset state.outcome) n (Person me))
    × ((asset : ℕ) → list_in asset state.outcome ≡ list_in asset from))
    → (asset : ℕ) → share r me orders past front asset
    ≤ share r me orders past (signing r past f state signature adds ∷ front) asset

-- ---- payments

-- what the person me pays another
abbrev pub paid_over : (me other : List ℕ) (k : ℕ) → List Item → List Item
paid_over me other k items = raised (Person other) k (lowered (Person me) k items)

-- It lowers what the items afford the person by no more than k, no matter whose item stands first.
abbrev pub PaymentsAfford : Type 0
PaymentsAfford =
    (me other : List ℕ) (k : ℕ) (items : List Item) → bytes_eq me other ≡ false →
    (n : ℕ) → aff items n (Person me) ≤ aff (paid_over me other k items) n (Person me) + k
