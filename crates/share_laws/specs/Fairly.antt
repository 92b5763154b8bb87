-- What an honest participant's signatures keep, so that each is fair to its share.
use Rattle.std.specs.Prelude.{◌≡◌, ◌≢◌, ℕ, ◌≤◌, false, List, [], ◌∷◌, length, Option, Some, ◌⊎◌}
use Rattle.std.specs.Str.{bytes_eq}
use Rattle.channel_values.specs.Outcomes.{IsOutcome}
use Rattle.channel_values.specs.Parts.{FixedParts, StateParts}
use Rattle.channel_values.specs.declared.value.AssetOutcome.{AssetOutcome}
use Rattle.channel_values.specs.declared.value.Dest.TheVariants.{Person}
use Rattle.call_history.specs.Mode.{is_final}
use Rattle.channel_values.specs.Amounts.{aff}
use Rattle.channel_values.specs.Rules.{Rules}
use Rattle.call_history.specs.Dues.{shape_in}
use Rattle.call_history.specs.Flows.{is_among}
use Rattle.call_history.specs.History.{mode}
use Rattle.call_history.specs.declared.entry.Entry.{Entry}
use Rattle.call_history.specs.declared.event.Deed.TheVariants as deeds
use Rattle.channel_safety.specs.Journals.{In, Line}
use Rattle.support_rules.specs.Toward.{wanted_toward}
use Rattle.share_laws.specs.Places.{Order, paying, plan, possible, outcomes_of, IsPlace}
use Rattle.share_laws.specs.Kept.{last_order, is_paying, SignsFairly}
use Rattle.share_laws.specs.Plans.{IsPlan}
use Rattle.share_laws.specs.Bases.{all_bases}
use Rattle.share_laws.specs.Signatures.{signing, IsOwn}
use Rattle.funding_plans.specs.Shapes.{items_in, list_in}
use Rattle.share_laws.specs.Wanted.{IsTarget, paid_over}

-- o affords the person no less than an outcome with which the channel could end, in each asset
pub record NoLess (me : List ℕ) (from o : List AssetOutcome) : Type 0 where
  pub affords : (asset n : ℕ) → aff (items_in asset from) n (Person me) ≤ aff (items_in asset o) n (Person me)
  pub lists : (asset : ℕ) → list_in asset o ≡ list_in asset from

-- what is signed where nothing was ordered to be paid
pub data Wants (r : Rules) (me : List ℕ) (orders : ℕ → Order) (past : List Entry) (front : List Line) (f : FixedParts)
    (state : StateParts) : Type 0 where
  -- a first state of the channel
  first : possible r past front f ≡ [] → Wants r me orders past front f state
  -- a state that repeats an outcome, or in a payment channel one that others have improved
  repeats : (from : List AssetOutcome) → outcomes_of state ≡ state.outcome ∷ [] → In from (possible r past front f)
      → (state.outcome ≡ from)
      ⊎ ((is_among (r.named f) (all_bases (plan orders front)) ≡ false) × NoLess me from state.outcome)
      → Wants r me orders past front f state
  -- the move toward a target after the state s
  votes : (n : ℕ) (target : List AssetOutcome) (s : StateParts) (own : Option StateParts) → IsOutcome target
      → wanted_toward n target s own ≡ Some state → In s.outcome (possible r past front f)
      → (target ≡ s.outcome) ⊎ IsTarget r me orders past front f s.outcome target → Wants r me orders past front f state

-- what is signed where an amount of an asset was ordered to be paid
pub record Pays (r : Rules) (me : List ℕ) (orders : ℕ → Order) (past : List Entry) (front : List Line) (f : FixedParts)
    (state : StateParts) (asset amount : ℕ) : Type 0 where
  pub no_base : is_among (r.named f) (all_bases (plan orders front)) ≡ false
  pub alone : outcomes_of state ≡ state.outcome ∷ []
  pub from : List AssetOutcome
  pub could : In from (possible r past front f)
  pub latest : List AssetOutcome
  pub improved : NoLess me from latest
  pub payee : List ℕ
  pub apart : bytes_eq me payee ≡ false
  pub items : items_in asset state.outcome ≡ paid_over me payee amount (items_in asset latest)
  pub list : list_in asset state.outcome ≡ list_in asset latest
  pub others : (a : ℕ) → a ≢ asset → shape_in state.outcome a ≡ shape_in latest a

-- What the participant signs at a place, of a channel of its own that isn't final and goes on to count.
pub record SignsWell (r : Rules) (me : List ℕ) (orders : ℕ → Order) (past : List Entry) (front : List Line)
    (f : FixedParts) (state : StateParts) (signature : List ℕ) (adds : List FixedParts) : Type 0 where
  pub own : IsOwn r front f
  pub plan_whole : IsPlan (plan orders front)
  pub going : is_final (mode r (r.named f) past) ≡ false
  pub counts : possible r past (signing r past f state signature adds ∷ front) f ≡ [] → possible r past front f ≡ []
  pub wants : is_paying (last_order orders front) ≡ false → Wants r me orders past front f state
  pub pays : (asset amount : ℕ) → last_order orders front ≡ paying asset amount
      → Pays r me orders past front f state asset amount

-- The line by which it is signed is fair to the share.
abbrev pub SignersAreFair : Type 0
SignersAreFair =
    (r : Rules) (me : List ℕ) (orders : ℕ → Order) (past : List Entry) (front : List Line)
    → (f : FixedParts) (state : StateParts) (signature : List ℕ) (x : Line)
    → x.seen ≡ length past → x.deed ≡ deeds.Signed (r.named f) state signature
    → SignsWell r me orders past front f state signature x.adds → SignsFairly r me orders past x front

-- So it is at each place of a history and a journal.
abbrev pub SignersAreFairAtPlaces : Type 0
SignersAreFairAtPlaces =
    (r : Rules) (me : List ℕ) (orders : ℕ → Order) (h : List Entry) (journal : List Line) (past : List Entry)
    (front : List Line)
    → (f : FixedParts) (state : StateParts) (signature : List ℕ) (x : Line)
    → IsPlace h journal past front → IsPlace h journal past (x ∷ front)
    → x.deed ≡ deeds.Signed (r.named f) state signature
    → SignsWell r me orders past front f state signature x.adds → SignsFairly r me orders past x front
