-- The laws at a place: after these entries, when a participant signs a state.
use Rattle.std.specs.Prelude.{◌≡◌, ℕ, ◌+◌, ◌≤◌, false, List, [], ◌∷◌, length, ◌⊎◌}
use Rattle.std.specs.Str.{bytes_eq}
use Rattle.channel_values.specs.Parts.{FixedParts, StateParts}
use Rattle.channel_values.specs.Outcomes.{AreApart}
use Rattle.channel_values.specs.declared.value.AssetOutcome.{AssetOutcome}
use Rattle.channel_values.specs.declared.value.Dest.TheVariants.{Person}
use Rattle.channel_values.specs.Amounts.{aff}
use Rattle.channel_values.specs.Rules.{Rules}
use Rattle.call_history.specs.Flows.{is_among}
use Rattle.call_history.specs.declared.entry.Entry.{Entry}
use Rattle.call_history.specs.declared.event.Deed.TheVariants as deeds
use Rattle.channel_safety.specs.Journals.{In, Line}
use Rattle.funding_plans.specs.Shapes.{items_in, list_in}
use Rattle.share_laws.specs.Books.{outcome_in, books_under}
use Rattle.share_laws.specs.Places.{Order, plan, channels, possible, counting, balances, share, Funded}
use Rattle.share_laws.specs.Plans.{IsPlan}
use Rattle.share_laws.specs.Bases.{all_bases}
use Rattle.share_laws.specs.Moves.{IsFair}

-- a line by which a state of the channel f is signed after these entries
abbrev pub signing :
    Rules → List Entry → FixedParts → StateParts → (signature : List ℕ) → (adds : List FixedParts) → Line
signing r past f state signature adds =
    record { seen = length past; deed = deeds.Signed (r.named f) state signature; adds = adds }

-- it is a channel of the participant, and no other has its name
pub record IsOwn (r : Rules) (front : List Line) (f : FixedParts) : Type 0 where
  pub there : In f (channels front)
  pub apart : AreApart (λ g h. bytes_eq (r.named g) (r.named h)) (channels front)

-- For an outcome with which the channel could end, whatever the others end with, o is fair.
pub record IsFairAt (r : Rules) (me : List ℕ) (orders : ℕ → Order) (past : List Entry) (front : List Line)
    (f : FixedParts) (asset : ℕ) (o : List AssetOutcome) : Type 0 where
  pub from : List AssetOutcome
  pub could : In from (possible r past front f)
  pub list : list_in asset o ≡ list_in asset from
  pub fair : (taken : List (List ℕ)) → outcome_in (counting r past front) taken (r.named f) ≡ from →
      IsFair (books_under (balances past asset) (counting r past front) asset taken) me (plan orders front) (r.named f)
      (items_in asset o)

-- Against an outcome with which the channel could end, o affords the person at most k less.
pub record IsPaidAt (r : Rules) (me : List ℕ) (past : List Entry) (front : List Line) (f : FixedParts) (asset k : ℕ)
    (o : List AssetOutcome) : Type 0 where
  pub from : List AssetOutcome
  pub could : In from (possible r past front f)
  pub list : list_in asset o ≡ list_in asset from
  pub affords : (n : ℕ) → aff (items_in asset from) n (Person me) ≤ aff (items_in asset o) n (Person me) + k

-- A signature keeps the share in each asset where the plan is funded and the channel goes on to count. Each outcome
-- with which the channel can end then is fair, or it didn't count before.
abbrev pub SignaturesKeepShares : Type 0
SignaturesKeepShares =
    (r : Rules) (me : List ℕ) (orders : ℕ → Order) (past : List Entry) (front : List Line)
    → (f : FixedParts) (state : StateParts) (signature : List ℕ) (adds : List FixedParts)
    → IsOwn r front f → IsPlan (plan orders front) → Funded r me orders past front
    → (possible r past (signing r past f state signature adds ∷ front) f ≡ [] → possible r past front f ≡ [])
    → ((o : List AssetOutcome) → In o (possible r past (signing r past f state signature adds ∷ front) f)
    → (possible r past front f ≡ []) ⊎ ((asset : ℕ) → IsFairAt r me orders past front f asset o))
    → (asset : ℕ) → share r me orders past front asset
    ≤ share r me orders past (signing r past f state signature adds ∷ front) asset

-- One by which k of an asset is paid lowers the share by at most that, whether the plan is funded or not.
abbrev pub PaymentsLowerSharesBy : Type 0
PaymentsLowerSharesBy =
    (r : Rules) (me : List ℕ) (orders : ℕ → Order) (past : List Entry) (front : List Line)
    → (f : FixedParts) (state : StateParts) (signature : List ℕ) (adds : List FixedParts)
    → IsOwn r front f → IsPlan (plan orders front) → is_among (r.named f) (all_bases (plan orders front)) ≡ false
    → (possible r past (signing r past f state signature adds ∷ front) f ≡ [] → possible r past front f ≡ [])
    → (asset k : ℕ)
    → ((o : List AssetOutcome) → In o (possible r past (signing r past f state signature adds ∷ front) f)
    → (possible r past front f ≡ []) ⊎ IsPaidAt r me past front f asset k o)
    → share r me orders past front asset
    ≤ share r me orders past (signing r past f state signature adds ∷ front) asset + k
