-- What the books of an asset are read from, the reaches that are kept of a plan's channels, and the choices that are
-- tried.
use Rattle.std.specs.Prelude.{ℕ, ◌==◌, Bool, true, false, not, ◌&&◌, List, [], ◌∷◌, Option, Some, None, if◌then◌else◌}
use Rattle.std.specs.Cmp.Lexicographic.{pointwise}
use Rattle.channel_values.specs.Outcomes.{is_same}
use Rattle.channel_values.specs.declared.value.AssetOutcome.{AssetOutcome}
use Rattle.channel_values.specs.declared.value.Dest.TheVariants.{Channel}
use Rattle.channel_values.specs.declared.value.Item.{Item}
use Rattle.channel_values.specs.Amounts.{amt}
use Rattle.call_history.specs.declared.view.WorldView.{WorldView}
use Rattle.funding_plans.specs.Shapes.{items_in, list_in}
use Rattle.funding_plans.specs.declared.plan.Plan.{Plan}
use Rattle.funding_plans.specs.declared.plan.Virtual.{Virtual}
use Rattle.share_laws.specs.Books.{Books, Counting, books_under}
use Rattle.share_laws.specs.Funded.{are_funded, at_each}
use Rattle.share_laws.specs.Share.{least_over, worth_under}
use Rattle.share_laws.specs.Worth.{Table, no_reach, with_reach, guarantor, second_amt, left_between}
use Rattle.plan_share.specs.Seen.{held_seen}

-- of an asset, by this view, where these channels count and the proposals of these are taken
pub record Pages : Type 0 where
  pub view : WorldView
  pub counting : List Counting
  pub asset : ℕ
  pub taken : List (List ℕ)

abbrev pub taking : List (List ℕ) → Pages → Pages
taking taken p = record p { taken = taken }

abbrev pub books_of : Pages → Books
books_of p = books_under (held_seen p.view p.asset) p.counting p.asset p.taken

abbrev pub or_empty : Option (List AssetOutcome) → List AssetOutcome
or_empty None = []
or_empty (Some outcome) = outcome

-- the reaches of these rows, the newest first
abbrev pub reaches : List (List ℕ × ℕ) → Table
reaches [] = no_reach
reaches (row ∷ rows) = with_reach (reaches rows) row.0 row.1

-- what a joint channel leaves its intermediary, where all of it is still owed
abbrev pub left_of : Books → Table → Virtual → ℕ
left_of b reach v =
    left_between true true true (amt (b.items v.joint) (Channel v.channel))
    (second_amt (b.items v.joint) (b.list v.guarantor_a)) (second_amt (b.items v.joint) (b.list v.guarantor_b))
    (guarantor b reach v.ledger_a v.guarantor_a v.total) (guarantor b reach v.ledger_b v.guarantor_b v.total)

-- ---- choices

abbrev pub is_same_item : Item → Item → Bool
is_same_item x y = is_same x.to y.to && (x.amount == y.amount)

-- in an asset two outcomes have the same items, and the same list of a guarantee
abbrev pub is_same_in : ℕ → List AssetOutcome → List AssetOutcome → Bool
is_same_in asset o p =
    pointwise is_same_item (items_in asset o) (items_in asset p) && pointwise is_same (list_in asset o) (list_in asset p)

abbrev pub differs : ℕ → List AssetOutcome → Option (List AssetOutcome) → Bool
differs asset outcome None = false
differs asset outcome (Some proposal) = not (is_same_in asset outcome proposal)

-- the channels that can end with two outcomes that differ in an asset
abbrev pub differing : ℕ → List Counting → List (List ℕ)
differing asset [] = []
differing asset (x ∷ xs) =
    if differs asset x.outcome x.proposal then x.channel ∷ differing asset xs else differing asset xs

-- the worth of a plan where these proposals are taken, and the least over the choices of these channels too
abbrev pub worth_at : Plan → Pages → List (List ℕ) → ℕ
worth_at own p taken = worth_under own.me own.parts (held_seen p.view p.asset) p.counting p.asset taken

abbrev pub least_among : Plan → Pages → List Counting → ℕ
least_among own p left = least_over (differing p.asset left) (worth_at own p) p.taken

-- whether it is funded there, and at each of those choices
abbrev pub funded_at : Plan → Pages → List (List ℕ) → Bool
funded_at own p taken =
    are_funded (books_under (held_seen p.view p.asset) p.counting p.asset taken) own.me own.parts no_reach

abbrev pub funded_among : Plan → Pages → List Counting → Bool
funded_among own p left = at_each (differing p.asset left) (funded_at own p) p.taken
