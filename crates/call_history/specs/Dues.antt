-- What a transfer and a claim pay.
use Rattle.std.specs.Prelude.{ℕ, ◌-◌, ◌==◌, not, nat_le, List, [], ◌∷◌, length, slice_index_or, if◌then◌else◌, Option, Some, None, Result, Ok, Err}
use Rattle.std.specs.Str.{bytes_eq}
use Rattle.channel_values.specs.Amounts.{due}
pub use Rattle.channel_values.specs.Places.{no_dest, no_item, amount_at, dest_in, place_of}
use Rattle.call_history.specs.Refusing.{refuse_if}
use Rattle.channel_values.specs.declared.value.Dest.{Dest}
use Rattle.channel_values.specs.declared.value.Item.{Item}
use Rattle.channel_values.specs.declared.value.Shape.{Shape}
use Rattle.channel_values.specs.declared.value.Shape.TheVariants.{Allocation, Guarantee}
use Rattle.channel_values.specs.declared.value.AssetOutcome.{AssetOutcome}
use Rattle.call_history.specs.declared.funds.Due.{Due}
use Rattle.call_history.specs.declared.refusal.Refusal.{Refusal}
use Rattle.call_history.specs.declared.refusal.Refusal.TheVariants.{NoAsset, WrongKind, WrongTarget, NotListed, NoItem, NothingDue}

-- the rest of each item, and of each destination of a guarantee's list in its target; `paid` is what was paid of each
-- place
abbrev pub rest_at : (ℕ → ℕ) → List Item → ℕ → ℕ
rest_at paid items place = amount_at items place - paid place

abbrev pub rest_of : (ℕ → ℕ) → List Item → List Dest → ℕ → ℕ
rest_of paid items list position = rest_at paid items (place_of items (dest_in list position))

-- what an outcome has for an asset
abbrev pub shape_in : List AssetOutcome → ℕ → Option Shape
shape_in [] asset = None
shape_in (o ∷ os) asset = if o.asset == asset then Some o.shape else shape_in os asset

abbrev pub pay : Dest → ℕ → ℕ → ℕ → Result Due Refusal
pay to place held amount =
    refuse_if (amount == 0) (NothingDue held) (Ok (record { to = to; place = place; amount = amount }))

-- what a transfer of an asset's shape pays
abbrev pub transfer_of : (ℕ → ℕ) → ℕ → Option Shape → ℕ → Result Due Refusal
transfer_of paid held None index = Err NoAsset
transfer_of paid held (Some (Guarantee target list)) index = Err WrongKind
transfer_of paid held (Some (Allocation items)) index =
    refuse_if (nat_le (length items) index) NoItem (
    pay (slice_index_or items index no_item).to index held (due (rest_at paid items) index held))

-- what a claim by a guarantee on its target's items pays
abbrev pub claim_of_items : (ℕ → ℕ) → ℕ → List Dest → List Item → ℕ → Result Due Refusal
claim_of_items paid held list items position =
    refuse_if (nat_le (length list) position) NotListed (
    refuse_if (nat_le (length items) (place_of items (dest_in list position))) NoItem (
    pay (dest_in list position) (place_of items (dest_in list position)) held
    (due (rest_of paid items list) position held)))

-- what a claim on the shapes of the guarantor and of its target pays
abbrev pub claim_of : (ℕ → ℕ) → ℕ → Option Shape → List ℕ → Option Shape → ℕ → Result Due Refusal
claim_of paid held None target of position = Err NoAsset
claim_of paid held (Some shape) target None position = Err NoAsset
claim_of paid held (Some (Allocation items)) target (Some shape) position = Err WrongKind
claim_of paid held (Some (Guarantee named list)) target (Some (Guarantee other dests)) position = Err WrongKind
claim_of paid held (Some (Guarantee named list)) target (Some (Allocation items)) position =
    refuse_if (not (bytes_eq named target)) WrongTarget (claim_of_items paid held list items position)

abbrev pub transfer_due : (ℕ → ℕ) → ℕ → List AssetOutcome → ℕ → ℕ → Result Due Refusal
transfer_due paid held outcome asset index = transfer_of paid held (shape_in outcome asset) index

abbrev pub claim_due : (ℕ → ℕ) → ℕ → List AssetOutcome → List ℕ → List AssetOutcome → ℕ → ℕ → Result Due Refusal
claim_due paid held promise target outcome asset position =
    claim_of paid held (shape_in promise asset) target (shape_in outcome asset) position
