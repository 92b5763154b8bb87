-- Bytes that end after the pieces of a spelling are that spelling.
use Rattle.std.proofs.Common.{◌≡◌, refl, ℕ, Bool, true, false, List, [], ◌∷◌, ◌++◌, Option, Some, None, ◌&&◌, ◌∙◌, ap, sym, append_assoc, append-nil}
use Rattle.std.specs.Prelude.{◌==◌, if◌then◌else◌, length}
use Rattle.std.specs.List.{flat_map}
use Rattle.std.specs.Str.{bytes_eq}
use Rattle.std.specs.Int.{w32, w64, to_be_bytes}
use Rattle.channel_values.specs.declared.value.Dest.{Dest}
use Rattle.channel_values.specs.declared.value.Item.{Item}
use Rattle.channel_values.specs.declared.value.Shape.{Shape}
use Rattle.channel_values.specs.declared.value.Shape.TheVariants.{Allocation, Guarantee}
use Rattle.channel_values.specs.declared.value.AssetOutcome.{AssetOutcome}
use Rattle.channel_values.specs.Spelling.{dest, item, count, shape, asset_outcome, outcome}
use Rattle.std.proofs.lemmas.List.{length-map}
use Rattle.funding_plans.specs.declared.child.Child.{Child}
use Rattle.funding_plans.specs.Shapes.{items_in}
use Rattle.funding_plans.specs.Outcomes.{changed, with_items_at, changed_items}
use Rattle.funding_plans.specs.Behind.{◌⨟◌, behind, behind_item, behind_items, behind_dests, behind_list, behind_shape, behind_asset, behind_assets, behind_outcome, is_end}

abbrev rest_is : Option (List ℕ) → List ℕ → Bool
rest_is None tail = false
rest_is (Some r) tail = bytes_eq r tail

-- what is left after a piece is the tail exactly where the bytes are the piece and the tail
abbrev Spells : (List ℕ → Option (List ℕ)) → List ℕ → Type 0
Spells f piece = (bytes tail : List ℕ) → rest_is (f bytes) tail ≡ bytes_eq bytes (piece ++ tail)

pick : (t : Bool) (r : Option (List ℕ)) (tail : List ℕ) (other : Bool) → rest_is r tail ≡ other → rest_is (if t then r else None) tail ≡ (t && other)
pick true r tail other h = h
pick false r tail other h = refl

piece_spells : (p : List ℕ) → Spells (behind p) p
piece_spells [] bytes tail = refl
piece_spells (p ∷ ps) [] tail = refl
piece_spells (p ∷ ps) (b ∷ bs) tail = pick (b == p) (behind ps bs) tail (bytes_eq bs (ps ++ tail)) (piece_spells ps bs tail)

after : (r : Option (List ℕ)) (g : List ℕ → Option (List ℕ)) (q : List ℕ) → Spells g q → (tail : List ℕ) → rest_is (r ⨟ g) tail ≡ rest_is r (q ++ tail)
after None g q h tail = refl
after (Some r) g q h tail = h r tail

both_spell : (f g : List ℕ → Option (List ℕ)) (p q : List ℕ) → Spells f p → Spells g q → Spells (λ bytes. f bytes ⨟ g) (p ++ q)
both_spell f g p q hf hg bytes tail =
    after (f bytes) g q hg tail ∙ hf bytes (q ++ tail) ∙ ap (λ x. bytes_eq bytes x) (sym (append_assoc p q tail))

item_spells : (i : Item) → Spells (behind_item i) (item i)
item_spells i = both_spell (behind (dest i.to)) (behind (to_be_bytes w64 i.amount)) (dest i.to) (to_be_bytes w64 i.amount) (piece_spells (dest i.to)) (piece_spells (to_be_bytes w64 i.amount))

items_spell : (is : List Item) → Spells (behind_items is) (flat_map item is)
items_spell [] bytes tail = refl
items_spell (i ∷ is) bytes tail = both_spell (behind_item i) (behind_items is) (item i) (flat_map item is) (item_spells i) (items_spell is) bytes tail

dests_spell : (ds : List Dest) → Spells (behind_dests ds) (flat_map dest ds)
dests_spell [] bytes tail = refl
dests_spell (d ∷ ds) bytes tail = both_spell (behind (dest d)) (behind_dests ds) (dest d) (flat_map dest ds) (piece_spells (dest d)) (dests_spell ds) bytes tail

list_spells : (ds : List Dest) → Spells (behind_list ds) (count (length ds) ∷ flat_map dest ds)
list_spells ds = both_spell (behind (count (length ds) ∷ [])) (behind_dests ds) (count (length ds) ∷ []) (flat_map dest ds) (piece_spells (count (length ds) ∷ [])) (dests_spell ds)

shape_spells : (s : Shape) → Spells (behind_shape s) (shape s)
shape_spells (Allocation items) = both_spell (behind (1 ∷ count (length items) ∷ [])) (behind_items items) (1 ∷ count (length items) ∷ []) (flat_map item items) (piece_spells (1 ∷ count (length items) ∷ [])) (items_spell items)
shape_spells (Guarantee target dests) = both_spell (behind (2 ∷ target)) (behind_list dests) (2 ∷ target) (count (length dests) ∷ flat_map dest dests) (piece_spells (2 ∷ target)) (list_spells dests)

asset_spells : (o : AssetOutcome) → Spells (behind_asset o) (asset_outcome o)
unfolding behind_asset
asset_spells o = both_spell (behind (to_be_bytes w32 o.asset)) (behind_shape o.shape) (to_be_bytes w32 o.asset) (shape o.shape) (piece_spells (to_be_bytes w32 o.asset)) (shape_spells o.shape)

assets_spell : (os : List AssetOutcome) → Spells (behind_assets os) (flat_map asset_outcome os)
assets_spell [] bytes tail = refl
assets_spell (o ∷ os) bytes tail = both_spell (behind_asset o) (behind_assets os) (asset_outcome o) (flat_map asset_outcome os) (asset_spells o) (assets_spell os) bytes tail

ends : (r : Option (List ℕ)) → is_end r ≡ rest_is r []
ends None = refl
ends (Some []) = refl
ends (Some (b ∷ bs)) = refl

outcome_spells : (os : List AssetOutcome) → Spells (behind_outcome os) (count (length os) ∷ flat_map asset_outcome os)
outcome_spells os = both_spell (behind (count (length os) ∷ [])) (behind_assets os) (count (length os) ∷ []) (flat_map asset_outcome os) (piece_spells (count (length os) ∷ [])) (assets_spell os)

-- nothing is left after an outcome exactly where the bytes are its spelling
pub outcome_ends : (os : List AssetOutcome) (bytes : List ℕ) → is_end (behind_outcome os bytes) ≡ bytes_eq bytes (outcome os)
unfolding outcome
outcome_ends os bytes =
    ends (behind_outcome os bytes) ∙ outcome_spells os bytes [] ∙ ap (λ x. bytes_eq bytes x) (append-nil (count (length os) ∷ flat_map asset_outcome os))

pub length_changed : (is_up : Bool) (k : Child) (os : List AssetOutcome) → length (changed is_up k os) ≡ length os
length_changed is_up k os = length-map os (with_items_at k.asset (changed_items is_up k (items_in k.asset os)))
