-- Comparing bytes with a spelling that is never built: what remains of the bytes after each piece of it.
use Rattle.std.specs.Prelude.{ℕ, ◌==◌, Bool, true, false, List, [], ◌∷◌, length, Option, Some, None, if◌then◌else◌}
use Rattle.std.specs.Int.{w32, w64, to_be_bytes}
use Rattle.channel_values.specs.declared.value.Dest.{Dest}
use Rattle.channel_values.specs.declared.value.Item.{Item}
use Rattle.channel_values.specs.declared.value.Shape.{Shape}
use Rattle.channel_values.specs.declared.value.Shape.TheVariants.{Allocation, Guarantee}
use Rattle.channel_values.specs.declared.value.AssetOutcome.{AssetOutcome}
use Rattle.channel_values.specs.Spelling.{dest, count}

infixl 6 ◌⨟◌
abbrev pub ◌⨟◌ : Option (List ℕ) → (List ℕ → Option (List ℕ)) → Option (List ℕ)
None ⨟ f = None
(Some rest) ⨟ f = f rest

abbrev pub behind : List ℕ → List ℕ → Option (List ℕ)
behind [] bytes = Some bytes
behind (p ∷ ps) [] = None
behind (p ∷ ps) (b ∷ bs) = if b == p then behind ps bs else None

abbrev pub behind_item : Item → List ℕ → Option (List ℕ)
behind_item i bytes = behind (dest i.to) bytes ⨟ behind (to_be_bytes w64 i.amount)

abbrev pub behind_items : List Item → List ℕ → Option (List ℕ)
behind_items [] bytes = Some bytes
behind_items (i ∷ is) bytes = behind_item i bytes ⨟ behind_items is

abbrev pub behind_dests : List Dest → List ℕ → Option (List ℕ)
behind_dests [] bytes = Some bytes
behind_dests (d ∷ ds) bytes = behind (dest d) bytes ⨟ behind_dests ds

abbrev pub behind_list : List Dest → List ℕ → Option (List ℕ)
behind_list dests bytes = behind (count (length dests) ∷ []) bytes ⨟ behind_dests dests

abbrev pub behind_shape : Shape → List ℕ → Option (List ℕ)
behind_shape (Allocation items) bytes = behind (1 ∷ count (length items) ∷ []) bytes ⨟ behind_items items
behind_shape (Guarantee target dests) bytes = behind (2 ∷ target) bytes ⨟ behind_list dests

unfoldable pub behind_asset : AssetOutcome → List ℕ → Option (List ℕ)
behind_asset o bytes = behind (to_be_bytes w32 o.asset) bytes ⨟ behind_shape o.shape

abbrev pub behind_assets : List AssetOutcome → List ℕ → Option (List ℕ)
behind_assets [] bytes = Some bytes
behind_assets (o ∷ os) bytes = behind_asset o bytes ⨟ behind_assets os

abbrev pub behind_outcome : List AssetOutcome → List ℕ → Option (List ℕ)
behind_outcome os bytes = behind (count (length os) ∷ []) bytes ⨟ behind_assets os

-- nothing is left
abbrev pub is_end : Option (List ℕ) → Bool
is_end None = false
is_end (Some []) = true
is_end (Some (b ∷ bs)) = false
