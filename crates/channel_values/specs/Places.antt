-- Items and destinations by their places; past the end there is nothing.
use Rattle.std.specs.Prelude.{ℕ, List, [], slice_index_or}
use Rattle.std.specs.List.{position_or_len}
use Rattle.channel_values.specs.Outcomes.{is_same}
use Rattle.channel_values.specs.declared.value.Dest.{Dest}
use Rattle.channel_values.specs.declared.value.Dest.TheVariants.{Person}
use Rattle.channel_values.specs.declared.value.Item.{Item}

abbrev pub no_dest : Dest
no_dest = Person []

abbrev pub no_item : Item
no_item = record { to = no_dest; amount = 0 }

abbrev pub amount_at : List Item → ℕ → ℕ
amount_at items place = (slice_index_or items place no_item).amount

abbrev pub dest_in : List Dest → ℕ → Dest
dest_in list position = slice_index_or list position no_dest

-- the place of a destination's item, or past the end where it has none
abbrev pub place_of : List Item → Dest → ℕ
place_of items to = position_or_len (λ item. is_same item.to to) items
