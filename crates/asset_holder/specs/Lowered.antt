-- Items of which one is lowered.
use Rattle.std.specs.Prelude.{ℕ, ◌-◌, List, slice_set, slice_index_or}
use Rattle.channel_values.specs.declared.value.Item.{Item}
use Rattle.channel_values.specs.Places.{no_item, amount_at}

abbrev pub lowered : List Item → ℕ → ℕ → List Item
lowered items index amount =
    slice_set items index
    (record { to = (slice_index_or items index no_item).to; amount = amount_at items index - amount })
