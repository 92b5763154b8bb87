use Rattle.std.proofs.Common.{◌≡◌, ◌-◌, [], length}
use Rattle.channel_values.specs.Outcomes.{total}
use Rattle.channel_values.specs.Reading.{item_at, many_at}
use Rattle.channel_values.proofs.flat.take_items.Given as goal

abbrev pub invariant-items : goal.invariant-items
invariant-items l = (length l.items.items ≡ l.counter) × (l.sum ≡ total l.items.items) × (many_at (item_at l.whole) l.items.items (l.count - l.counter) l.rest ≡ many_at (item_at l.whole) [] l.count l.bytes)
