use Rattle.std.proofs.Common.{◌≡◌, ◌-◌, [], length}
use Rattle.channel_values.specs.Reading.{listed_at, many_at}
use Rattle.channel_values.proofs.flat.take_dests.Given as goal

abbrev pub invariant-dests : goal.invariant-dests
invariant-dests l = (length l.dests.items ≡ l.counter) × (many_at (listed_at l.whole) l.dests.items (l.count - l.counter) l.rest ≡ many_at (listed_at l.whole) [] l.count l.bytes)
