use Rattle.std.proofs.Common.{◌≡◌, ◌-◌, []}
use Rattle.channel_values.specs.Reading.{many_at}
use Rattle.channel_values.proofs.many.take_many.Given as goal

abbrev pub invariant-values : goal.invariant-values
invariant-values g l = many_at (g.T.Take.at l.whole) l.values.items (l.count - l.counter) l.rest ≡ many_at (g.T.Take.at l.whole) [] l.count l.bytes
