use Rattle.std.proofs.Common.{◌≡◌, ◌-◌, [], length}
use Rattle.channel_values.specs.Flat.{assets_of}
use Rattle.channel_values.specs.Reading.{asset_at, many_at}
use Rattle.channel_values.proofs.flat.take_assets.Given as goal

abbrev pub invariant-assets : goal.invariant-assets
invariant-assets l = (length l.assets.items ≡ l.counter) × (many_at (asset_at l.whole) (assets_of l.assets.items) (l.count - l.counter) l.rest ≡ many_at (asset_at l.whole) [] l.count l.bytes)
