use Rattle.std.proofs.Common.{◌≡◌, ◌++◌, ◌∷◌, [], ap, arith}
use Rattle.std.proofs.lemmas.Result.{err_from_is_err_and}
use Rattle.std.proofs.lemmas.List.{map_push}
use Rattle.channel_values.specs.Flat.{asset_of, assets_of}
use Rattle.channel_values.specs.Reading.{asset_at, many_at}
use Rattle.channel_values.proofs.Loop.{goes_on, stops, is_done}
use Rattle.channel_values.proofs.flat.take_assets.Goals as goal

pub returns-in_err-asset : goal.returns-in_err-asset
returns-in_err-asset c =
    let p = err_from_is_err_and c.from_residual.result c.from_residual.ensures.1 in
    rw (p.1, p.2) (stops (asset_at c.args.whole) c.in_err-asset.field-0.0 (assets_of c.assets.assets.items) c.args.count c.assets.counter c.assets.rest.now (assets_of c.as_slice.result.now) (many_at (asset_at c.args.whole) [] c.args.count c.args.bytes.now) (ap assets_of c.as_slice.ensures.value) c.assets-test.true c.in_err-asset.ensures c.assets.invariant.1)

pub assets-preserved : goal.assets-preserved
assets-preserved c =
    let more : assets_of c.push.new.self.items ≡ (assets_of c.assets.assets.items) ++ (asset_of c.in_ok-asset.asset) ∷ [] = rw c.push.ensures.items (map_push _ c.assets.assets.items c.in_ok-asset.asset) in
    ((omega (arith, c.push.ensures.len, c.assets.invariant.0)), rw more (goes_on (asset_at c.args.whole) (assets_of c.assets.assets.items) c.args.count c.assets.counter c.assets.rest.now (asset_of c.in_ok-asset.asset) c.in_ok-asset.after.now (assets_of c.as_slice.result.now) (many_at (asset_at c.args.whole) [] c.args.count c.args.bytes.now) (ap assets_of c.as_slice.ensures.value) c.assets-test.true c.in_ok-asset.ensures c.assets.invariant.1))

pub returns : goal.returns
returns c = is_done (asset_at c.args.whole) (assets_of c.assets.assets.items) c.args.count c.assets.counter c.assets.rest.now (many_at (asset_at c.args.whole) [] c.args.count c.args.bytes.now) c.assets-test.false c.assets.invariant.1
