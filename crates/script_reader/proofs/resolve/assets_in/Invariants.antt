use Rattle.std.proofs.Common.{◌≡◌, [], drop}
use Rattle.script_reader.specs.Resolved.{each, asset_in}
use Rattle.script_reader.proofs.resolve.assets_in.Given as goal

abbrev pub invariant-loop-one : goal.invariant-loop-one
invariant-loop-one l = each (asset_in l.context) l.assets.items (drop l.one-index l.written) ≡ each (asset_in l.context) [] l.written
