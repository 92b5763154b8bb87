use Rattle.std.proofs.Common.{◌≡◌, ◌++◌, string_bytes}
use Rattle.std.specs.Prelude.{flat_map}
use Rattle.asset_holder.specs.Receipts.{assets_of}
use Rattle.report_text.specs.Text.{asset_line}
use Rattle.report_text.proofs.text.append_assets.Given as goal

abbrev pub invariant-loop-asset : goal.invariant-loop-asset
invariant-loop-asset l = string_bytes l.text ++ flat_map (asset_line l.balances) l.asset-iterator ≡ string_bytes l.fn.text ++ flat_map (asset_line l.balances) (assets_of l.balances)
