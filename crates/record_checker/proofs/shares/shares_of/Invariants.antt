use Rattle.std.proofs.Common.{◌≡◌, take}
use Rattle.std.specs.Prelude.{map}
use Rattle.record_checker.specs.Seen.{share_by}
use Rattle.record_checker.proofs.shares.shares_of.Given as goal

abbrev pub invariant-loop-asset : goal.invariant-loop-asset
invariant-loop-asset l = l.all.items ≡ map (λ asset. (asset, share_by l.past l.plan l.known asset)) (take l.asset-index l.assets)
