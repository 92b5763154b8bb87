use Rattle.std.proofs.Common.{◌≡◌, ◌++◌, take}
use Rattle.play_report.specs.Shares.{exits_for}
use Rattle.play_report.proofs.sharing.add_amounts.Given as goal

abbrev pub invariant-loop-asset : goal.invariant-loop-asset
invariant-loop-asset l = l.all.items ≡ l.fn.all.items ++ exits_for l.person (take l.asset-index l.assets) l.amounts
