use Rattle.std.proofs.Common.{◌≡◌, take}
use Rattle.play_report.specs.Shares.{known_amounts}
use Rattle.play_report.proofs.endings.amounts_of.Given as goal

abbrev pub invariant-loop-asset : goal.invariant-loop-asset
invariant-loop-asset g l = l.all.items ≡ known_amounts g.P.ReportedNode.shares (take l.asset-index l.assets) l.node
