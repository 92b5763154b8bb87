use Rattle.std.proofs.Common.{◌≡◌, ◌++◌, take}
use Rattle.play_report.specs.Shares.{known_shares}
use Rattle.play_report.proofs.sharing.add_shares.Given as goal

abbrev pub invariant-loop-asset : goal.invariant-loop-asset
invariant-loop-asset g l = l.all.items ≡ l.initial.all.items ++ known_shares g.P.Party.ways g.P.ReportedNode.shares (take l.asset-index l.assets) l.node
