use Rattle.std.proofs.Common.{◌≡◌, take}
use Rattle.std.specs.Prelude.{flat_map}
use Rattle.network.specs.Members.{MemberOf}
use Rattle.play_report.specs.Shares.{known_shares}
use Rattle.play_report.proofs.sharing.shares_of.Given as goal

abbrev pub invariant-loop-member : goal.invariant-loop-member
invariant-loop-member g l = l.all.items ≡ flat_map (λ (m : MemberOf _). known_shares g.P.Party.ways g.P.ReportedNode.shares l.assets m.node) (take l.member-index l.members)
