use Rattle.std.proofs.Common.{◌≡◌, map, take}
use Rattle.network.specs.Members.{MemberOf}
use Rattle.play_report.specs.Shares.{known_ending}
use Rattle.play_report.proofs.endings.endings_of.Given as goal

abbrev pub invariant-loop-member : goal.invariant-loop-member
invariant-loop-member g l =
    l.all.items ≡ map (λ (m : MemberOf _). known_ending g.P.Party.ways g.P.ReportedNode.facts g.P.ReportedNode.shares l.assets m.node) (take l.member-index l.members)
