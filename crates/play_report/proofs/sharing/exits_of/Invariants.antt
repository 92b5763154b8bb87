use Rattle.std.proofs.Common.{◌≡◌, take}
use Rattle.std.specs.Prelude.{flat_map}
use Rattle.network.specs.Members.{MemberOf}
use Rattle.play_report.specs.Shares.{known_exits}
use Rattle.play_report.proofs.sharing.exits_of.Given as goal

abbrev pub invariant-loop-member : goal.invariant-loop-member
invariant-loop-member g l = l.all.items ≡ flat_map (λ (m : MemberOf _). known_exits g.P.Party.ways g.P.ReportedNode.exits l.assets m.node) (take l.member-index l.members)
