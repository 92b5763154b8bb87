use Rattle.std.proofs.Common.{take}
use Rattle.std.specs.List.{AllByRecursion}
use Rattle.network.specs.Members.{MemberOf}
use Rattle.play_report.specs.Shares.{HasFollowed}
use Rattle.play_report.proofs.sharing.have_followed.Given as goal

abbrev pub invariant-loop-member : goal.invariant-loop-member
invariant-loop-member g l = AllByRecursion (λ (m : MemberOf _). HasFollowed g.P.Party.ways g.P.Party.lost l.count m.node) (take l.member-index l.members)
