use Rattle.std.proofs.Common.{◌≡◌, replicate}
use Rattle.network.specs.Ways.{unlooking}
use Rattle.network.proofs.member.Member.make.Given as goal

abbrev pub invariant-loop-place : goal.invariant-loop-place
invariant-loop-place g l = l.lookouts.items ≡ replicate l.place unlooking
