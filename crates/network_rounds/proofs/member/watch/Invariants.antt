use Rattle.std.proofs.Common.{◌≡◌, length}
use Rattle.network_rounds.specs.Members.{HaveFollowed}
use Rattle.network_rounds.proofs.Steps.{Looking}
use Rattle.network_rounds.proofs.member.watch.Given as goal

abbrev pub invariant-loop-place : goal.invariant-loop-place
invariant-loop-place g l = record {
  book : l.seat.book ≡ l.initial.seat.book;
  followed : HaveFollowed l.seat.seen l.member.watchers;
  watchers : length l.member.watchers ≡ length l.initial.member.watchers;
  done : Looking g.P.Party.ways l.place l.initial.member l.member l.initial.seat l.seat;
}
