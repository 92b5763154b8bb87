use Rattle.std.proofs.Common.{◌≡◌, take, fold}
use Rattle.network_rounds.specs.Members.{heard}
use Rattle.network_rounds.proofs.member.hear_all.Given as goal

abbrev pub invariant-loop-letter : goal.invariant-loop-letter
invariant-loop-letter g l = record {
  heard : l.member ≡ fold (heard g.P.Party.ways l.who) l.initial.member (take l.letter-index l.post);
}
