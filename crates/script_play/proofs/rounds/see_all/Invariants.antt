use Rattle.std.proofs.Common.{◌≡◌, length, take, fold}
use Rattle.script_play.specs.Rounds.{seen_by}
use Rattle.script_play.proofs.rounds.see_all.Given as goal

abbrev pub invariant-loop-person : goal.invariant-loop-person
invariant-loop-person g l =
    record {
      seen : l.world ≡ fold (seen_by g.P.Party.ways) l.initial.world (take l.person-index l.people);
      same : length l.world.history ≡ length l.initial.world.history;
    }
