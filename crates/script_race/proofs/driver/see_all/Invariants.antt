use Rattle.std.proofs.Common.{◌≡◌, take, fold}
use Rattle.script_race.specs.Driving.{world_of, HasLookedOn}
use Rattle.script_play.specs.Rounds.{seen_by}
use Rattle.script_race.proofs.driver.see_all.Given as goal

abbrev pub invariant-loop-person : goal.invariant-loop-person
invariant-loop-person g l =
    record {
      looked : HasLookedOn l.initial.seat l.seat;
      seen : world_of l.initial.seat.seen l.nodes.items ≡ fold (seen_by g.P.Party.ways) (world_of l.initial.seat.seen l.initial.nodes.items) (take l.person-index l.people);
    }
