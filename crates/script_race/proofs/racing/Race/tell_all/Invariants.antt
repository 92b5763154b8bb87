use Rattle.std.proofs.Common.{fold, take}
use Rattle.script_play.specs.Play.{told}
use Rattle.script_race.specs.Driving.{IsSeated, Turns}
use Rattle.script_race.proofs.racing.Race.tell_all.Given as goal

abbrev pub invariant-loop-number : goal.invariant-loop-number
invariant-loop-number g l =
    record {
      turns : Turns (λ b. (goal.Actor-dyn g b).tells b.1) (λ b. (goal.Actor-dyn g b).told b.1)
          (λ s. fold (told g.P.Party.ways l.step l.order) s (take l.number-index l.numbers)) l.initial.self l.self;
      seated : IsSeated l.self;
    }
