use Rattle.script_race.specs.Races.{RunsRounds}
use Rattle.script_race.specs.Driving.{race_of, IsSeated}
use Rattle.script_race.proofs.racing.Race.play_rounds.Given as goal

abbrev pub invariant-loop-round : goal.invariant-loop-round
invariant-loop-round g l =
    record {
      ran : RunsRounds g.P.Party.ways l.round (race_of (λ b. (goal.Actor-dyn g b).tells b.1) (λ b. (goal.Actor-dyn g b).told b.1) l.initial.self)
          (race_of (λ b. (goal.Actor-dyn g b).tells b.1) (λ b. (goal.Actor-dyn g b).told b.1) l.self);
      seated : IsSeated l.self;
    }
