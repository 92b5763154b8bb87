use Rattle.std.proofs.Common.{◌≡◌, ◌≤◌, ◌+◌, length, drop}
use Rattle.script_race.specs.Races.{RaceOf, Races}
use Rattle.script_play.specs.Play.{numbered}
use Rattle.script_race.specs.Driving.{race_of, IsSeated, Racing}
use Rattle.script_steps.specs.Bounds.{persons_of, signers_of}
use Rattle.script_race.proofs.replay.race.Given as goal

abbrev pub invariant-loop-step : goal.invariant-loop-step
invariant-loop-step g l =
    record {
      fresh : l.signers.items ≡ signers_of (drop l.step-index l.steps);
      number : l.number ≡ l.step-index;
      raced : (t : RaceOf g.row.P.Denot) → Races g.P.Party.ways (numbered (l.number + 1) (drop l.step-index l.steps)) (race_of (λ b. (goal.Actor-dyn g b).tells b.1) (λ b. (goal.Actor-dyn g b).told b.1) l.race) t
          → Races g.P.Party.ways (numbered 1 l.steps) (race_of (λ b. (goal.Actor-dyn g b).tells b.1) (λ b. (goal.Actor-dyn g b).told b.1) l.initial.race) t;
      seated : IsSeated l.race;
      racing : Racing (λ b. (goal.Actor-dyn g b).tells b.1) (λ b. (goal.Actor-dyn g b).told b.1) g.P.Party.ways g.P.Party.stands g.P.Party.lost l.race;
      few : length l.race.names.people + persons_of (drop l.step-index l.steps) ≤ 16;
    }
