use Rattle.std.proofs.Common.{◌≡◌, ◌≤◌, ◌<◌, ◌+◌, ◌^◌, length, drop, fold}
use Rattle.script_steps.specs.Bounds.{persons_of, signers_of}
use Rattle.script_play.specs.Growth.{weight_of}
use Rattle.script_play.specs.Play.{numbered, played, play_steps}
use Rattle.script_play.proofs.replay.play.Given as goal

abbrev pub invariant-loop-step : goal.invariant-loop-step
invariant-loop-step g l =
    record {
      fresh : l.signers.items ≡ signers_of (drop l.step-index l.steps);
      number : l.number ≡ l.step-index;
      played : fold (played g.P.Party.ways) l.scene (numbered (l.number + 1) (drop l.step-index l.steps)) ≡ play_steps g.P.Party.ways l.steps;
      room : length l.scene.world.history + (weight_of (drop l.step-index l.steps) + 32768) < 2 ^ 32;
      few : length l.scene.names.people + persons_of (drop l.step-index l.steps) ≤ 16;
    }
