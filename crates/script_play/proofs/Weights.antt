-- The steps of a script make no more entries than the history has room for.
use Rattle.std.proofs.Common.{◌≡◌, ℕ, ◌+◌, ◌*◌, ◌≤◌, ◌<◌, ◌^◌, List, [], ◌∷◌, length, arith}
use Rattle.std.proofs.lemmas.List.Sums.{sum_by-cons}
use Rattle.script_steps.specs.Bounds.{rounds, rounds_of}
use Rattle.script_play.specs.Growth.{weight, weight_of}
use Rattle.script_steps.specs.declared.step.Step.{Step}
use Rattle.script_steps.specs.declared.step.Step.TheVariants as steps
use Rattle.script_play.specs.Rounds.{most_in_round}

light : (step : Step) → weight step ≤ 1 + rounds step * most_in_round
light (steps.Rounds count) = omega (arith)
light step = omega (arith)

all_light : (steps : List Step) → weight_of steps ≤ length steps + rounds_of steps * most_in_round
all_light [] = omega (arith)
all_light (step ∷ steps) = omega (arith, light step, all_light steps, sum_by-cons weight step steps, sum_by-cons rounds step steps)

pub has_room : (steps : List Step) → length steps ≤ 4096 → rounds_of steps ≤ 4096 → weight_of steps + 32768 < 2 ^ 32
has_room steps short few = omega (arith, all_light steps, short, few)
