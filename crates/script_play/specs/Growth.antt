-- How much the history grows by each step.
use Rattle.std.specs.Prelude.{ℕ, ◌*◌, List, sum_by}
use Rattle.network.specs.Histories.{IsFresh}
use Rattle.step_meanings.specs.declared.effect.Effect.{Effect}
use Rattle.step_meanings.specs.declared.effect.Effect.TheVariants as effects
use Rattle.script_steps.specs.declared.step.Step.{Step}
use Rattle.script_steps.specs.declared.step.Step.TheVariants as steps
use Rattle.script_play.specs.Rounds.{most_in_round}

-- a node joins with a signer that has not signed
abbrev pub FitsEffect : Effect → Type 0
FitsEffect (effects.Join number signer watchers) = IsFresh signer
FitsEffect effect = Unit {0}

-- ---- entries

-- at most so many entries are made where this is done
abbrev pub effect_weight : Effect → ℕ
effect_weight (effects.Enter op) = 1
effect_weight (effects.Rounds count) = count * most_in_round
effect_weight effect = 0

-- at most so many entries are made by a step
abbrev pub weight : Step → ℕ
weight (steps.Rounds count) = count * most_in_round
weight step = 1

abbrev pub weight_of : List Step → ℕ
weight_of steps = sum_by weight steps
