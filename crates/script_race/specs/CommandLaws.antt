-- What the commands of a race open.
use Rattle.std.specs.Prelude.{◌≡◌, ℕ, true, List, All, Some}
use Rattle.channel_values.specs.Parts.{FixedParts}
use Rattle.channel_safety.specs.Journals.{In}
use Rattle.network.specs.declared.command.Command.{Command}
use Rattle.channel_node.specs.Openings.{opened_by}
use Rattle.step_meanings.specs.Commands.{command_of}
use Rattle.script_steps.specs.Bounds.{Fits}
use Rattle.script_steps.specs.Conditions.{runs_in_race}
use Rattle.script_steps.specs.declared.step.Step.{Step}

-- its duration is not 1
abbrev pub Lasts : FixedParts → Type 0
Lasts f = f.duration ≡ 1 → ⊥

-- the channels that a step's command opens last
abbrev pub CommandsOpenLasting : Type 0
CommandsOpenLasting =
    (steps : List Step) → All Fits steps → All (λ step. runs_in_race step ≡ true) steps
    → (step : ℕ) (command : Command) → command_of steps step ≡ Some command → (f : FixedParts) → In f (opened_by command) → Lasts f
