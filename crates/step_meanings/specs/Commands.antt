-- What the steps of a script command.
use Rattle.std.specs.Prelude.{ℕ, suc, zero, List, [], ◌∷◌, Option, Some, None}
use Rattle.network.specs.declared.command.Command.{Command}
use Rattle.step_meanings.specs.Meanings.{meaning, nameless}
use Rattle.step_meanings.specs.declared.effect.Effect.{Effect}
use Rattle.step_meanings.specs.declared.effect.Effect.TheVariants.{Tell}
use Rattle.step_meanings.specs.declared.names.Names.{Names}
use Rattle.script_steps.specs.declared.step.Step.{Step}

-- the command that nodes are given, if they are given one
abbrev pub command_in : Effect → Option Command
command_in (Tell numbers command) = Some command
command_in _ = None

-- The command of the step after so many of these, where names stand for this before them. A command names people and
-- channels alone, so states that are caught on the way need no name here.
abbrev pub command_behind : Names → List Step → ℕ → Option Command
command_behind n [] count = None
command_behind n (step ∷ rest) zero = command_in (meaning n step).effect
command_behind n (step ∷ rest) (suc count) = command_behind (meaning n step).names rest count

-- the command of the step of this number, which counts from 1
abbrev pub command_of : List Step → ℕ → Option Command
command_of steps zero = None
command_of steps (suc count) = command_behind nameless steps count
