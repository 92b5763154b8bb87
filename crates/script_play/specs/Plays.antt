-- What every play keeps.
use Rattle.std.specs.Prelude.{ℕ, List, All, Option}
use Rattle.call_history.specs.declared.entry.Entry.{Entry}
use Rattle.network.specs.Ways.{Ways}
use Rattle.network.specs.declared.command.Command.{Command}
use Rattle.step_meanings.specs.Commands.{command_of}
use Rattle.script_play.specs.Play.{play}
use Rattle.script_steps.specs.Bounds.{Fits}
use Rattle.script_steps.specs.declared.step.Step.{Step}
use Rattle.network.specs.Commanded.{AllFollow}
use Rattle.network.specs.Standing.{IsWorld, AreHonest}

-- the world of every play of steps within their limits has a legal history, and its journals are honest
pub record PlaysAreKept {P : Type 0} (ways : Ways P) (stands : List Entry → P → Type 0) : Type 0 where
  pub worlds : (steps : List Step) → All Fits steps → IsWorld stands (play ways steps).world
  pub honest : (steps : List Step) → All Fits steps → AreHonest ways (play ways steps).world

-- of each node of a play this holds, by the commands of its steps
abbrev pub PlaysFollowCommands : {P : Type 0} → Ways P → ((ℕ → Option Command) → P → Type 0) → Type 0
PlaysFollowCommands ways follows = (steps : List Step) → All Fits steps → AllFollow (follows (command_of steps)) (play ways steps).world
