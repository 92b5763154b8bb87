-- What nodes keep that follow the commands of steps.
use Rattle.std.specs.Prelude.{◌≡◌, ℕ, List, Option, Some}
use Rattle.call_history.specs.declared.call.Call.{Call}
use Rattle.call_history.specs.declared.entry.Entry.{Entry}
use Rattle.channel_safety.specs.Journals.{In}
use Rattle.network.specs.Ways.{Ways}
use Rattle.network.specs.declared.command.Command.{Command}
use Rattle.network.specs.Members.{MemberOf}
use Rattle.network.specs.Worlds.{WorldOf}
use Rattle.network.specs.declared.happening.Happening.{Happening}
use Rattle.network.specs.declared.happening.Happening.TheVariants as happenings
use Rattle.lms_signatures.specs.Signing.{Signing}

-- Whatever comes to a node of these rules keeps this of it, where each command is the one of its step.
pub record FollowCommands {P : Type 0} (ways : Ways P) (commands : ℕ → Option Command) (follows : P → Type 0) : Type 0 where
  pub fresh : (number : ℕ) (signer : Signing) → follows (ways.fresh number signer)
  pub saw : (entries : List Entry) (p : P) → follows p → follows (ways.saw entries p)
  pub commanded : (step : ℕ) (command : Command) (p : P) → commands step ≡ Some command → follows p → follows (ways.commanded step command p)
  pub handled : (bytes : List ℕ) (p : P) → follows p → follows (ways.handled bytes p)
  pub ticked : (p : P) → follows p → follows (ways.ticked p)
  pub watched : (seen place : ℕ) (calls : List Call) (p : P) → follows p → follows (ways.watched seen place calls p)

-- a command that happens is the one of its step
abbrev pub IsOfStep : (ℕ → Option Command) → Happening → Type 0
IsOfStep commands (happenings.Command number step command) = commands step ≡ Some command
IsOfStep commands event = Unit {0}

-- so of each node of a world
abbrev pub AllFollow : {P : Type 0} → (P → Type 0) → WorldOf P → Type 0
AllFollow {P} follows w = (m : MemberOf P) → In m w.members → follows m.node
