-- What a node says of its commands.
use Rattle.std.specs.Prelude.{◌≡◌, ℕ, Option, List}
use Rattle.network.specs.declared.command.Command.{Command}
use Rattle.channel_node.specs.Nodes.{told_of}
use Rattle.channel_node.specs.Places.{Told, told_by}
use Rattle.node_guarantees.specs.Ways.{Numbered, ways}
use Rattle.network.specs.Commanded.{FollowCommands}

-- its events with their commands, the newest first
abbrev pub told : Numbered → List Told
told p = told_of p.node

-- each of them with the command of its step
abbrev pub IsToldBy : (ℕ → Option Command) → Numbered → Type 0
IsToldBy commands p = told p ≡ told_by commands p.node.journal

-- whatever comes to a node, its events stand with the commands of their steps
abbrev pub NodesFollowCommands : Type 0
NodesFollowCommands = (commands : ℕ → Option Command) → FollowCommands ways commands (IsToldBy commands)
