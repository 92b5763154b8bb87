-- The first command to exit that a node accepted.
use Rattle.std.specs.Prelude.{Bool, true, false, ◌&&◌, List, [], ◌∷◌, Option, Some, None, if◌then◌else◌}
use Rattle.std.specs.Option.{option_or}
use Rattle.channel_safety.specs.Journals.{is_followed}
use Rattle.network.specs.declared.command.Command.{Command}
use Rattle.network.specs.declared.command.Command.TheVariants.{Exit}
use Rattle.channel_node.specs.Places.{Told}

abbrev pub leaves : Command → Bool
leaves Exit = true
leaves command = false

abbrev pub leaves_by : Option Command → Bool
leaves_by None = false
leaves_by (Some command) = leaves command

-- an accepted command to exit
abbrev pub is_exit : Told → Bool
is_exit x = is_followed x.deed && leaves_by x.command

-- the events up to the first of these and with it; the newest stand first
abbrev pub until_exit : List Told → Option (List Told)
until_exit [] = None
until_exit (x ∷ front) = option_or (until_exit front) (if is_exit x then Some (x ∷ front) else None)
