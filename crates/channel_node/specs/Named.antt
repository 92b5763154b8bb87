-- The fixed parts that the commands of a node's journal name.
use Rattle.std.specs.Prelude.{List, [], flat_map, Option, Some, None, if◌then◌else◌}
use Rattle.channel_values.specs.Parts.{FixedParts}
use Rattle.channel_safety.specs.Journals.{is_followed}
use Rattle.network.specs.declared.command.Command.{Command}
use Rattle.channel_node.specs.Openings.{opened_by}
use Rattle.channel_node.specs.Places.{Told}

abbrev pub named_by : Option Command → List FixedParts
named_by None = []
named_by (Some command) = opened_by command

-- of the commands that were accepted
abbrev pub named_in : List Told → List FixedParts
named_in journal = flat_map (λ x. if is_followed x.deed then named_by x.command else []) journal
