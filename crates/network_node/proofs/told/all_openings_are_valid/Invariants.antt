use Rattle.std.proofs.Common.{take}
use Rattle.std.specs.List.{AllByRecursion}
use Rattle.channel_values.specs.Parts.{IsFixed}
use Rattle.network.specs.declared.command.Command.{Command}
use Rattle.channel_node.specs.Openings.{opened_by}
use Rattle.network_node.proofs.told.all_openings_are_valid.Given as goal

abbrev pub invariant-loop-command : goal.invariant-loop-command
invariant-loop-command l = AllByRecursion (λ (c : Command). AllByRecursion IsFixed (opened_by c)) (take l.command-index l.commands)
