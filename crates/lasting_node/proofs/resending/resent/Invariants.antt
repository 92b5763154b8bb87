use Rattle.std.proofs.Common.{◌≡◌, take}
use Rattle.std.specs.Prelude.{flat_map}
use Rattle.channel_values.specs.Digests.{name_of_person}
use Rattle.channel_node.specs.Openings.{opened_by}
use Rattle.node_guarantees.specs.Ways.{ways}
use Rattle.lasting_node.specs.Queries.{last_letters}
use Rattle.lasting_node.proofs.resending.resent.Given as goal

abbrev pub invariant-loop-command : goal.invariant-loop-command
invariant-loop-command l =
    l.all.items ≡ flat_map (λ f. last_letters (name_of_person (ways.key l.node)) f (ways.journal l.node))
    (flat_map opened_by (take l.command-index l.node.node.commands))
