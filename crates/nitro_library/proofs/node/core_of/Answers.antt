use Rattle.std.proofs.Common.{false, refl}
use Rattle.lasting_node.specs.Machines.{node_ways, unplayed}
use Rattle.nitro_library.specs.Nodes.{ready_line}
use Rattle.nitro_library.proofs.Recovering.{begins}
use Rattle.nitro_library.proofs.node.core_of.Goals as goal

pub returns-in-Ok-clause-begins : goal.returns-in-Ok-clause-begins
returns-in-Ok-clause-begins c = λ signer n file played.
    begins node_ways ready_line (unplayed signer) n file c.args.begun.again.items (record { played = c.args.begun.played; kept = c.in-Ok.kept; is_over = false })
    played c.in-Ok.ensures.kept refl
