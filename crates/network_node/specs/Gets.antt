-- The shares of a node that lost nothing and followed the whole history are those of the definition.
use Rattle.std.proofs.Common.{Bool, cond, sym, ◌∙◌, ap}
use Rattle.channel_node.specs.Playing.{signing_of}
use Rattle.node_guarantees.proofs.Telling.{nodes_tell_shares}
use Rattle.stage_tables.specs.Stages.{stages}
use Rattle.node_guarantees.proofs.Kept.{few-values}
use Rattle.node_guarantees.specs.Commanded.{told}
use Rattle.node_guarantees.specs.Ways.{ways}
use Rattle.node_guarantees.specs.Placed.{IsPlaced}
use Rattle.support_rules.specs.Real.{real}
use Rattle.node_guarantees.specs.Telling.{SharesAreReal}
use Rattle.network_node.specs.Shares.{is_lost, shares}

pub nodes_get : SharesAreReal ways IsPlaced is_lost shares told
unfolding signing_of
nodes_get h p legal valid placed kept seen asset =
    (nodes_tell_shares stages real (signing_of p.node.signer) h p.node legal kept (placed.stands (few-values h valid))
    (sym (ap (λ (b : Bool). cond b 0 p.node.mind.view.count) kept) ∙ seen)).shares asset
