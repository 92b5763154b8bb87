use Rattle.std.proofs.Common.{◌≡◌, take}
use Rattle.channel_node.specs.Giving.{last_signed}
use Rattle.channel_node.proofs.node.last_signed.Given as goal

abbrev pub invariant-loop-event : goal.invariant-loop-event
invariant-loop-event l = l.last ≡ last_signed l.channel (take l.event-index l.events)
