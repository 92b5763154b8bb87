use Rattle.std.proofs.Common.{◌≡◌, take}
use Rattle.lasting_node.specs.Queries.{last_letters}
use Rattle.lasting_node.proofs.resending.last_letters.Given as goal

abbrev pub invariant-loop-event : goal.invariant-loop-event
invariant-loop-event l = l.last.items ≡ last_letters l.me l.fixed (take l.event-index l.events)
