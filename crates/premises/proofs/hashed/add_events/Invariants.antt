use Rattle.std.proofs.Common.{◌≡◌, ◌++◌, take, flat_map}
use Rattle.premises.specs.Collision.{of_event}
use Rattle.premises.proofs.hashed.add_events.Given as goal

abbrev pub invariant-loop-event : goal.invariant-loop-event
invariant-loop-event l = l.strings.items ≡ l.initial.strings.items ++ flat_map of_event (take l.event-index l.events)
