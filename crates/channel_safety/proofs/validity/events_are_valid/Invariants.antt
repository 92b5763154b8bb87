use Rattle.std.proofs.Common.{take}
use Rattle.std.specs.List.{AllByRecursion}
use Rattle.channel_safety.specs.Valid.{IsValidEvent}
use Rattle.channel_safety.proofs.validity.events_are_valid.Given as goal

abbrev pub invariant-loop-event : goal.invariant-loop-event
invariant-loop-event l = AllByRecursion IsValidEvent (take l.event-index l.events)
