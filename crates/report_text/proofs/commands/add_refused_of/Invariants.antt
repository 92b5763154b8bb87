use Rattle.std.proofs.Common.{◌≡◌, ◌++◌, take}
use Rattle.std.specs.Prelude.{flat_map}
use Rattle.call_history.specs.declared.event.Event.{Event}
use Rattle.channel_values.specs.Digests.{name_of_person}
use Rattle.report_text.specs.People.{refused_in}
use Rattle.report_text.proofs.commands.add_refused_of.Given as goal

abbrev pub invariant-loop-event : goal.invariant-loop-event
invariant-loop-event l = l.all.items ≡ l.fn.all.items ++ flat_map (λ (x : Event). refused_in (name_of_person l.journal.key) x.deed) (take l.event-index l.journal.events)
