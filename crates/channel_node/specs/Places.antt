-- What a node knows at a place: after so many entries, and the journal up to an event. Journals stand newest first.
use Rattle.std.specs.Prelude.{ℕ, suc, ◌==◌, Bool, true, false, List, [], ◌∷◌, length, map, reverse, Option, Some, None, if◌then◌else◌}
use Rattle.channel_values.specs.Rules.{Rules}
use Rattle.call_history.specs.Rows.{fixed_of}
use Rattle.call_history.specs.declared.entry.Entry.{Entry}
use Rattle.call_history.specs.declared.event.Deed.{Deed}
use Rattle.call_history.specs.declared.event.Deed.TheVariants as deeds
use Rattle.call_history.specs.declared.event.Event.{Event}
use Rattle.history_view.specs.Few.{OfFew}
use Rattle.channel_safety.specs.Journals.{Line}
use Rattle.network.specs.declared.command.Command.{Command}
use Rattle.channel_node.specs.Openings.{adds}
use Rattle.channel_node.specs.Minds.{Mind, fresh, saw, did}

-- an event, with its command where it has one
pub record Told : Type 0 where
  pub seen : ℕ
  pub deed : Deed
  pub command : Option Command

abbrev pub is_commanded : Deed → Bool
is_commanded (deeds.Commanded step refusal) = true
is_commanded _ = false

abbrev pub tell : Event → Option Command → Told
tell x command = record { seen = x.seen; deed = x.deed; command = command }

-- the events with their commands, which stand in the same order
abbrev pub told : List Event → List Command → List Told
told [] commands = []
told (x ∷ front) [] = tell x None ∷ told front []
told (x ∷ front) (c ∷ commands) = if is_commanded x.deed then tell x (Some c) ∷ told front commands else tell x None ∷ told front (c ∷ commands)

-- the command of the step that an event names, where `commands` says what each step commands
abbrev pub command_for : (ℕ → Option Command) → Deed → Option Command
command_for commands (deeds.Commanded step refusal) = commands step
command_for commands _ = None

-- the events of a journal with the commands of their steps, the newest first
abbrev pub told_by : (ℕ → Option Command) → List Event → List Told
told_by commands journal = map (λ x. tell x (command_for commands x.deed)) (reverse journal)

-- the lines of a journal of the participant with this key
abbrev pub line_of : List ℕ → Told → Line
line_of key x = record { seen = x.seen; deed = x.deed; adds = adds key x.command }

abbrev pub lines_of : List ℕ → List Told → List Line
lines_of key journal = map (line_of key) journal

-- the events that had seen k entries, in the journal's order
abbrev pub slot : Rules → ℕ → List Told → Mind → Mind
slot r k [] m = m
slot r k (x ∷ front) m = if x.seen == k then did r x.deed x.command (slot r k front m) else slot r k front m

-- what the node with this key knows after these entries and the events that had seen at most these
abbrev pub mind_at : Rules → List ℕ → List Entry → List Told → Mind
mind_at r key [] journal = slot r 0 journal (fresh key)
mind_at r key (e ∷ past) journal = slot r (suc (length past)) journal (saw r e (mind_at r key past journal))

-- no channel that the entries turn has more people than values have
abbrev pub AreFew : List Entry → Type 0
AreFew [] = Unit {0}
AreFew (e ∷ past) = OfFew (fixed_of e.op) × AreFew past
