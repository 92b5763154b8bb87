-- The machine of a node: which lines it takes, what each makes of it, and what it answers.
use Rattle.std.specs.Prelude.{◌≢◌, ℕ, suc, ◌+◌, ◌^◌, ◌==◌, Bool, ◌&&◌, nat_lt, is_ok, List, [], ◌++◌, length, drop, replicate, Option, Some, None, Result, Ok, Err, if◌then◌else◌}
use Rattle.std.specs.List.{flat_map, list_any}
use Rattle.std.specs.Option.{option_map}
use Rattle.call_history.specs.History.{reply_to}
use Rattle.call_history.specs.declared.call.Call.{Call}
use Rattle.lms_signatures.specs.Signing.{Signing}
use Rattle.support_rules.specs.Real.{real}
use Rattle.network.specs.Entered.{entered, oldest_first}
use Rattle.network.specs.Members.{up_to_date, accepted}
use Rattle.network.specs.Ways.{unlooking, looked}
use Rattle.network.specs.declared.command.Command.{Command}
use Rattle.network.specs.declared.lookout.Lookout.{Lookout}
use Rattle.node_guarantees.specs.Ways.{ways}
use Rattle.lasting_lines.specs.Batches.{batched}
use Rattle.lasting_lines.specs.Machines.{Ways}
use Rattle.lasting_lines.specs.declared.played.Played.{Played}
use Rattle.node_lines.specs.Lines.{line_of}
use Rattle.node_lines.specs.Texts.{effect_text}
use Rattle.node_lines.specs.declared.effects.Effect.{Effect}
use Rattle.node_lines.specs.declared.errors.Why.{Why}
use Rattle.node_lines.specs.declared.errors.Why.TheVariants as whys
use Rattle.node_lines.specs.declared.events.CallNumber.{CallNumber}
use Rattle.node_lines.specs.declared.faults.Invalid.{Invalid}
use Rattle.node_lines.specs.declared.faults.Invalid.TheVariants as faults
use Rattle.node_lines.specs.declared.entries.LedgerEntry.{LedgerEntry}
use Rattle.node_lines.specs.declared.events.Line.{Line}
use Rattle.node_lines.specs.declared.events.Line.TheVariants as lines
use Rattle.node_lines.specs.declared.events.NodeEvent.{NodeEvent}
use Rattle.node_lines.specs.declared.events.NodeEvent.TheVariants as events
use Rattle.lasting_node.specs.Effects.{sends, calls, spent, of_entry, of_message, of_command, of_time}
use Rattle.lasting_node.specs.InFlight.{numbered, not_in_flight, not_entered, has_number, not_dropped}
use Rattle.lasting_node.specs.Reserves.{has_reserve}
use Rattle.lasting_node.specs.declared.machine.NodeMachine.{NodeMachine}
use Rattle.lasting_node.specs.declared.taking.NotTaken.{NotTaken}
use Rattle.lasting_node.specs.declared.taking.NotTaken.TheVariants.{Wrong, Refuses, Asks}

-- ---- which lines it takes

abbrev pub why_of : Invalid → Why
why_of faults.Json = whys.Json
why_of faults.Shape = whys.Shape
why_of faults.Limit = whys.Limit
why_of faults.Bytes = whys.Bytes

abbrev pub event_in : Result Line Invalid → Result NodeEvent NotTaken
event_in (Err fault) = Err (Wrong (why_of fault))
event_in (Ok (lines.Query query)) = Err (Asks query)
event_in (Ok (lines.Event event)) = Ok event

-- where this doesn't hold, it is the reason
abbrev pub unless : Bool → Why → Option NotTaken
unless holds why = if holds then None else Some (Wrong why)

-- Why an event can't come now, if it can't. Of an entry the number comes next, and a tick comes while no call is in
-- flight.
abbrev pub reason : NodeMachine → NodeEvent → Option NotTaken
reason m (events.Entry e) = unless (e.number == length m.ledger + 1) whys.Number
reason m (events.Message bytes) = option_map Refuses (ways.refuses bytes m.node)
reason m (events.Command command) = unless (has_reserve m.node command) whys.Reserve
reason m events.Tick = unless (length m.waiting == 0) whys.Waits
reason m (events.Dropped call) = unless (list_any (has_number call) m.waiting) whys.Unknown

-- the numbers of events and of entries have 32 bits
abbrev pub has_room : NodeMachine → Bool
has_room m = nat_lt (m.count + 1) (2 ^ 32) && nat_lt (length m.ledger + 1) (2 ^ 32)

abbrev pub refusal : NodeMachine → NodeEvent → Option NotTaken
refusal m event = if has_room m then reason m event else Some (Wrong whys.Full)

abbrev pub taken_unless : Option NotTaken → NodeEvent → Result NodeEvent NotTaken
taken_unless None event = Ok event
taken_unless (Some why) event = Err why

abbrev pub taken_of : NodeMachine → Result NodeEvent NotTaken → Result NodeEvent NotTaken
taken_of m (Err why) = Err why
taken_of m (Ok event) = taken_unless (refusal m event) event

-- the event that a line is, if the machine takes it, or the first reason why not
abbrev pub taken : NodeMachine → List ℕ → Result NodeEvent NotTaken
taken m line = taken_of m (event_in (line_of line))

-- ---- of another story

-- the reply of an entry isn't the adjudicator's
abbrev pub IsForeign : NodeMachine → NodeEvent → Type 0
IsForeign m (events.Entry e) = reply_to real m.ledger e.op ≢ e.reply
IsForeign m event = ⊥

abbrev pub ForeignIn : NodeMachine → Result NodeEvent NotTaken → Type 0
ForeignIn m (Err why) = ⊥
ForeignIn m (Ok event) = IsForeign m event

abbrev pub Foreign : NodeMachine → List ℕ → Type 0
Foreign m line = ForeignIn m (event_in (line_of line))

-- ---- the parts of events

-- the number of the event that comes
abbrev pub number : NodeMachine → ℕ
number m = m.count + 1

abbrev pub counted : NodeMachine → NodeMachine
counted m = record m { count = number m }

-- these calls of the event are in flight, with the first at this place
abbrev pub flying : ℕ → List Call → NodeMachine → NodeMachine
flying place given m = record m { waiting = m.waiting ++ numbered (number m) place given }

-- the entry is in the history, and its call is in flight no more
abbrev pub entering : LedgerEntry → NodeMachine → NodeMachine
entering e m = record m { ledger = entered m.ledger e.by e.op; waiting = not_entered e.op m.waiting }

-- the node follows the entries that it hasn't followed
abbrev pub seeing : NodeMachine → NodeMachine
seeing m = record m { node = ways.saw (drop (ways.seen m.node) (oldest_first m.ledger)) m.node }

-- and so does its watcher
abbrev pub lookout_of : NodeMachine → Lookout
lookout_of m = up_to_date ways (oldest_first m.ledger) m.lookout

-- the calls of the watcher's look
abbrev pub look : NodeMachine → List Call
look m = looked (ways.chains m.node) (lookout_of m)

-- those that aren't in flight yet
abbrev pub new_calls : NodeMachine → List Call
new_calls m = not_in_flight m.waiting (look m)

abbrev pub watched : NodeMachine → NodeMachine
watched m = record m { node = ways.watched (lookout_of m).seen 0 (look m) m.node; lookout = lookout_of m }

-- the watcher looks, and gives its new calls, with the first at this place
abbrev pub looking : ℕ → NodeMachine → NodeMachine
looking place m = flying place (new_calls m) (watched m)

-- ---- what each event makes of it

abbrev pub after_entry : LedgerEntry → NodeMachine → NodeMachine
after_entry e m = looking 0 (seeing (entering e m))

abbrev pub after_message : List ℕ → NodeMachine → NodeMachine
after_message bytes m = record m { node = ways.handled bytes m.node }

-- what a command gives, nothing where it is refused
abbrev pub command_calls : Command → NodeMachine → List Call
command_calls command m = (accepted (ways.answers command m.node)).calls

abbrev pub after_command : Command → NodeMachine → NodeMachine
after_command command m =
    flying 0 (command_calls command m) (record m { node = ways.commanded (number m) command m.node })

-- the node acts, and its calls are in flight
abbrev pub ticking : NodeMachine → NodeMachine
ticking m = flying 0 (ways.gives m.node).calls (record m { node = ways.ticked m.node })

-- the watcher's calls come after those of the node
abbrev pub look_place : NodeMachine → ℕ
look_place m = length (ways.gives m.node).calls

abbrev pub after_tick : NodeMachine → NodeMachine
after_tick m = looking (look_place m) (ticking m)

abbrev pub after_dropped : CallNumber → NodeMachine → NodeMachine
after_dropped call m = record m { waiting = not_dropped call m.waiting }

abbrev pub after_event : NodeEvent → NodeMachine → NodeMachine
after_event (events.Entry e) m = after_entry e m
after_event (events.Message bytes) m = after_message bytes m
after_event (events.Command command) m = after_command command m
after_event events.Tick m = after_tick m
after_event (events.Dropped call) m = after_dropped call m

-- ---- what is said of each event

-- the time, as far as the node followed
abbrev pub time_of : NodeMachine → ℕ
time_of m = m.node.node.mind.view.now

-- the reply is that of the machine's own adjudicator
abbrev pub entry_effects : LedgerEntry → NodeMachine → List Effect
entry_effects e m =
    of_entry (time_of m) (seeing (entering e m)).node e.op (reply_to real m.ledger e.op)
    ++ (calls 0 (new_calls (seeing (entering e m))) ++ of_time (after_entry e m).node)

abbrev pub tick_effects : NodeMachine → List Effect
tick_effects m =
    sends (ways.gives m.node).sends
    ++ (calls 0 (ways.gives m.node).calls
    ++ (calls (look_place m) (new_calls (ticking m))
    ++ (spent (ways.gives m.node).spent ++ of_time (after_tick m).node)))

abbrev pub effects_of : NodeEvent → NodeMachine → List Effect
effects_of (events.Entry e) m = entry_effects e m
effects_of (events.Message bytes) m = of_message m.node bytes
effects_of (events.Command command) m = of_command (ways.answers command m.node)
effects_of events.Tick m = tick_effects m
effects_of (events.Dropped call) m = []

-- ---- the machine

abbrev pub next : NodeMachine → Result NodeEvent NotTaken → NodeMachine
next m (Err why) = m
next m (Ok event) = counted (after_event event m)

abbrev pub answer : NodeMachine → Result NodeEvent NotTaken → List ℕ
answer m (Err why) = []
answer m (Ok event) = flat_map (effect_text (number m)) (effects_of event m)

-- of one line
abbrev pub line_ways : Ways NodeMachine
line_ways = record {
  takes = λ m line. is_ok (taken m line);
  next = λ m line. next m (taken m line);
  owes = λ m line. answer m (taken m line);
}

-- of the lines that share a record
abbrev pub node_ways : Ways NodeMachine
node_ways = batched line_ways

-- ---- before the first record

abbrev pub new_machine : Signing → NodeMachine
new_machine signer = record { ledger = []; node = ways.fresh 1 signer; lookout = unlooking; waiting = []; count = 0 }

-- with a mark of zeros
abbrev pub unplayed : Signing → Played NodeMachine
unplayed signer = record { machine = new_machine signer; count = 0; mark = replicate 32 0 }
