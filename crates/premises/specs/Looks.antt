-- The test of watchers in the order of time, with what each event noted read once.
use Rattle.std.specs.Prelude.{ℕ, suc, ◌+◌, Bool, true, false, not, ◌&&◌, ◌||◌, nat_le, List, [], ◌∷◌, length, fold, Option, Some, None, Result, Ok, Err, if◌then◌else◌}
use Rattle.channel_values.specs.declared.fault.ByteFault.{ByteFault}
use Rattle.channel_values.specs.Rules.{Rules}
use Rattle.call_history.specs.Spelling.{Message}
use Rattle.call_history.specs.Reading.{message_of}
use Rattle.call_history.specs.History.{is_accepted, time_set, or_before}
use Rattle.call_history.specs.declared.call.Call.TheVariants.{Challenge}
use Rattle.call_history.specs.declared.call.Op.{Op}
use Rattle.call_history.specs.declared.call.Op.TheVariants as ops
use Rattle.call_history.specs.declared.entry.Entry.{Entry}
use Rattle.call_history.specs.declared.event.Deed.{Deed}
use Rattle.call_history.specs.declared.event.Deed.TheVariants as deeds
use Rattle.call_history.specs.declared.event.Event.{Event}
use Rattle.premises.specs.Own.{is_string}
use Rattle.premises.specs.Timing.{until_end, looks_well}

abbrev pub told_channel : Result Message ByteFault → Option (List ℕ)
told_channel (Ok message) = Some message.0
told_channel (Err fault) = None

-- the channel of which the deed noted a state
abbrev pub noted_channel : Deed → Option (List ℕ)
noted_channel (deeds.Signed name state signature) = Some name
noted_channel (deeds.Handled bytes None) = told_channel (message_of bytes)
noted_channel _ = None

-- that of an event
abbrev pub channel_noted : Event → Option (List ℕ)
channel_noted x = noted_channel x.deed

-- the event noted a state of the channel, and had seen at most so many entries
abbrev pub has_noted : List ℕ → ℕ → Event → Bool
has_noted channel last x = is_string (channel_noted x) channel && nat_le x.seen last

-- Whether a look still answers for the challenge once this event is added: a state that was noted by its end makes all
-- looks before it too old.
abbrev pub next_look : Rules → List ℕ → ℕ → List Entry → Bool → Event → Bool
next_look r channel seen mid before x =
    if has_noted channel (seen + length mid) x then false else looks_well r channel seen mid x.seen x.deed || before

abbrev pub end_is_answered : Rules → List ℕ → ℕ → List Event → Option (List Entry) → Bool
end_is_answered r channel seen journal None = true
end_is_answered r channel seen journal (Some mid) = fold (next_look r channel seen mid) true journal

abbrev pub op_is_answered : Rules → List Event → List Entry → ℕ → ℕ → Op → Bool
op_is_answered r journal newer seen now (ops.Call (Challenge k)) =
    end_is_answered r (r.named k.chain.fixed) (suc seen) journal
    (until_end r (r.named k.chain.fixed) (now + k.chain.fixed.duration) newer)
op_is_answered r journal newer seen now _ = true

abbrev pub entry_is_answered : Rules → List Event → List Entry → ℕ → ℕ → Entry → Bool
entry_is_answered r journal newer seen now m = not (is_accepted m.reply) || op_is_answered r journal newer seen now m.op

-- each challenge among these entries, in the order of time, of which the first comes after so many, at this time
abbrev pub are_answered : Rules → List Event → ℕ → ℕ → List Entry → Bool
are_answered r journal seen now [] = true
are_answered r journal seen now (m ∷ rest) =
    entry_is_answered r journal rest seen now m
    && are_answered r journal (suc seen) (or_before (time_set m.op m.reply) now) rest
