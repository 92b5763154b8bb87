-- What the types promise of the values in a history and a journal.
use Rattle.std.specs.List.{AllByRecursion}
use Rattle.channel_values.specs.Outcomes.{AreBytes, IsName}
use Rattle.channel_values.specs.Parts.{IsState}
use Rattle.call_history.specs.Same.{HasValidParts}
use Rattle.call_history.specs.declared.call.Op.{Op}
use Rattle.call_history.specs.declared.call.Op.TheVariants as ops
use Rattle.call_history.specs.declared.entry.Entry.{Entry}
use Rattle.call_history.specs.declared.event.Deed.{Deed}
use Rattle.call_history.specs.declared.event.Deed.TheVariants as deeds
use Rattle.call_history.specs.declared.event.Event.{Event}

-- the fixed part, the states and the outcomes of an op
abbrev pub IsValidOp : Op → Type 0
IsValidOp (ops.Call call) = HasValidParts call
IsValidOp (ops.Time t) = Unit {0}

abbrev pub IsValidEntry : Entry → Type 0
IsValidEntry e = IsValidOp e.op

-- the bytes of a message, the name and the state of what was signed, and the calls that were given
abbrev pub IsValidDeed : Deed → Type 0
IsValidDeed (deeds.Commanded step refusal) = Unit {0}
IsValidDeed (deeds.Handled bytes refusal) = AreBytes bytes
IsValidDeed (deeds.Signed channel state signature) = IsName channel × IsState state
IsValidDeed (deeds.SignedChallenge channel state who signature) = IsName channel × IsState state
IsValidDeed (deeds.Called call) = HasValidParts call
IsValidDeed (deeds.Watched watcher calls) = AllByRecursion HasValidParts calls

abbrev pub IsValidEvent : Event → Type 0
IsValidEvent x = IsValidDeed x.deed
