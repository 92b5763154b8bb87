-- That watchers are in time, as a test. What comes after a place of a history is in the order of time.
use Rattle.std.specs.Prelude.{ℕ, suc, ◌+◌, ◌-◌, Bool, true, false, not, ◌&&◌, ◌||◌, nat_le, List, [], ◌∷◌, length, drop, Option, Some, None, is_some, if◌then◌else◌, ◌↔◌, IsTrue}
use Rattle.std.specs.List.{list_any, list_all, AllByRecursion}
use Rattle.std.specs.Option.{option_map}
use Rattle.channel_values.specs.Rules.{Rules}
use Rattle.call_history.specs.Rows.{fixed_of}
use Rattle.call_history.specs.Same.{is_op}
use Rattle.call_history.specs.History.{is_accepted, is_named, turning, time_set, now_of}
use Rattle.call_history.specs.declared.call.Call.{Call}
use Rattle.call_history.specs.declared.call.Call.TheVariants.{Challenge}
use Rattle.call_history.specs.declared.call.Op.{Op}
use Rattle.call_history.specs.declared.call.Op.TheVariants as ops
use Rattle.call_history.specs.declared.entry.Entry.{Entry}
use Rattle.call_history.specs.declared.event.Deed.{Deed}
use Rattle.call_history.specs.declared.event.Deed.TheVariants as deeds
use Rattle.channel_safety.specs.Journals.{Line, noted_in}
use Rattle.channel_safety.specs.Premises.{InTime}
use Rattle.channel_safety.specs.Valid.{IsValidEntry, IsValidDeed}

-- ---- where a challenge runs out

abbrev pub reaches : ℕ → Option ℕ → Bool
reaches deadline None = false
reaches deadline (Some t) = nat_le deadline t

-- the entries up to the first that sets a time at or past the deadline, unless one of them turns the channel's row
abbrev pub until_end : Rules → List ℕ → ℕ → List Entry → Option (List Entry)
until_end r channel deadline [] = None
until_end r channel deadline (q ∷ rest) =
    if turning r channel q then None
    else (if reaches deadline (time_set q.op q.reply) then Some []
    else option_map (λ mid. q ∷ mid) (until_end r channel deadline rest))

-- ---- what a journal has

-- the line noted a state of the channel, and had seen at most so many entries
abbrev pub notes_by : List ℕ → ℕ → Line → Bool
notes_by channel seen x = is_some (noted_in channel x.deed) && nat_le x.seen seen

-- a call for the channel is among these entries
abbrev pub is_entered : Rules → List ℕ → List Entry → Call → Bool
is_entered r channel after call =
    not (is_named r channel (fixed_of (ops.Call call))) || list_any (λ q. is_op call q.op) after

abbrev pub are_entered : Rules → List ℕ → List Entry → List Call → Bool
are_entered r channel after calls = list_all (is_entered r channel after) calls

-- A look that had seen the first `seen` entries, the challenge being the last of them, and at most all of `mid` after
-- them. Its calls for the channel are among those that it hadn't seen.
abbrev pub looks_well : Rules → List ℕ → ℕ → List Entry → ℕ → Deed → Bool
looks_well r channel seen mid place (deeds.Watched watcher calls) =
    (nat_le seen place && nat_le place (seen + length mid)) && are_entered r channel (drop (place - seen) mid) calls
looks_well r channel seen mid place _ = false

-- such a look comes after every line that noted a state of the channel by then
abbrev pub is_looked : Rules → List ℕ → ℕ → List Entry → List Line → Bool
is_looked r channel seen mid [] = false
is_looked r channel seen mid (x ∷ front) =
    if notes_by channel (seen + length mid) x then false
    else looks_well r channel seen mid x.seen x.deed || is_looked r channel seen mid front

-- ---- the test

abbrev pub end_is_watched : Rules → List ℕ → ℕ → List Line → Option (List Entry) → Bool
end_is_watched r channel seen journal None = true
end_is_watched r channel seen journal (Some mid) =
    not (list_any (notes_by channel (seen + length mid)) journal) || is_looked r channel seen mid journal

-- of an accepted op after so many entries, at this time, before the entries `newer`
abbrev pub op_is_watched : Rules → List Line → List Entry → ℕ → ℕ → Op → Bool
op_is_watched r journal newer seen now (ops.Call (Challenge k)) =
    end_is_watched r (r.named k.chain.fixed) (suc seen) journal
    (until_end r (r.named k.chain.fixed) (now + k.chain.fixed.duration) newer)
op_is_watched r journal newer seen now _ = true

abbrev pub entry_is_watched : Rules → List Line → List Entry → ℕ → ℕ → Entry → Bool
entry_is_watched r journal newer seen now m = not (is_accepted m.reply) || op_is_watched r journal newer seen now m.op

-- each challenge among these entries, the newest first, before the entries `newer`
abbrev pub are_watched : Rules → List Line → List Entry → List Entry → Bool
are_watched r journal newer [] = true
are_watched r journal newer (m ∷ past) =
    entry_is_watched r journal newer (length past) (now_of past) m && are_watched r journal (m ∷ newer) past

abbrev pub is_in_time : Rules → List Entry → List Line → Bool
is_in_time r h journal = are_watched r journal [] h

-- ---- what it says

abbrev pub IsValidLine : Line → Type 0
IsValidLine x = IsValidDeed x.deed

-- the test says, where the ops and the calls of looks are such as their types say
abbrev pub TimingIsTold : Type 0
TimingIsTold =
    (r : Rules) (h : List Entry) (journal : List Line)
    → AllByRecursion IsValidEntry h → AllByRecursion IsValidLine journal
    → IsTrue (is_in_time r h journal) ↔ InTime r h journal
