-- Races: rounds, in each of which a watcher looks after all that its participant notes in it, and a time entry after
-- each.
use Rattle.std.specs.Prelude.{◌≡◌, ℕ, ◌+◌, ◌<◌, ◌≤◌, ◌⊎◌, true, List, [], ◌∷◌, ◌++◌, length, Some}
use Rattle.channel_values.specs.Parts.{FixedParts}
use Rattle.channel_values.specs.declared.chain.Chain.{Chain}
use Rattle.channel_values.specs.declared.chain.Signed.{Signed}
use Rattle.channel_values.specs.Rules.{Rules}
use Rattle.call_history.specs.History.{time_set, now_of, turning}
use Rattle.call_history.specs.Calls.{make_challenge}
use Rattle.call_history.specs.declared.call.Call.{Call}
use Rattle.call_history.specs.declared.call.Op.TheVariants as ops
use Rattle.call_history.specs.declared.entry.Entry.{Entry}
use Rattle.call_history.specs.declared.event.Deed.TheVariants as deeds
use Rattle.channel_safety.specs.Journals.{In, Line, opened, noted_in}

-- the call was entered after the first `from` entries, and among the first `to`
pub record IsEntered (h : List Entry) (call : Call) (from to : ℕ) : Type 0 where
  pub later : List Entry
  pub entry : Entry
  pub past : List Entry
  pub split : h ≡ later ++ entry ∷ past
  pub is : entry.op ≡ ops.Call call
  pub after : from ≤ length past
  pub before : length past < to

-- A round from the first `begin` entries to the first `end`: in it a watcher looked.
pub record IsRound (h : List Entry) (journal : List Line) (begin end : ℕ) : Type 0 where
  pub newer : List Line
  pub front : List Line
  pub look : Line
  pub watcher : ℕ
  pub calls : List Call
  pub split : journal ≡ newer ++ look ∷ front
  pub deed : look.deed ≡ deeds.Watched watcher calls
  -- it had seen what was there when the round began, and no more than when it ended
  pub begins : begin ≤ look.seen
  pub ends : look.seen ≤ end
  -- what was noted after it had seen more than the round
  pub noted_later : (x : Line) (channel : List ℕ) (s : Signed) → In x newer → noted_in channel x.deed ≡ Some s
      → end < x.seen
  -- and its calls were entered in the round
  pub entered : (call : Call) → In call calls → IsEntered h call look.seen end

-- the number of entries once the last of these rounds, which stands first, and its time entry are over
abbrev pub over : List ℕ → ℕ
over [] = 0
over (end ∷ ends) = end + 1

-- all that was noted had seen more entries than these
abbrev pub NotesLater : List Line → ℕ → Type 0
NotesLater journal end =
    (x : Line) (channel : List ℕ) (s : Signed) → In x journal → noted_in channel x.deed ≡ Some s → end < x.seen

-- A watcher looked in the round; or the participant noted nothing until the round was over, as one that came later.
pub record IsPassed (h : List Entry) (journal : List Line) (begin end : ℕ) : Type 0 where
  pub order : begin ≤ end
  pub looked : IsRound h journal begin end ⊎ NotesLater journal end

-- rounds that ended after so many entries each, the last one first; each began after the one before it and its time
-- entry
abbrev pub AreRounds : List Entry → List Line → List ℕ → Type 0
AreRounds h journal [] = Unit {0}
AreRounds h journal (end ∷ ends) = IsPassed h journal (over ends) end × AreRounds h journal ends

-- each accepted time follows on a round's end, and is one later than the time before it
abbrev pub AreTicks : List Entry → List ℕ → Type 0
AreTicks h ends =
    (later past : List Entry) (e : Entry) (time : ℕ)
    → h ≡ later ++ e ∷ past → time_set e.op e.reply ≡ Some time
    → In (length past) ends × (time ≡ now_of past + 1)

-- the history and the journal of a participant after rounds with these ends
pub record IsRaced (h : List Entry) (journal : List Line) (ends : List ℕ) : Type 0 where
  pub rounds : AreRounds h journal ends
  pub ticks : AreTicks h ends
  pub over_by_now : over ends ≤ length h

-- each accepted challenge of a channel in which a state was noted stands open for two or more
abbrev pub StandForTwo : Rules → List Entry → List Line → Type 0
StandForTwo r h journal =
    (later past : List Entry) (m : Entry) (chain : Chain) (who : ℕ) (signature : List ℕ)
    (x : Line) (f : FixedParts) (s : Signed)
    → h ≡ later ++ m ∷ past → m.op ≡ ops.Call (make_challenge chain who signature) → turning r (r.named f) m ≡ true
    → In x journal → noted_in (r.named f) x.deed ≡ Some s → 2 ≤ chain.fixed.duration

-- a channel of this name was opened
pub record WasOpened (r : Rules) (journal : List Line) (channel : List ℕ) : Type 0 where
  pub line : Line
  pub there : In line journal
  pub fixed : FixedParts
  pub opens : In fixed (opened line)
  pub name : r.named fixed ≡ channel

-- states are noted of channels that were opened, and those have durations of two or more
pub record NotesLasting (r : Rules) (journal : List Line) : Type 0 where
  pub planned : (x : Line) (channel : List ℕ) (s : Signed) → In x journal → noted_in channel x.deed ≡ Some s
      → WasOpened r journal channel
  pub lasting : (x : Line) (f : FixedParts) → In x journal → In f (opened x) → 2 ≤ f.duration
