-- How a race grows: what is done between rounds, and a round with its time entry.
use Rattle.std.specs.Prelude.{◌≡◌, ℕ, ◌≤◌, List, ◌∷◌, length, None}
use Rattle.call_history.specs.History.{time_set}
use Rattle.call_history.specs.declared.call.Call.{Call}
use Rattle.call_history.specs.declared.entry.Entry.{Entry}
use Rattle.call_history.specs.declared.event.Deed.TheVariants as deeds
use Rattle.channel_safety.specs.Journals.{In, Line}
use Rattle.channel_safety.specs.Races.{IsEntered}

-- these entries set no time
abbrev pub AreTimeless : List Entry → Type 0
AreTimeless entries = (e : Entry) → In e entries → time_set e.op e.reply ≡ None

-- these lines had seen so many entries, or more
abbrev pub HaveSeen : ℕ → List Line → Type 0
HaveSeen seen gained = (x : Line) → In x gained → seen ≤ x.seen

-- a watcher looked, and each of its calls was entered after what it had seen
pub record IsLook (h : List Entry) (x : Line) : Type 0 where
  pub watcher : ℕ
  pub calls : List Call
  pub deed : x.deed ≡ deeds.Watched watcher calls
  pub entered : (call : Call) → In call calls → IsEntered h call x.seen (length h)

-- What a journal gains in a round, after which the history is this one: the last line is a watcher's look. Each line
-- had seen what was there when the round began, and no more than when it ended.
pub record GainsRound (begin : ℕ) (h : List Entry) (gained : List Line) : Type 0 where
  pub look : Line
  pub front : List Line
  pub split : gained ≡ look ∷ front
  pub looks : IsLook h look
  pub begins : HaveSeen begin gained
  pub ends : (x : Line) → In x gained → x.seen ≤ length h
