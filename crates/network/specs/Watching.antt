-- What a watcher knows, which histories it stands for, and what a look answers.
use Rattle.std.specs.Prelude.{◌≡◌, ℕ, Bool, false, ◌&&◌, nat_lt, List, [], ◌∷◌, length, Option, Some, None, fold, map, filter}
use Rattle.std.specs.Str.{bytes_eq}
use Rattle.channel_values.specs.Parts.{FixedParts}
use Rattle.channel_values.specs.Spelling.{fixed}
use Rattle.channel_values.specs.Digests.{name_of_channel}
use Rattle.channel_values.specs.Rules.{Rules, top_turn}
use Rattle.call_history.specs.Mode.{mode_at, is_challenged}
use Rattle.call_history.specs.Rows.{fixed_of}
use Rattle.call_history.specs.Tables.{found, changed}
use Rattle.call_history.specs.Told.{told_row}
use Rattle.call_history.specs.History.{now_of, or_before, time_set, row, mode}
use Rattle.call_history.specs.declared.call.Call.{Call}
use Rattle.call_history.specs.declared.call.Call.TheVariants.{Checkpoint}
use Rattle.call_history.specs.declared.entry.Entry.{Entry}
use Rattle.call_history.specs.declared.held_chain.HeldChain.{HeldChain}
use Rattle.network.specs.declared.rows.Watched.{Watched}

-- `seen` is the number of the last entry that it followed; over a legal history that is how many
pub record Watching : Type 0 where
  pub time : ℕ
  pub rows : List Watched
  pub seen : ℕ
  pub is_lost : Bool

abbrev pub unseeing : Watching
unseeing = record { time = 0; rows = []; seen = 0; is_lost = false }

-- ---- rows

abbrev pub unwatched : List ℕ → Watched
unwatched channel = record { channel = channel; turn = 0; deadline = None }

abbrev pub is_of : List ℕ → Watched → Bool
is_of channel w = bytes_eq w.channel channel

-- what is recorded of a channel
abbrev pub watched_row : List Watched → List ℕ → Watched
watched_row rows channel = found (is_of channel) (unwatched channel) rows

abbrev pub recorded : Watched → List Watched → List Watched
recorded new rows = changed (is_of new.channel) (λ old. new) (unwatched new.channel) rows

abbrev pub row_with : List ℕ → ℕ × Option ℕ → Watched
row_with channel told = record { channel = channel; turn = told.0; deadline = told.1 }

-- the rows after an entry, of which the fixed part and what it says are given
abbrev pub rows_after : Option FixedParts → Option (ℕ × Option ℕ) → List Watched → List Watched
rows_after None told rows = rows
rows_after (Some f) None rows = rows
rows_after (Some f) (Some told) rows = recorded (row_with (name_of_channel (fixed f)) told) rows

abbrev pub saw : Watching → Entry → Watching
saw w e =
    record w {
      time = or_before (time_set e.op e.reply) w.time;
      rows = rows_after (fixed_of e.op) (told_row w.time e.op e.reply) w.rows;
      seen = e.number;
    }

-- ---- looks

abbrev pub is_stale : Watching → HeldChain → Bool
is_stale w held =
    is_challenged (mode_at (watched_row w.rows held.channel).deadline w.time)
    && nat_lt (watched_row w.rows held.channel).turn (top_turn held.chain.states)

-- one checkpoint for each chain that passes the test
abbrev pub checkpoints : (HeldChain → Bool) → List HeldChain → List Call
checkpoints test chains = map (λ held. Checkpoint held.chain) (filter test chains)

-- the channel is challenged below the turn of the held chain
abbrev pub is_below : Rules → List Entry → HeldChain → Bool
is_below r h held =
    is_challenged (mode r held.channel h) && nat_lt (row r held.channel h).turn (top_turn held.chain.states)

-- what a look answers at the end of a history: a checkpoint for each channel that is challenged below the held chain,
-- in order
abbrev pub looks : Rules → List Entry → List HeldChain → List Call
looks r h chains = checkpoints (is_below r h) chains

-- ---- histories

-- a history, and entries after it in the order of time
abbrev pub history_after : List Entry → List Entry → List Entry
history_after h entries = fold (λ past e. e ∷ past) h entries

-- the time, the turns and the deadlines are the history's, and as many entries were followed
pub record StandsFor (r : Rules) (h : List Entry) (w : Watching) : Type 0 where
  pub seen : w.seen ≡ length h
  pub time : w.time ≡ now_of h
  pub turns : (channel : List ℕ) → (watched_row w.rows channel).turn ≡ (row r channel h).turn
  pub deadlines : (channel : List ℕ) → (watched_row w.rows channel).deadline ≡ (row r channel h).deadline
