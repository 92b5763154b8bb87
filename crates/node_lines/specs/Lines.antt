-- What a line says, or the first fault of it. The keys of an object stand in any order, `do` among them.
use Rattle.std.specs.Prelude.{◌==◌, ◌||◌, ℕ, List, Bool, if◌then◌else◌, Result, Ok, Err, codes}
use Rattle.std.specs.Str.{bytes_eq}
use Rattle.serde_json.specs.Data.{Data}
use Rattle.node_lines.specs.Commands.{command_in}
use Rattle.node_lines.specs.Entries.{entry_of, KeepsOp}
use Rattle.node_lines.specs.Faults.{◌>>=◌, holds}
use Rattle.node_lines.specs.Values.{value_of, keys, number_at, small_at, text_at, bytes_at, name_at}
use Rattle.node_lines.specs.declared.events.Line.{Line}
use Rattle.node_lines.specs.declared.events.Line.TheVariants as lines
use Rattle.node_lines.specs.declared.events.NodeEvent.{NodeEvent}
use Rattle.node_lines.specs.declared.events.NodeEvent.TheVariants as events
use Rattle.node_lines.specs.declared.events.Query.{Query}
use Rattle.node_lines.specs.declared.events.Query.TheVariants as queries
use Rattle.node_lines.specs.declared.events.Start.{Start}
use Rattle.node_lines.specs.declared.faults.Invalid.{Invalid}
use Rattle.node_lines.specs.declared.faults.Invalid.TheVariants as faults

-- ---- events

abbrev pub entered : Data → Result NodeEvent Invalid
entered d = do
  entry ← entry_of d
  Ok (events.Entry entry)

-- {"do":"message","bytes":"HEX"}
abbrev pub message_of : Data → Result NodeEvent Invalid
message_of d = do
  no_more ← keys 2 d
  bytes ← bytes_at (codes "bytes") d
  Ok (events.Message bytes)

-- {"do":"tick"}
abbrev pub tick_of : Data → Result NodeEvent Invalid
tick_of d = do
  no_more ← keys 1 d
  Ok events.Tick

-- {"do":"dropped","event":3,"place":0}
abbrev pub dropped_of : Data → Result NodeEvent Invalid
dropped_of d = do
  no_more ← keys 3 d
  event ← small_at (codes "event") d
  place ← small_at (codes "place") d
  Ok (events.Dropped (record { event = event; place = place }))

abbrev pub commanded : List ℕ → Data → Result NodeEvent Invalid
commanded word d = do
  command ← command_in word d
  Ok (events.Command command)

abbrev pub event_in : List ℕ → Data → Result NodeEvent Invalid
event_in word d =
    if bytes_eq word (codes "entry") then entered d else (
    if bytes_eq word (codes "message") then message_of d else (
    if bytes_eq word (codes "tick") then tick_of d else (
    if bytes_eq word (codes "dropped") then dropped_of d else commanded word d)))

-- ---- queries

-- {"do":"share","asset":0}
abbrev pub share_of : Data → Result Query Invalid
share_of d = do
  no_more ← keys 2 d
  asset ← small_at (codes "asset") d
  Ok (queries.Share asset)

-- {"do":"balance","channel":"NAME"}
abbrev pub balance_of : Data → Result Query Invalid
balance_of d = do
  no_more ← keys 2 d
  channel ← name_at (codes "channel") d
  Ok (queries.Balance channel)

-- a query that is a word alone
abbrev pub plain_of : Query → Data → Result Query Invalid
plain_of query d = do
  no_more ← keys 1 d
  Ok query

abbrev pub is_query : List ℕ → Bool
is_query word =
    bytes_eq word (codes "share") || bytes_eq word (codes "balance") || bytes_eq word (codes "report")
    || bytes_eq word (codes "plan") || bytes_eq word (codes "chains") || bytes_eq word (codes "resend")

abbrev pub query_in : List ℕ → Data → Result Query Invalid
query_in word d =
    if bytes_eq word (codes "share") then share_of d else (
    if bytes_eq word (codes "balance") then balance_of d else (
    if bytes_eq word (codes "report") then plain_of queries.Report d else (
    if bytes_eq word (codes "plan") then plain_of queries.Plan d else (
    if bytes_eq word (codes "chains") then plain_of queries.Chains d else (
    if bytes_eq word (codes "resend") then plain_of queries.Resend d else Err faults.Shape)))))

-- ---- lines

abbrev pub told : List ℕ → Data → Result Line Invalid
told word d = do
  event ← event_in word d
  Ok (lines.Event event)

abbrev pub asked : List ℕ → Data → Result Line Invalid
asked word d = do
  query ← query_in word d
  Ok (lines.Query query)

-- by the word at `do`
abbrev pub line_in : List ℕ → Data → Result Line Invalid
line_in word d = if is_query word then asked word d else told word d

unfoldable pub line_of : List ℕ → Result Line Invalid
line_of line = do
  d ← value_of line
  word ← text_at (codes "do") d
  line_in word d

-- an op that is read keeps the limits of its format
abbrev pub KeepsEvent : NodeEvent → Type 0
KeepsEvent (events.Entry entry) = KeepsOp entry.op
KeepsEvent other = Unit {0}

abbrev pub KeepsLine : Line → Type 0
KeepsLine (lines.Event event) = KeepsEvent event
KeepsLine (lines.Query query) = Unit {0}

-- ---- the first line

abbrev pub is_height : ℕ → Bool
is_height h = h == 5 || h == 10 || h == 15

-- the height of a key's tree: 5, 10 or 15
abbrev pub height_in : ℕ → Result ℕ Invalid
height_in h = do
  known ← holds faults.Limit (is_height h)
  Ok h

abbrev pub first_word : List ℕ → Result ℕ Invalid
first_word word = holds faults.Shape (bytes_eq word (codes "start"))

-- {"do":"start","seed":"64 digits","h":10}
abbrev pub start_in : List ℕ → Data → Result Start Invalid
start_in word d = do
  first ← first_word word
  no_more ← keys 3 d
  seed ← name_at (codes "seed") d
  number ← number_at (codes "h") d
  h ← height_in number
  Ok (record { seed = seed; h = h })

unfoldable pub start_of : List ℕ → Result Start Invalid
start_of line = do
  d ← value_of line
  word ← text_at (codes "do") d
  start_in word d
