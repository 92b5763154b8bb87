-- What a line says of an entry has valid parts.
use Rattle.std.proofs.Common.{◌≡◌, ℕ, suc, Bool, true, false, cond, List, [], ◌∷◌, length, Result, Ok, Err, refl, ap, subst}
use Rattle.std.specs.Prelude.{◌==◌, Option, Some, None, codes}
use Rattle.std.specs.Result.{result_ok}
use Rattle.std.specs.List.{list_all}
use Rattle.std.specs.Int.{w64, from_be_bytes}
use Rattle.std.specs.Str.{bytes_eq}
use Rattle.hex.proofs.HexLemmas.{decode_of-ok}
use Rattle.hex.specs.Hex.{decode_of}
use Rattle.hex.specs.declared.error.FromHexError.{FromHexError}
use Rattle.serde_json.specs.Data.{Data}
use Rattle.channel_values.proofs.Format.{all_takes}
use Rattle.channel_values.specs.Outcomes.{AreBytes}
use Rattle.channel_values.specs.declared.fault.ByteFault.{ByteFault}
use Rattle.call_history.proofs.Formats.{call_format}
use Rattle.call_history.specs.Limits.{IsCall}
use Rattle.call_history.specs.Reading.{call_of}
use Rattle.call_history.specs.Same.{HasValidParts}
use Rattle.call_history.specs.declared.call.Call.{Call}
use Rattle.call_history.specs.declared.call.Call.TheVariants.{Deposit, Challenge, Respond, Refute, Checkpoint, Conclude, Transfer, Claim}
use Rattle.call_history.specs.declared.call.Op.{Op}
use Rattle.call_history.specs.declared.call.Op.TheVariants as ops
use Rattle.channel_safety.specs.Valid.{IsValidOp}
use Rattle.node_lines.specs.Entries.{call_in, time_in, op_in, op_of, reply_of, entry_of}
use Rattle.node_lines.specs.Faults.{◌>>=◌, given, holds, spelled}
use Rattle.node_lines.specs.Values.{value_of, keys, small_at, text_at, bytes_in, bytes_at, is_digit}
use Rattle.node_lines.specs.Commands.{command_in}
use Rattle.node_lines.specs.Lines as lines
use Rattle.node_lines.specs.declared.entries.LedgerEntry.{LedgerEntry}
use Rattle.node_lines.specs.declared.events.Line.{Line}
use Rattle.node_lines.specs.declared.events.Line.TheVariants as kinds
use Rattle.node_lines.specs.declared.events.NodeEvent.{NodeEvent}
use Rattle.node_lines.specs.declared.events.NodeEvent.TheVariants as events
use Rattle.node_lines.specs.declared.faults.Invalid.{Invalid}
use Rattle.node_lines.specs.declared.faults.Invalid.TheVariants as faults
use Rattle.lasting_node.specs.Machines.{event_in, refusal, taken_unless, taken_of, taken}
use Rattle.lasting_node.specs.declared.machine.NodeMachine.{NodeMachine}
use Rattle.lasting_node.specs.declared.taking.NotTaken.{NotTaken}

pub bind_ok : {A B : Type 0} (r : Result A Invalid) (f : A → Result B Invalid) (y : B) → (r >>= f) ≡ Ok y → (x : A) × (r ≡ Ok x) × (f x ≡ Ok y)
bind_ok (Ok x) f y h = (x, refl, h)
bind_ok (Err e) f y h = absurd cc

-- ---- calls

parts-valid : (c : Call) → IsCall c → HasValidParts c
parts-valid (Deposit d) valid = tt
parts-valid (Challenge k) valid = (valid.0.fixed, valid.0.states)
parts-valid (Respond k) valid = (valid.0, valid.1, valid.2.0)
parts-valid (Refute f next) valid = (valid.0, valid.1.0)
parts-valid (Checkpoint chain) valid = (valid.fixed, valid.states)
parts-valid (Conclude chain) valid = (valid.fixed, valid.states)
parts-valid (Transfer k) valid = valid.1
parts-valid (Claim k) valid = (valid.1, valid.3)

spelled_ok : {A : Type 0} (r : Result A ByteFault) (x : A) → spelled r ≡ Ok x → r ≡ Ok x
spelled_ok (Ok y) x e = cc
spelled_ok (Err f) x e = absurd cc

call-valid : (bytes : List ℕ) (op : Op) → AreBytes bytes → call_in bytes ≡ Ok op → IsValidOp op
call-valid bytes op fits e =
    let a = bind_ok (spelled (call_of bytes)) _ op e in
    let same : ops.Call a.0 ≡ op = cc in
    subst IsValidOp same (parts-valid a.0 (all_takes call_format bytes a.0 fits (spelled_ok (call_of bytes) a.0 a.1)).0)

time-valid : (bytes : List ℕ) (op : Op) → time_in bytes ≡ Ok op → IsValidOp op
time-valid bytes op e = go (length bytes == 8) e
  where
    go : (b : Bool) → cond b (Ok (ops.Time (from_be_bytes w64 bytes))) (Err faults.Bytes) ≡ Ok op → IsValidOp op
    go true e =
        let same : ops.Time (from_be_bytes w64 bytes) ≡ op = cc in
        subst IsValidOp same tt
    go false e = absurd cc

op-valid : (bytes : List ℕ) (op : Op) → AreBytes bytes → op_in bytes ≡ Ok op → IsValidOp op
op-valid [] op fits e = absurd cc
op-valid (tag ∷ bytes) op fits e = first (tag == 1) e
  where
    second : (b : Bool) → cond b (time_in bytes) (Err faults.Bytes) ≡ Ok op → IsValidOp op
    second true e = time-valid bytes op e
    second false e = absurd cc

    first : (b : Bool) → cond b (call_in bytes) (cond (tag == 2) (time_in bytes) (Err faults.Bytes)) ≡ Ok op → IsValidOp op
    first true e = call-valid bytes op (λ i. fits (suc i)) e
    first false e = second (tag == 2) e

-- ---- digits

decoded : (r : Result (List ℕ) FromHexError) (bytes : List ℕ) → given faults.Bytes (result_ok r) ≡ Ok bytes → r ≡ Ok bytes
decoded (Ok read) bytes e = cc
decoded (Err f) bytes e = absurd cc

digits-fit : (text bytes : List ℕ) → bytes_in text ≡ Ok bytes → AreBytes bytes
digits-fit text bytes e =
    let a = bind_ok (holds faults.Bytes (list_all is_digit text)) _ bytes e in
    (decode_of-ok text bytes (decoded (decode_of text) bytes a.2)).3

pub bytes-fit : (key : List ℕ) (d : Data) (bytes : List ℕ) → bytes_at key d ≡ Ok bytes → AreBytes bytes
bytes-fit key d bytes e =
    let a = bind_ok (text_at key d) _ bytes e in
    digits-fit a.0 bytes a.2

-- ---- entries

pub entry-valid : (d : Data) (e : LedgerEntry) → entry_of d ≡ Ok e → IsValidOp e.op
entry-valid d e is =
    let a = bind_ok (keys 5 d) _ e is in
    let number = bind_ok (small_at (codes "number") d) _ e a.2 in
    let by = bind_ok (small_at (codes "by") d) _ e number.2 in
    let reply = bind_ok (reply_of d) _ e by.2 in
    let op = bind_ok (op_of d) _ e reply.2 in
    let bytes = bind_ok (bytes_at (codes "op") d) _ op.0 op.1 in
    let same : op.0 ≡ e.op = ap op-in op.2 in
    subst IsValidOp same (op-valid bytes.0 op.0 (bytes-fit (codes "op") d bytes.0 bytes.1) bytes.2)
  where
    op-in : Result LedgerEntry Invalid → Op
    op-in (Ok e) = e.op
    op-in (Err f) = ops.Time 0

-- ---- lines

-- an entry's op has valid parts
abbrev pub IsValid : NodeEvent → Type 0
IsValid (events.Entry e) = IsValidOp e.op
IsValid event = Unit {0}

abbrev pub IsValidEvent : Result NodeEvent NotTaken → Type 0
IsValidEvent (Ok event) = IsValid event
IsValidEvent (Err why) = Unit {0}

-- what was read is this event
read-is : (x event : NodeEvent) → ◌≡◌ {A = Result NodeEvent Invalid} (Ok x) (Ok event) → IsValid x → IsValid event
read-is x event e valid =
    let same : x ≡ event = cc in
    subst IsValid same valid

event-valid : (word : List ℕ) (d : Data) (event : NodeEvent) → lines.event_in word d ≡ Ok event → IsValid event
event-valid word d event e = entry (bytes_eq word (codes "entry")) e
  where
    other : lines.commanded word d ≡ Ok event → IsValid event
    other e =
        let a = bind_ok (command_in word d) _ event e in
        read-is (events.Command a.0) event a.2 tt

    dropped : (b : Bool) → cond b (lines.dropped_of d) (lines.commanded word d) ≡ Ok event → IsValid event
    dropped true e =
        let a = bind_ok (keys 3 d) _ event e in
        let number = bind_ok (small_at (codes "event") d) _ event a.2 in
        let place = bind_ok (small_at (codes "place") d) _ event number.2 in
        read-is (events.Dropped (record { event = number.0; place = place.0 })) event place.2 tt
    dropped false e = other e

    tick : (b : Bool) → cond b (lines.tick_of d) (cond (bytes_eq word (codes "dropped")) (lines.dropped_of d) (lines.commanded word d)) ≡ Ok event
        → IsValid event
    tick true e =
        let a = bind_ok (keys 1 d) _ event e in
        read-is events.Tick event a.2 tt
    tick false e = dropped (bytes_eq word (codes "dropped")) e

    message : (b : Bool)
        → cond b (lines.message_of d) (cond (bytes_eq word (codes "tick")) (lines.tick_of d)
        (cond (bytes_eq word (codes "dropped")) (lines.dropped_of d) (lines.commanded word d))) ≡ Ok event
        → IsValid event
    message true e =
        let a = bind_ok (keys 2 d) _ event e in
        let bytes = bind_ok (bytes_at (codes "bytes") d) _ event a.2 in
        read-is (events.Message bytes.0) event bytes.2 tt
    message false e = tick (bytes_eq word (codes "tick")) e

    entry : (b : Bool)
        → cond b (lines.entered d) (cond (bytes_eq word (codes "message")) (lines.message_of d)
        (cond (bytes_eq word (codes "tick")) (lines.tick_of d)
        (cond (bytes_eq word (codes "dropped")) (lines.dropped_of d) (lines.commanded word d)))) ≡ Ok event
        → IsValid event
    entry true e =
        let a = bind_ok (entry_of d) _ event e in
        read-is (events.Entry a.0) event a.2 (entry-valid d a.0 a.1)
    entry false e = message (bytes_eq word (codes "message")) e

word-valid : (word : List ℕ) (d : Data) (event : NodeEvent) → lines.line_in word d ≡ Ok (kinds.Event event) → IsValid event
word-valid word d event e = go (lines.is_query word) e
  where
    go : (b : Bool) → cond b (lines.asked word d) (lines.told word d) ≡ Ok (kinds.Event event) → IsValid event
    go true e =
        let a = bind_ok (lines.query_in word d) _ (kinds.Event event) e in
        absurd cc
    go false e =
        let a = bind_ok (lines.event_in word d) _ (kinds.Event event) e in
        let same : a.0 ≡ event = cc in
        subst IsValid same (event-valid word d a.0 a.1)

line-valid : (line : List ℕ) (event : NodeEvent) → lines.line_of line ≡ Ok (kinds.Event event) → IsValid event
unfolding lines.line_of
line-valid line event e =
    let d = bind_ok (value_of line) _ (kinds.Event event) e in
    let word = bind_ok (text_at (codes "do") d.0) _ (kinds.Event event) d.2 in
    word-valid word.0 d.0 event word.2

pub taken-valid : (m : NodeMachine) (line : List ℕ) → IsValidEvent (taken m line)
taken-valid m line = go (lines.line_of line) refl
  where
    unless : (event : NodeEvent) (o : Option NotTaken) → IsValid event → IsValidEvent (taken_unless o event)
    unless event None valid = valid
    unless event (Some why) valid = tt

    go : (r : Result Line Invalid) → lines.line_of line ≡ r → IsValidEvent (taken_of m (event_in r))
    go (Err fault) is = tt
    go (Ok (kinds.Query query)) is = tt
    go (Ok (kinds.Event event)) is = unless event (refusal m event) (line-valid line event is)
