-- Entries of the ledger.
use Rattle.std.specs.Prelude.{ℕ, ◌==◌, List, [], ◌∷◌, length, if◌then◌else◌, Result, Ok, Err, codes}
use Rattle.std.specs.Int.{w64, from_be_bytes}
use Rattle.serde_json.specs.Data.{Data}
use Rattle.channel_values.specs.Reading.{all_of}
use Rattle.call_history.specs.Limits.{KeepsCall}
use Rattle.call_history.specs.Reading.{call_of}
use Rattle.call_history.specs.declared.call.Op.{Op}
use Rattle.call_history.specs.declared.call.Op.TheVariants as ops
use Rattle.call_history.specs.declared.refusal.Reply.{Reply}
use Rattle.call_bytes.specs.Reading.{reply_at}
use Rattle.node_lines.specs.Faults.{◌>>=◌, spelled}
use Rattle.node_lines.specs.Values.{keys, small_at, bytes_at}
use Rattle.node_lines.specs.declared.entries.LedgerEntry.{LedgerEntry}
use Rattle.node_lines.specs.declared.faults.Invalid.{Invalid}
use Rattle.node_lines.specs.declared.faults.Invalid.TheVariants as faults

-- the call that these bytes spell, all of them
abbrev pub call_in : List ℕ → Result Op Invalid
call_in bytes = do
  call ← spelled (call_of bytes)
  Ok (ops.Call call)

-- the time of eight bytes
abbrev pub time_in : List ℕ → Result Op Invalid
time_in bytes = if length bytes == 8 then Ok (ops.Time (from_be_bytes w64 bytes)) else Err faults.Bytes

-- a byte 1 and a call, or a byte 2 and a time
abbrev pub op_in : List ℕ → Result Op Invalid
op_in [] = Err faults.Bytes
op_in (tag ∷ bytes) = if tag == 1 then call_in bytes else (if tag == 2 then time_in bytes else Err faults.Bytes)

abbrev pub op_of : Data → Result Op Invalid
op_of d = bytes_at (codes "op") d >>= op_in

-- the reply that these bytes spell, all of them
abbrev pub reply_in : List ℕ → Result Reply Invalid
reply_in bytes = spelled (all_of reply_at bytes)

abbrev pub reply_of : Data → Result Reply Invalid
reply_of d = bytes_at (codes "reply") d >>= reply_in

-- {"do":"entry","number":1,"by":1,"op":"HEX","reply":"HEX"}
abbrev pub entry_of : Data → Result LedgerEntry Invalid
entry_of d = do
  no_more ← keys 5 d
  number ← small_at (codes "number") d
  by ← small_at (codes "by") d
  reply ← reply_of d
  op ← op_of d
  Ok (record { number = number; by = by; op = op; reply = reply })

-- the op keeps the limits of its format
abbrev pub KeepsOp : Op → Type 0
KeepsOp (ops.Call call) = KeepsCall call
KeepsOp (ops.Time time) = Unit {0}
