-- The texts of answers and error messages.
use Rattle.std.specs.Prelude.{ℕ, List, [], ◌∷◌, ◌++◌, codes, decimal}
use Rattle.hex.specs.Hex.{encode_lower}
use Rattle.call_bytes.specs.Spelling.{long, reply}
use Rattle.call_history.specs.Limits.{KeepsCall}
use Rattle.call_history.specs.Spelling.{call}
use Rattle.call_history.specs.declared.call.Op.{Op}
use Rattle.call_history.specs.declared.call.Op.TheVariants as ops
use Rattle.call_history.specs.declared.entry.Entry.{Entry}
use Rattle.report_lines.specs.Text.{◌&◌, op_text, reply_text}
use Rattle.lasting_ledger.specs.declared.events.Invalid.{Invalid}
use Rattle.lasting_ledger.specs.declared.events.Invalid.TheVariants as faults

-- ---- entries

-- what is written of an op keeps the limits of its format
abbrev pub KeepsOp : Op → Type 0
KeepsOp (ops.Call c) = KeepsCall c
KeepsOp (ops.Time t) = Unit {0}

-- the bytes of an op, as records of runs have them
unfoldable pub op_bytes : Op → List ℕ
op_bytes (ops.Call c) = 1 ∷ call c
op_bytes (ops.Time t) = 2 ∷ long t

-- the op and the reply in the words of a run's text, with digits for all names
abbrev pub words_of : Entry → List ℕ
words_of e = op_text [] e.op & reply_text [] e.reply

unfoldable pub entry_text : (number by : ℕ) → (op reply words : List ℕ) → List ℕ
entry_text number by op reply words =
    codes "{\"effect\":\"entry\",\"number\":" ++ (decimal number
    ++ (codes ",\"by\":" ++ (decimal by
    ++ (codes ",\"op\":\"" ++ (encode_lower op
    ++ (codes "\",\"reply\":\"" ++ (encode_lower reply
    ++ (codes "\",\"text\":\"" ++ (words
    ++ codes "\"}\n")))))))))

-- the answer for an entry
abbrev pub entry_answer : Entry → List ℕ
entry_answer e = entry_text e.number e.by (op_bytes e.op) (reply e.reply) (words_of e)

-- ---- errors

abbrev pub fault_word : Invalid → List ℕ
fault_word faults.Json = codes "json"
fault_word faults.Shape = codes "shape"
fault_word faults.Limit = codes "limit"
fault_word faults.Call = codes "call"
fault_word faults.Full = codes "full"

-- the message for a line that is no event
unfoldable pub error_text : Invalid → List ℕ
error_text fault = codes "{\"effect\":\"error\",\"why\":\"" ++ (fault_word fault ++ codes "\"}\n")
