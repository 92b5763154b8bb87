-- The lines that a node writes.
use Rattle.std.specs.Prelude.{ℕ, Bool, true, false, List, [], ◌++◌, codes, decimal, Option, Some, None}
use Rattle.std.specs.List.{join_by}
use Rattle.hex.specs.Hex.{encode_lower}
use Rattle.call_history.specs.Limits.{KeepsCall}
use Rattle.call_history.specs.Spelling.{call as call_bytes}
use Rattle.call_history.specs.declared.call.Call.{Call}
use Rattle.call_history.specs.declared.event.NodeRefusal.{NodeRefusal}
use Rattle.call_history.specs.declared.event.NodeRefusal.TheVariants as node_refusals
use Rattle.report_lines.specs.Text.{call_text, node_refusal_text}
use Rattle.node_lines.specs.declared.answers.AssetBalance.{AssetBalance}
use Rattle.node_lines.specs.declared.effects.Effect.{Effect}
use Rattle.node_lines.specs.declared.effects.Effect.TheVariants as effects
use Rattle.node_lines.specs.declared.errors.Why.{Why}
use Rattle.node_lines.specs.declared.errors.Why.TheVariants as whys
use Rattle.node_lines.specs.declared.ready.Ready.{Ready}

-- ---- effects of an event, which has a number

-- what is written of a call keeps the limits of its format
abbrev pub KeepsEffect : Effect → Type 0
KeepsEffect (effects.Send to bytes) = Unit {0}
KeepsEffect (effects.Call place call) = KeepsCall call
KeepsEffect (effects.Took channel turn) = Unit {0}
KeepsEffect (effects.Gained channel asset amount) = Unit {0}
KeepsEffect (effects.Refused refusal) = Unit {0}
KeepsEffect (effects.Spent used) = Unit {0}
KeepsEffect (effects.Challenged channel until) = Unit {0}
KeepsEffect (effects.Final channel) = Unit {0}
KeepsEffect (effects.Paid channel asset amount) = Unit {0}
KeepsEffect (effects.Deadline time) = Unit {0}

unfoldable pub send_text : (event : ℕ) → (to bytes : List ℕ) → List ℕ
send_text event to bytes =
    codes "{\"effect\":\"send\",\"event\":" ++ (decimal event
    ++ (codes ",\"to\":\"" ++ (encode_lower to
    ++ (codes "\",\"bytes\":\"" ++ (encode_lower bytes
    ++ codes "\"}\n")))))

-- the digits of a call's canonical bytes, and what stands before them
unfoldable pub call_front : (event place : ℕ) → Call → List ℕ
call_front event place call =
    codes "{\"effect\":\"call\",\"event\":" ++ (decimal event
    ++ (codes ",\"place\":" ++ (decimal place
    ++ (codes ",\"call\":\"" ++ (encode_lower (call_bytes call)
    ++ codes "\",\"text\":\"")))))

-- a call's canonical bytes, and its words in the text of a run, with digits for all names
abbrev pub call_effect_text : (event place : ℕ) → Call → List ℕ
call_effect_text event place call = call_front event place call ++ (call_text [] call ++ codes "\"}\n")

unfoldable pub took_text : (event : ℕ) → (channel : List ℕ) → (turn : ℕ) → List ℕ
took_text event channel turn =
    codes "{\"effect\":\"took\",\"event\":" ++ (decimal event
    ++ (codes ",\"channel\":\"" ++ (encode_lower channel
    ++ (codes "\",\"turn\":" ++ (decimal turn
    ++ codes "}\n")))))

-- what a channel brings the node's person, with a word for how
unfoldable pub channel_amount_text : (word : List ℕ) → (event : ℕ) → (channel : List ℕ) → (asset amount : ℕ) → List ℕ
channel_amount_text word event channel asset amount =
    codes "{\"effect\":\"" ++ (word
    ++ (codes "\",\"event\":" ++ (decimal event
    ++ (codes ",\"channel\":\"" ++ (encode_lower channel
    ++ (codes "\",\"asset\":" ++ (decimal asset
    ++ (codes ",\"amount\":" ++ (decimal amount
    ++ codes "}\n")))))))))

abbrev pub refusal_number : NodeRefusal → ℕ
refusal_number node_refusals.BadBytes = 1
refusal_number node_refusals.UnknownChannel = 2
refusal_number (node_refusals.NotOpen channel mode) = 3
refusal_number (node_refusals.NotNext wanted) = 4
refusal_number node_refusals.BadSignature = 5
refusal_number node_refusals.NotAStep = 6
refusal_number (node_refusals.NotWanted stage) = 7
refusal_number (node_refusals.KeySpent used) = 8
refusal_number (node_refusals.TooMany count) = 9

abbrev pub refusal_name : NodeRefusal → List ℕ
refusal_name node_refusals.BadBytes = codes "BadBytes"
refusal_name node_refusals.UnknownChannel = codes "UnknownChannel"
refusal_name (node_refusals.NotOpen channel mode) = codes "NotOpen"
refusal_name (node_refusals.NotNext wanted) = codes "NotNext"
refusal_name node_refusals.BadSignature = codes "BadSignature"
refusal_name node_refusals.NotAStep = codes "NotAStep"
refusal_name (node_refusals.NotWanted stage) = codes "NotWanted"
refusal_name (node_refusals.KeySpent used) = codes "KeySpent"
refusal_name (node_refusals.TooMany count) = codes "TooMany"

-- the number and the name, and the words in the text of a run, which have both and the values
unfoldable pub refused_text : ℕ → NodeRefusal → List ℕ
refused_text event refusal =
    codes "{\"effect\":\"refused\",\"event\":" ++ (decimal event
    ++ (codes ",\"number\":" ++ (decimal (refusal_number refusal)
    ++ (codes ",\"name\":\"" ++ (refusal_name refusal
    ++ (codes "\",\"text\":\"" ++ (node_refusal_text [] refusal
    ++ codes "\"}\n")))))))

unfoldable pub spent_text : (event used : ℕ) → List ℕ
spent_text event used =
    codes "{\"effect\":\"spent\",\"event\":" ++ (decimal event
    ++ (codes ",\"used\":" ++ (decimal used
    ++ codes "}\n")))

unfoldable pub challenged_text : (event : ℕ) → (channel : List ℕ) → (until : ℕ) → List ℕ
challenged_text event channel until =
    codes "{\"effect\":\"challenged\",\"event\":" ++ (decimal event
    ++ (codes ",\"channel\":\"" ++ (encode_lower channel
    ++ (codes "\",\"until\":" ++ (decimal until
    ++ codes "}\n")))))

unfoldable pub final_text : (event : ℕ) → (channel : List ℕ) → List ℕ
final_text event channel =
    codes "{\"effect\":\"final\",\"event\":" ++ (decimal event
    ++ (codes ",\"channel\":\"" ++ (encode_lower channel
    ++ codes "\"}\n")))

unfoldable pub deadline_text : (event time : ℕ) → List ℕ
deadline_text event time =
    codes "{\"effect\":\"deadline\",\"event\":" ++ (decimal event
    ++ (codes ",\"time\":" ++ (decimal time
    ++ codes "}\n")))

abbrev pub effect_text : ℕ → Effect → List ℕ
effect_text event (effects.Send to bytes) = send_text event to bytes
effect_text event (effects.Call place call) = call_effect_text event place call
effect_text event (effects.Took channel turn) = took_text event channel turn
effect_text event (effects.Gained channel asset amount) = channel_amount_text (codes "gained") event channel asset amount
effect_text event (effects.Refused refusal) = refused_text event refusal
effect_text event (effects.Spent used) = spent_text event used
effect_text event (effects.Challenged channel until) = challenged_text event channel until
effect_text event (effects.Final channel) = final_text event channel
effect_text event (effects.Paid channel asset amount) = channel_amount_text (codes "paid") event channel asset amount
effect_text event (effects.Deadline time) = deadline_text event time

-- ---- errors

abbrev pub why_word : Why → List ℕ
why_word whys.Json = codes "json"
why_word whys.Shape = codes "shape"
why_word whys.Limit = codes "limit"
why_word whys.Bytes = codes "bytes"
why_word whys.Number = codes "number"
why_word whys.Waits = codes "waits"
why_word whys.Unknown = codes "unknown"
why_word whys.Reserve = codes "reserve"
why_word whys.Full = codes "full"

-- the message for a line that isn't taken
unfoldable pub error_text : Why → List ℕ
error_text why = codes "{\"effect\":\"error\",\"why\":\"" ++ (why_word why ++ codes "\"}\n")

-- ---- answers to queries

-- items with commas between them
abbrev pub listed : {A : Type 0} → (A → List ℕ) → List A → List ℕ
listed text items = join_by text (codes ",") items

abbrev pub truth_text : Bool → List ℕ
truth_text true = codes "true"
truth_text false = codes "false"

-- the digits of bytes, between quotation marks
unfoldable pub digits_text : List ℕ → List ℕ
digits_text bytes = codes "\"" ++ (encode_lower bytes ++ codes "\"")

unfoldable pub share_text : (asset amount : ℕ) → List ℕ
share_text asset amount =
    codes "{\"effect\":\"share\",\"asset\":" ++ (decimal asset
    ++ (codes ",\"amount\":" ++ (decimal amount
    ++ codes "}\n")))

-- an asset, what is mine and what is the others'
unfoldable pub asset_balance_text : AssetBalance → List ℕ
asset_balance_text b =
    codes "[" ++ (decimal b.asset
    ++ (codes "," ++ (decimal b.mine
    ++ (codes "," ++ (decimal b.others
    ++ codes "]")))))

unfoldable pub mine_text : Bool → List ℕ
mine_text mine = codes "],\"mine\":" ++ (truth_text mine ++ codes "}\n")

unfoldable pub balance_front : (channel : List ℕ) → (turn : ℕ) → List ℕ
balance_front channel turn =
    codes "{\"effect\":\"balance\",\"channel\":\"" ++ (encode_lower channel
    ++ (codes "\",\"turn\":" ++ (decimal turn
    ++ codes ",\"items\":[")))

-- what a channel has at its newest supported turn, and whether the next turn is mine
abbrev pub balance_text : (channel : List ℕ) → (turn : ℕ) → List AssetBalance → (mine : Bool) → List ℕ
balance_text channel turn balances mine =
    balance_front channel turn ++ (listed asset_balance_text balances ++ mine_text mine)

-- an asset and an amount
unfoldable pub amount_text : ℕ × ℕ → List ℕ
amount_text a = codes "[" ++ (decimal a.0 ++ (codes "," ++ (decimal a.1 ++ codes "]")))

abbrev pub exit_text : Option (List (ℕ × ℕ)) → List ℕ
exit_text None = codes "null"
exit_text (Some amounts) = codes "[" ++ (listed amount_text amounts ++ codes "]")

-- which premises hold, and what the exit takes
unfoldable pub report_text : (unforged distinct in_time : Bool) → Option (List (ℕ × ℕ)) → List ℕ
report_text unforged distinct in_time exit =
    codes "{\"effect\":\"report\",\"unforged\":" ++ (truth_text unforged
    ++ (codes ",\"distinct\":" ++ (truth_text distinct
    ++ (codes ",\"in_time\":" ++ (truth_text in_time
    ++ (codes ",\"exit\":" ++ (exit_text exit
    ++ codes "}\n")))))))

unfoldable pub plan_text : List (List ℕ) → List ℕ
plan_text channels =
    codes "{\"effect\":\"plan\",\"channels\":[" ++ (listed digits_text channels ++ codes "]}\n")

unfoldable pub chains_text : List (List ℕ) → List ℕ
chains_text chains =
    codes "{\"effect\":\"chains\",\"chains\":[" ++ (listed digits_text chains ++ codes "]}\n")

-- ---- the first line

-- how many events the file has, the mark of the last, and whose it is
unfoldable pub ready_front : Ready → List ℕ
ready_front r =
    codes "{\"effect\":\"ready\",\"n\":" ++ (decimal r.count
    ++ (codes ",\"mark\":\"" ++ (encode_lower r.mark
    ++ (codes "\",\"key\":\"" ++ (encode_lower r.key
    ++ (codes "\",\"name\":\"" ++ (encode_lower r.name
    ++ codes "\",")))))))

-- how many entries were seen, how many signatures are used, of how many, and how many calls aren't entered yet
unfoldable pub ready_end : Ready → List ℕ
ready_end r =
    codes "\"seen\":" ++ (decimal r.seen
    ++ (codes ",\"used\":" ++ (decimal r.used
    ++ (codes ",\"limit\":" ++ (decimal r.limit
    ++ (codes ",\"waits\":" ++ (decimal r.waits
    ++ codes "}\n")))))))

abbrev pub ready_text : Ready → List ℕ
ready_text r = ready_front r ++ ready_end r
