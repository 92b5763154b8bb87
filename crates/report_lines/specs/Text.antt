-- The lines of a history, whose entries are in the order of time, and of its balances.
use Rattle.std.specs.Prelude.{◌==◌, ℕ, List, [], ◌∷◌, ◌++◌, length, if◌then◌else◌, flat_map, codes, Option, Some, None}
use Rattle.std.specs.Fmt.{decimal}
use Rattle.hex.specs.Hex.{encode_lower}
use Rattle.channel_values.specs.Outcomes.{is_same}
use Rattle.channel_values.specs.Parts.{FixedParts, StateParts}
use Rattle.channel_values.specs.Spelling.{fixed as fixed_bytes}
use Rattle.channel_values.specs.declared.fault.StepFault.{StepFault}
use Rattle.channel_values.specs.declared.fault.StepFault.TheVariants as step_faults
use Rattle.channel_values.specs.declared.fault.SupportFault.{SupportFault}
use Rattle.channel_values.specs.declared.fault.SupportFault.TheVariants as support_faults
use Rattle.channel_values.specs.declared.value.Dest.{Dest}
use Rattle.channel_values.specs.declared.value.Dest.TheVariants.{Person, Channel}
use Rattle.channel_values.specs.Rules.{newest}
use Rattle.channel_values.specs.Digests.{name_of_channel}
use Rattle.call_history.specs.Flows.{held_in, paid_in, deposited_in, held_by_all, paid_to_all}
use Rattle.call_history.specs.History.{newest_first, now_of}
use Rattle.call_history.specs.declared.call.Call.{Call}
use Rattle.call_history.specs.declared.call.Call.TheVariants.{Deposit, Challenge, Respond, Refute, Checkpoint, Conclude, Transfer, Claim}
use Rattle.call_history.specs.declared.call.Op.{Op}
use Rattle.call_history.specs.declared.call.Op.TheVariants as ops
use Rattle.call_history.specs.declared.entry.Entry.{Entry}
use Rattle.call_history.specs.declared.funds.Flow.{Flow}
use Rattle.call_history.specs.declared.refusal.Refusal.{Refusal}
use Rattle.call_history.specs.declared.refusal.Refusal.TheVariants.{IsFinal, NotSupported, Stale, BadChallenger, NoChallenge, WrongState, WrongTurn, BadSignature, BadStep, NotNewer, NotChallengers, NotFinalState, Zero, Underheld, AssetFull, NotFinal, WrongOutcome, NoAsset, WrongKind, WrongTarget, NotListed, NoItem, NothingDue, Backwards, TooLate}
use Rattle.call_history.specs.declared.refusal.Reply.{Reply}
use Rattle.call_history.specs.declared.refusal.Reply.TheVariants.{Held, Until, Opened, Concluded, Paid, Now, No}
use Rattle.call_history.specs.declared.event.NodeRefusal.{NodeRefusal}
use Rattle.call_history.specs.declared.event.NodeRefusal.TheVariants as node_refusals
use Rattle.call_history.specs.declared.standing.Standing.{Standing}
use Rattle.call_history.specs.declared.standing.Standing.TheVariants as standings
use Rattle.asset_holder.specs.Receipts.{Pair, assets_of, receivers_of}

-- two words with a space between them
infixr 5 ◌&◌
abbrev pub ◌&◌ : List ℕ → List ℕ → List ℕ
a & b = a ++ 32 ∷ b

-- the last word of a line, and the line feed
abbrev pub ended : List ℕ → List ℕ
ended word = word ++ 10 ∷ []

-- ---- names

-- what was declared with each name, in the order of declaration
abbrev pub Labels : Type 0
Labels = List (Dest × List ℕ)

abbrev pub digits_of : Dest → List ℕ
digits_of (Person person) = encode_lower person
digits_of (Channel channel) = encode_lower channel

-- the first name that a person or a channel was declared with, else its digits
abbrev pub dest_text : Labels → Dest → List ℕ
dest_text [] dest = digits_of dest
dest_text (label ∷ labels) dest = if is_same label.0 dest then label.1 else dest_text labels dest

abbrev pub channel_text : Labels → List ℕ → List ℕ
channel_text labels channel = dest_text labels (Channel channel)

abbrev pub person_text : Labels → List ℕ → List ℕ
person_text labels person = dest_text labels (Person person)

-- of the channel with a fixed part
abbrev pub fixed_text : Labels → FixedParts → List ℕ
fixed_text labels f = channel_text labels (name_of_channel (fixed_bytes f))

-- ---- entries

abbrev pub turn_or_dash : Option StateParts → List ℕ
turn_or_dash None = codes "-"
turn_or_dash (Some s) = decimal s.turn

-- the turn of the last state of a row
abbrev pub top_text : List StateParts → List ℕ
top_text states = turn_or_dash (newest states)

abbrev pub call_text : Labels → Call → List ℕ
call_text labels (Deposit d) =
    codes "deposit" & channel_text labels d.channel & decimal d.asset & decimal d.expected & decimal d.amount
call_text labels (Challenge k) = codes "challenge" & fixed_text labels k.chain.fixed & top_text k.chain.states
call_text labels (Respond k) = codes "respond" & fixed_text labels k.fixed & decimal k.next.state.turn
call_text labels (Refute fixed next) = codes "refute" & fixed_text labels fixed & decimal next.state.turn
call_text labels (Checkpoint chain) = codes "checkpoint" & fixed_text labels chain.fixed & top_text chain.states
call_text labels (Conclude chain) = codes "conclude" & fixed_text labels chain.fixed & top_text chain.states
call_text labels (Transfer k) =
    codes "transfer" & channel_text labels k.channel & decimal k.asset & decimal k.index
call_text labels (Claim k) =
    codes "claim" & channel_text labels k.guarantor & channel_text labels k.target & decimal k.asset
    & decimal k.position

abbrev pub op_text : Labels → Op → List ℕ
op_text labels (ops.Call call) = call_text labels call
op_text labels (ops.Time t) = codes "time" & decimal t

-- the number of a broken rule of a step
abbrev pub step_fault_number : StepFault → ℕ
step_fault_number step_faults.Outcome = 1
step_fault_number step_faults.Data = 2
step_fault_number step_faults.Votes = 3
step_fault_number step_faults.Proposal = 4
step_fault_number step_faults.Raised = 5
step_fault_number step_faults.Lowered = 6
step_fault_number step_faults.EarlyFinal = 7
step_fault_number step_faults.AfterFinal = 8

-- the number of a break of a chain, its place, and the number of the broken rule
abbrev pub support_fault_text : SupportFault → List ℕ
support_fault_text support_faults.Length = codes "1"
support_fault_text (support_faults.Turn place) = codes "2" & decimal place
support_fault_text (support_faults.Step place fault) = codes "3" & decimal place & decimal (step_fault_number fault)
support_fault_text (support_faults.Signature who) = codes "4" & decimal who

-- the number and the name of a refusal, and its value
abbrev pub refusal_text : Labels → Refusal → List ℕ
refusal_text labels IsFinal = codes "1 IsFinal"
refusal_text labels (NotSupported fault) = codes "2 NotSupported" & support_fault_text fault
refusal_text labels (Stale recorded) = codes "3 Stale" & decimal recorded
refusal_text labels BadChallenger = codes "4 BadChallenger"
refusal_text labels NoChallenge = codes "5 NoChallenge"
refusal_text labels WrongState = codes "6 WrongState"
refusal_text labels (WrongTurn wanted) = codes "7 WrongTurn" & decimal wanted
refusal_text labels BadSignature = codes "8 BadSignature"
refusal_text labels (BadStep fault) = codes "9 BadStep" & decimal (step_fault_number fault)
refusal_text labels (NotNewer recorded) = codes "10 NotNewer" & decimal recorded
refusal_text labels NotChallengers = codes "11 NotChallengers"
refusal_text labels (NotFinalState place) = codes "12 NotFinalState" & decimal place
refusal_text labels Zero = codes "13 Zero"
refusal_text labels (Underheld held) = codes "14 Underheld" & decimal held
refusal_text labels (AssetFull deposited) = codes "15 AssetFull" & decimal deposited
refusal_text labels (NotFinal channel) = codes "16 NotFinal" & channel_text labels channel
refusal_text labels (WrongOutcome channel) = codes "17 WrongOutcome" & channel_text labels channel
refusal_text labels NoAsset = codes "18 NoAsset"
refusal_text labels WrongKind = codes "19 WrongKind"
refusal_text labels WrongTarget = codes "20 WrongTarget"
refusal_text labels NotListed = codes "21 NotListed"
refusal_text labels NoItem = codes "22 NoItem"
refusal_text labels (NothingDue held) = codes "23 NothingDue" & decimal held
refusal_text labels (Backwards now) = codes "24 Backwards" & decimal now
refusal_text labels TooLate = codes "25 TooLate"

abbrev pub mode_text : Standing → List ℕ
mode_text standings.Open = codes "open"
mode_text standings.Challenged = codes "challenged"
mode_text standings.Final = codes "final"

-- the number and the name of a node's refusal, and its values
abbrev pub node_refusal_text : Labels → NodeRefusal → List ℕ
node_refusal_text labels node_refusals.BadBytes = codes "1 BadBytes"
node_refusal_text labels node_refusals.UnknownChannel = codes "2 UnknownChannel"
node_refusal_text labels (node_refusals.NotOpen channel mode) =
    codes "3 NotOpen" & channel_text labels channel & mode_text mode
node_refusal_text labels (node_refusals.NotNext wanted) = codes "4 NotNext" & decimal wanted
node_refusal_text labels node_refusals.BadSignature = codes "5 BadSignature"
node_refusal_text labels node_refusals.NotAStep = codes "6 NotAStep"
node_refusal_text labels (node_refusals.NotWanted stage) = codes "7 NotWanted" & decimal stage
node_refusal_text labels (node_refusals.KeySpent used) = codes "8 KeySpent" & decimal used
node_refusal_text labels (node_refusals.TooMany count) = codes "9 TooMany" & decimal count

abbrev pub reply_text : Labels → Reply → List ℕ
reply_text labels (Held n) = codes "ok held" & decimal n
reply_text labels (Until n) = codes "ok until" & decimal n
reply_text labels (Opened n) = codes "ok open" & decimal n
reply_text labels (Concluded n) = codes "ok final" & decimal n
reply_text labels (Paid n) = codes "ok paid" & decimal n
reply_text labels (Now n) = codes "ok now" & decimal n
reply_text labels (No refusal) = codes "no" & refusal_text labels refusal

abbrev pub entry_line : Labels → Entry → List ℕ
entry_line labels e = decimal e.number & decimal e.by & op_text labels e.op & ended (reply_text labels e.reply)

abbrev pub end_line : List Entry → List ℕ
end_line h = codes "end entries" & decimal (length h) & codes "now" & ended (decimal (now_of (newest_first h)))

-- ---- assets

abbrev pub asset_line : List Flow → ℕ → List ℕ
asset_line flows asset =
    codes "asset" & decimal asset
    & codes "deposited" & decimal (deposited_in flows asset)
    & codes "held" & decimal (held_by_all flows asset)
    & codes "paid" & ended (decimal (paid_to_all flows asset))

-- ---- balances

-- a line where the balance isn't 0: its word, whose it is, the asset and the amount
unfoldable pub balance_line : List ℕ → List ℕ → ℕ → ℕ → List ℕ
balance_line word name asset amount = if amount == 0 then [] else word & name & decimal asset & ended (decimal amount)

-- what a channel holds of an asset
abbrev pub held_line : Labels → List Flow → Pair → List ℕ
held_line labels flows (Channel channel, asset) =
    balance_line (codes "held") (channel_text labels channel) asset (held_in flows channel asset)
held_line labels flows (Person person, asset) = []

-- what a person was paid of an asset
abbrev pub paid_line : Labels → List Flow → Pair → List ℕ
paid_line labels flows (Person person, asset) =
    balance_line (codes "paid") (dest_text labels (Person person)) asset (paid_in flows person asset)
paid_line labels flows (Channel channel, asset) = []

-- what channels hold and persons were paid, in the order of first receipt
abbrev pub balance_lines : Labels → List Flow → List ℕ
balance_lines labels flows =
    flat_map (asset_line flows) (assets_of flows)
    ++ flat_map (held_line labels flows) (receivers_of flows)
    ++ flat_map (paid_line labels flows) (receivers_of flows)
