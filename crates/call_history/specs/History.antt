-- Histories, the newest entry first: time, rows, flows, balances, what was paid of items, replies, and which histories
-- are legal.
use Rattle.std.specs.Prelude.{◌≡◌, ◌≤◌, ℕ, suc, ◌+◌, Bool, true, false, ◌&&◌, List, [], ◌∷◌, ◌++◌, length, reverse, slice_get, Option, Some, None, if◌then◌else◌}
use Rattle.std.specs.Option.{option_map}
use Rattle.std.specs.Str.{bytes_eq}
use Rattle.channel_values.specs.Parts.{FixedParts}
use Rattle.channel_values.specs.declared.value.AssetOutcome.{AssetOutcome}
use Rattle.channel_values.specs.declared.value.Dest.{Dest}
use Rattle.channel_values.specs.declared.value.Dest.TheVariants.{Channel}
use Rattle.channel_values.specs.declared.value.Shape.{Shape}
use Rattle.channel_values.specs.declared.value.Shape.TheVariants.{Allocation, Guarantee}
use Rattle.channel_values.specs.Rules.{Rules, top_outcome}
use Rattle.call_history.specs.Mode.{mode_at}
use Rattle.call_history.specs.declared.standing.Standing.{Standing}
use Rattle.call_history.specs.Refusing.{told}
use Rattle.call_history.specs.Rows.{blank, fixed_of, turned}
use Rattle.call_history.specs.Flows.{held_in, paid_in, deposited_in, paid_of_item, AreConserved}
use Rattle.call_history.specs.Dues.{place_of, shape_in}
use Rattle.call_history.specs.Rest.{rest_outcome}
use Rattle.call_history.specs.Replies as replies
use Rattle.call_history.specs.declared.call.Call.{Call}
use Rattle.call_history.specs.declared.call.Call.TheVariants.{Deposit, Challenge, Respond, Refute, Checkpoint, Conclude, Transfer, Claim}
use Rattle.call_history.specs.declared.call.Op.{Op}
use Rattle.call_history.specs.declared.call.Op.TheVariants as ops
use Rattle.call_history.specs.declared.entry.Entry.{Entry}
use Rattle.call_history.specs.declared.funds.Flow.{Flow}
use Rattle.call_history.specs.declared.funds.Payment.{Payment}
use Rattle.call_history.specs.declared.refusal.Reply.{Reply}
use Rattle.call_history.specs.declared.refusal.Reply.TheVariants.{Held, Until, Opened, Concluded, Paid, Now, No}
use Rattle.call_history.specs.declared.row.Row.{Row}

-- a list in the order of time, the newest first
abbrev pub newest_first : List Entry → List Entry
newest_first h = reverse h

abbrev pub is_accepted : Reply → Bool
is_accepted (No refusal) = false
is_accepted _ = true

-- ---- time

-- the time that an entry sets, if it does
abbrev pub time_set : Op → Reply → Option ℕ
time_set (ops.Time t) (No refusal) = None
time_set (ops.Time t) _ = Some t
time_set (ops.Call call) reply = None

abbrev pub or_before : Option ℕ → ℕ → ℕ
or_before None before = before
or_before (Some t) before = t

-- the time of the last accepted time entry, or 0
abbrev pub now_of : List Entry → ℕ
now_of [] = 0
now_of (e ∷ past) = or_before (time_set e.op e.reply) (now_of past)

-- ---- rows

abbrev pub is_named : Rules → List ℕ → Option FixedParts → Bool
is_named r channel None = false
is_named r channel (Some fixed) = bytes_eq (r.named fixed) channel

-- the entry turns the channel's row
abbrev pub turning : Rules → List ℕ → Entry → Bool
turning r channel e = is_accepted e.reply && is_named r channel (fixed_of e.op)

abbrev pub row : Rules → List ℕ → List Entry → Row
row r channel [] = blank
row r channel (e ∷ past) =
    if turning r channel e then turned r (now_of past) e.op (row r channel past) else row r channel past

-- whether there is a row
abbrev pub is_recorded : Rules → List ℕ → List Entry → Bool
is_recorded r channel [] = false
is_recorded r channel (e ∷ past) = if turning r channel e then true else is_recorded r channel past

abbrev pub row_given : Rules → List ℕ → List Entry → Option Row
row_given r channel h = if is_recorded r channel h then Some (row r channel h) else None

abbrev pub mode : Rules → List ℕ → List Entry → Standing
mode r channel h = mode_at (row r channel h).deadline (now_of h)

-- the outcome of the last accepted challenge or conclude
abbrev pub settles : Op → Option (List AssetOutcome) → Option (List AssetOutcome)
settles (ops.Call (Challenge k)) before = Some (top_outcome k.chain.states)
settles (ops.Call (Conclude chain)) before = Some (top_outcome chain.states)
settles _ before = before

abbrev pub settled : Rules → List ℕ → List Entry → Option (List AssetOutcome)
settled r channel [] = None
settled r channel (e ∷ past) =
    if turning r channel e then settles e.op (settled r channel past) else settled r channel past

-- ---- flows

-- who a transfer of an item pays, and who a claim by a guarantee pays, or none past the end
abbrev pub item_dest : Option Shape → ℕ → Option Dest
item_dest (Some (Allocation items)) index = option_map (λ item. item.to) (slice_get items index)
item_dest _ index = None

abbrev pub listed_dest : Option Shape → ℕ → Option Dest
listed_dest (Some (Guarantee target list)) position = slice_get list position
listed_dest _ position = None

abbrev pub flow_to : Option (List ℕ) → Option Dest → ℕ → ℕ → List Flow
flow_to from None asset amount = []
flow_to from (Some to) asset amount = record { from = from; to = to; asset = asset; amount = amount } ∷ []

-- the flow of an accepted call: what a transfer and a claim pay, their replies say
abbrev pub flow_of : Op → Reply → List Flow
flow_of (ops.Call (Deposit d)) (Held n) = flow_to None (Some (Channel d.channel)) d.asset d.amount
flow_of (ops.Call (Transfer k)) (Paid n) =
    flow_to (Some k.channel) (item_dest (shape_in k.outcome k.asset) k.index) k.asset n
flow_of (ops.Call (Claim k)) (Paid n) =
    flow_to (Some k.guarantor) (listed_dest (shape_in k.guarantor_outcome k.asset) k.position) k.asset n
flow_of _ _ = []

-- the flows of entries, in the order of these
abbrev pub flows_of : List Entry → List Flow
flows_of [] = []
flows_of (e ∷ past) = flow_of e.op e.reply ++ flows_of past

-- what a channel holds, what a person was paid, and what came from outside, of an asset
abbrev pub held_of : List Entry → List ℕ → ℕ → ℕ
held_of h channel asset = held_in (flows_of h) channel asset

abbrev pub paid_to : List Entry → List ℕ → ℕ → ℕ
paid_to h person asset = paid_in (flows_of h) person asset

abbrev pub deposited_of : List Entry → ℕ → ℕ
deposited_of h asset = deposited_in (flows_of h) asset

-- ---- what was paid of items

-- the place of a destination's item
abbrev pub place_in : Option Shape → Option Dest → ℕ
place_in (Some (Allocation items)) (Some to) = place_of items to
place_in _ _ = 0

-- what an accepted transfer pays of an item of its channel, and an accepted claim of an item of its target
abbrev pub payment_of : Op → Reply → List Payment
payment_of (ops.Call (Transfer k)) (Paid n) =
    record { channel = k.channel; asset = k.asset; place = k.index; amount = n } ∷ []
payment_of (ops.Call (Claim k)) (Paid n) =
    record {
      channel = k.target;
      asset = k.asset;
      place =
          place_in (shape_in k.target_outcome k.asset) (listed_dest (shape_in k.guarantor_outcome k.asset) k.position);
      amount = n;
    } ∷ []
payment_of _ _ = []

abbrev pub payments_of : List Entry → List Payment
payments_of [] = []
payments_of (e ∷ past) = payment_of e.op e.reply ++ payments_of past

-- what was paid of an item of a channel's final outcome
abbrev pub paid_of : List Entry → List ℕ → ℕ → ℕ → ℕ
paid_of h channel asset place = paid_of_item (payments_of h) channel asset place

-- what is left of the outcome that a channel settled on, if it did
abbrev pub rest_of_channel : Rules → List ℕ → List Entry → Option (List AssetOutcome)
rest_of_channel r channel h = option_map (rest_outcome (paid_of h channel)) (settled r channel h)

-- ---- replies

abbrev pub row_of_fixed : Rules → FixedParts → List Entry → Row
row_of_fixed r fixed h = row r (r.named fixed) h

-- what each call answers after a history
abbrev pub call_reply : Rules → List Entry → Call → Reply
call_reply r h (Deposit d) =
    told Held (replies.deposit (held_of h d.channel d.asset) (deposited_of h d.asset) d.expected d.amount)
call_reply r h (Challenge k) =
    told (λ new. Until (now_of h + k.chain.fixed.duration))
    (replies.challenge r (row_of_fixed r k.chain.fixed h) (now_of h) k.chain k.challenger k.signature)
call_reply r h (Respond k) =
    told (λ new. Opened new.turn) (replies.respond r (row_of_fixed r k.fixed h) (now_of h) k.fixed k.from k.next)
call_reply r h (Refute fixed next) =
    told (λ new. Opened new.turn) (replies.refute r (row_of_fixed r fixed h) (now_of h) fixed next)
call_reply r h (Checkpoint chain) =
    told (λ new. Opened new.turn) (replies.checkpoint r (row_of_fixed r chain.fixed h) (now_of h) chain)
call_reply r h (Conclude chain) =
    told (λ new. Concluded new.turn) (replies.conclude r (row_of_fixed r chain.fixed h) (now_of h) chain)
call_reply r h (Transfer k) =
    told (λ due. Paid due.amount)
    (replies.transfer r (row r k.channel h) (now_of h) (paid_of h k.channel k.asset) (held_of h k.channel k.asset)
    k.channel k.outcome k.asset k.index)
call_reply r h (Claim k) =
    told (λ due. Paid due.amount)
    (replies.claim r (row r k.guarantor h) (row r k.target h) (now_of h) (paid_of h k.target k.asset)
    (held_of h k.guarantor k.asset) k.guarantor k.guarantor_outcome k.target k.target_outcome k.asset k.position)

unfoldable pub reply_to : Rules → List Entry → Op → Reply
reply_to r h (ops.Call call) = call_reply r h call
reply_to r h (ops.Time t) = told Now (replies.time (now_of h) t)

-- ---- legal histories

-- each entry has its number, and the reply that the entries before it give
abbrev pub Legal : Rules → List Entry → Type 0
Legal r [] = Unit {0}
Legal r (e ∷ past) = Legal r past × (e.number ≡ suc (length past)) × (e.reply ≡ reply_to r past e.op)

-- of each asset, what was deposited is what the channels hold and the persons were paid
abbrev pub IsConserved : List Entry → Type 0
IsConserved h = AreConserved (flows_of h)

-- no channel holds, and no person was paid, more of an asset than was deposited of it
pub record IsWithinDeposits (h : List Entry) : Type 0 where
  pub held : (channel : List ℕ) (asset : ℕ) → held_of h channel asset ≤ deposited_of h asset
  pub paid : (person : List ℕ) (asset : ℕ) → paid_to h person asset ≤ deposited_of h asset

-- the channel that pays in an op, and the asset
abbrev pub payer_of : Op → Option (List ℕ × ℕ)
payer_of (ops.Call (Transfer k)) = Some (k.channel, k.asset)
payer_of (ops.Call (Claim k)) = Some (k.guarantor, k.asset)
payer_of _ = None

abbrev pub IsHeldBy : List Entry → ℕ → Option (List ℕ × ℕ) → Type 0
IsHeldBy h amount None = Unit {0}
IsHeldBy h amount (Some payer) = amount ≤ held_of h payer.0 payer.1

-- what is paid after h is held by the channel that pays
abbrev pub PaysWhatIsHeld : Rules → List Entry → Type 0
PaysWhatIsHeld r h = (op : Op) (amount : ℕ) → reply_to r h op ≡ Paid amount → IsHeldBy h amount (payer_of op)
