-- What an actor that answers one challenge in two ways does.
use Rattle.std.specs.Prelude.{ℕ, ◌+◌, ◌-◌, ◌^◌, ◌%◌, ◌==◌, nat_le, Bool, false, ◌&&◌, if◌then◌else◌, List, [], slice_index_or, Option, Some, None, find}
use Rattle.std.specs.Option.{option_map}
use Rattle.std.specs.Str.{bytes_eq}
use Rattle.channel_values.specs.declared.chain.Signed.{Signed}
use Rattle.channel_values.specs.declared.value.AssetOutcome.{AssetOutcome}
use Rattle.channel_values.specs.declared.value.Dest.{Dest}
use Rattle.channel_values.specs.declared.value.Shape.{Shape}
use Rattle.channel_values.specs.declared.value.Shape.TheVariants.{Allocation, Guarantee}
use Rattle.channel_values.specs.Parts.{FixedParts, StateParts, state_with}
use Rattle.channel_values.specs.Spelling.{fixed, state}
use Rattle.support_rules.specs.Rules.{person_at}
use Rattle.channel_values.specs.Digests.{name_of_channel, digest_of_state}
use Rattle.channel_values.specs.Messages.{message_of_state}
use Rattle.channel_values.specs.Amounts.{amt, has}
use Rattle.channel_values.specs.Rows.{mover}
use Rattle.channel_values.specs.Rules.{people, newest}
use Rattle.call_history.specs.Calls.{make_respond}
use Rattle.call_history.specs.declared.call.Call.TheVariants.{Challenge}
use Rattle.call_history.specs.declared.call.Op.{Op}
use Rattle.call_history.specs.declared.call.Op.TheVariants as ops
use Rattle.call_history.specs.declared.entry.Entry.{Entry}
use Rattle.call_history.specs.declared.refusal.Reply.{Reply}
use Rattle.call_history.specs.History.{is_accepted}
use Rattle.channel_node.specs.Refusing.{moved}
use Rattle.network_rounds.specs.declared.actor.Act.{Act}
use Rattle.network_rounds.specs.declared.actor.Act.TheVariants.{Enter, Rest, Done}
use Rattle.lms_signatures.specs.Made.{made_key, made_bytes}
use Rattle.lms_signatures.specs.Signing.{Signing}
use Rattle.support_rules.specs.Steps.{persons}

-- the key is that of the participant who moves after the state
abbrev pub moves_next : List ℕ → FixedParts → Option StateParts → Bool
moves_next key f None = false
moves_next key f (Some s) = bytes_eq (slice_index_or f.keys (mover (people f) (s.turn + 1)) []) key

-- an accepted challenge on a payment channel, whose next mover has the key
abbrev pub is_answerable : List ℕ → Reply → Op → Bool
is_answerable key reply (ops.Call (Challenge k)) =
    is_accepted reply && (k.chain.fixed.app == 1 && moves_next key k.chain.fixed (newest k.chain.states))
is_answerable key reply _ = false

-- ---- the two answers

-- the person who moves to a turn, and the other one
abbrev pub giver : FixedParts → ℕ → Dest
giver f turn = person_at (persons f) (mover (people f) turn)

abbrev pub taker : FixedParts → ℕ → Dest
taker f turn = person_at (persons f) (1 - mover (people f) turn)

-- both have an item, and the first has at least 1
abbrev pub can_give : Dest → Dest → Shape → Bool
can_give from to (Allocation items) = nat_le 1 (amt items from) && has items to
can_give from to (Guarantee target list) = false

-- the first asset of which that holds
abbrev pub first_asset : Dest → Dest → List AssetOutcome → Option ℕ
first_asset from to assets = option_map (λ o. o.asset) (find (λ o. can_give from to o.shape) assets)

abbrev pub paid : FixedParts → ℕ → List AssetOutcome → ℕ → StateParts
paid f turn outcome asset = state_with turn false (moved (giver f turn) (taker f turn) asset 1 outcome) []

abbrev pub paid_if : FixedParts → ℕ → List AssetOutcome → Option StateParts
paid_if f turn outcome = option_map (paid f turn outcome) (first_asset (giver f turn) (taker f turn) outcome)

-- After an even number of signatures it repeats the outcome; after an odd one it moves 1 to the other. No state has a
-- turn of 2^48 or more.
abbrev pub next_state : ℕ → FixedParts → StateParts → Option StateParts
next_state used f s =
    if nat_le (2 ^ 48) (s.turn + 1)
    then None
    else (if used % 2 == 0 then Some (state_with (s.turn + 1) false s.outcome []) else paid_if f (s.turn + 1) s.outcome)

-- ---- what it does

abbrev pub message_of : FixedParts → StateParts → List ℕ
message_of f s = message_of_state (digest_of_state (name_of_channel (fixed f)) (state s))

-- the state with its next signature
abbrev pub signed_by : Signing → FixedParts → StateParts → Signed
signed_by s f next = record { state = next; signature = made_bytes s.seed s.id s.h s.used (message_of f next) }

-- it enters it as an answer
abbrev pub entering : Signing → FixedParts → StateParts → StateParts → Act
entering s f from next = Enter (make_respond f from (signed_by s f next))

abbrev pub entering_if : Signing → FixedParts → StateParts → Option StateParts → Act
entering_if s f from None = Rest
entering_if s f from (Some next) = entering s f from next

abbrev pub responds : Signing → FixedParts → Option StateParts → Act
responds s f None = Rest
responds s f (Some from) = entering_if s f from (next_state s.used f from)

abbrev pub answer_to : Signing → Op → Act
answer_to s (ops.Call (Challenge k)) = responds s k.chain.fixed (newest k.chain.states)
answer_to s _ = Rest

abbrev pub answer_if : Signing → Option Entry → Act
answer_if s None = Rest
answer_if s (Some e) = answer_to s e.op

-- its key
abbrev pub key_of : Signing → List ℕ
key_of s = made_key s.seed s.id s.h

-- It is done where its key, of height 5, is spent. Else it answers the oldest challenge that its key is to answer, if
-- there is one.
abbrev pub equivocated : Signing → List Entry → Act
equivocated s entries =
    if nat_le 32 s.used then Done else answer_if s (find (λ e. is_answerable (key_of s) e.reply e.op) entries)

-- what it enters takes an index of its key
abbrev pub used_once : Signing → Signing
used_once s = record s { used = s.used + 1 }

abbrev pub signer_after : Signing → Act → Signing
signer_after s (Enter call) = used_once s
signer_after s _ = s
