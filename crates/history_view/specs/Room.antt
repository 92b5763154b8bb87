-- Views that have room.
use Rattle.std.specs.Prelude.{◌≡◌, ℕ, ◌+◌, ◌<◌, ◌^◌, Bool, true, nat_le, List, [], ◌∷◌, length, Option, Some, None}
use Rattle.channel_values.specs.Parts.{FixedParts}
use Rattle.channel_values.specs.declared.chain.Chain.{Chain}
use Rattle.channel_values.specs.declared.value.Dest.{Dest}
use Rattle.channel_values.specs.declared.value.Dest.TheVariants.{Person, Channel}
use Rattle.call_history.specs.Rows.{fixed_of}
use Rattle.call_history.specs.Told.{told_row}
use Rattle.call_history.specs.History.{flow_of}
use Rattle.call_history.specs.declared.call.Call.TheVariants.{Respond}
use Rattle.call_history.specs.declared.call.Op.{Op}
use Rattle.call_history.specs.declared.call.Op.TheVariants as ops
use Rattle.call_history.specs.declared.entry.Entry.{Entry}
use Rattle.call_history.specs.declared.funds.Flow.{Flow}
use Rattle.call_history.specs.declared.view.ChannelView.{ChannelView}
use Rattle.call_history.specs.declared.view.WorldView.{WorldView}
use Rattle.history_view.specs.Views.{view_of, held_amount, paid_amount, views_gave}

-- what a channel or a person gets, added to what it has, stays below 2^64
abbrev pub HasRoom : Dest → ℕ → ℕ → List ChannelView → List (List ℕ × ℕ × ℕ) → Type 0
HasRoom (Person person) asset amount views paid = paid_amount paid person asset + amount < 2 ^ 64
HasRoom (Channel channel) asset amount views paid = held_amount (view_of views channel).held asset + amount < 2 ^ 64

abbrev pub HaveRoom : List Flow → List ChannelView → List (List ℕ × ℕ × ℕ) → Type 0
HaveRoom [] views paid = Unit {0}
HaveRoom (flow ∷ flows) views paid =
    HasRoom flow.to flow.asset flow.amount (views_gave flow.from flow.asset flow.amount views) paid

-- an answer is added to a chain of at most 255 states, since a place is one byte
abbrev pub is_short : Op → Option Chain → Bool
is_short (ops.Call (Respond k)) (Some shown) = nat_le (length shown.states) 255
is_short _ _ = true

-- where the call turns its channel
abbrev pub turns_short :
    (FixedParts → List ℕ) → Op → Option FixedParts → Option (ℕ × Option ℕ) → List ChannelView → Bool
turns_short named op None told views = true
turns_short named op (Some f) None views = true
turns_short named op (Some f) (Some told) views = is_short op (view_of views (named f)).shown

-- the entry is the next one, what its call pays has room where it goes, and so has its answer
pub record CanFollow (named : FixedParts → List ℕ) (e : Entry) (w : WorldView) : Type 0 where
  pub next : e.number ≡ w.count + 1
  pub room : HaveRoom (flow_of e.op e.reply) w.channels w.paid
  pub short : turns_short named e.op (fixed_of e.op) (told_row w.now e.op e.reply) w.channels ≡ true
