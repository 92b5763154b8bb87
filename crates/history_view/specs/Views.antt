-- Views: what is known of a history, and what one more entry makes of it.
pub use Rattle.call_history.specs.Viewed.{unknown, is_of, view_of, views_with, is_paid, paid_amount, paid_with}
use Rattle.std.specs.Prelude.{ℕ, ◌+◌, ◌-◌, ◌==◌, Bool, nat_lt, List, [], ◌∷◌, Option, Some, None, if◌then◌else◌}
use Rattle.std.specs.Option.{option_map}
use Rattle.channel_values.specs.Parts.{FixedParts}
use Rattle.channel_values.specs.declared.chain.Chain.{Chain}
use Rattle.channel_values.specs.declared.chain.Signed.{Signed}
use Rattle.channel_values.specs.declared.value.Dest.{Dest}
use Rattle.channel_values.specs.declared.value.Dest.TheVariants.{Person, Channel}
use Rattle.channel_values.specs.Rules.{top_turn}
use Rattle.call_history.specs.Marked.{marked_of, chain_of, answered}
use Rattle.call_history.specs.Rest.{lower_outcome}
use Rattle.call_history.specs.Rows.{fixed_of}
use Rattle.call_history.specs.Tables.{found, changed}
use Rattle.call_history.specs.Told.{told_row}
use Rattle.call_history.specs.History.{or_before, time_set, settles, flow_of, payment_of}
use Rattle.call_history.specs.declared.call.Call.TheVariants.{Challenge, Respond, Checkpoint, Conclude}
use Rattle.call_history.specs.declared.call.Op.{Op}
use Rattle.call_history.specs.declared.call.Op.TheVariants as ops
use Rattle.call_history.specs.declared.entry.Entry.{Entry}
use Rattle.call_history.specs.declared.funds.Flow.{Flow}
use Rattle.call_history.specs.declared.funds.Payment.{Payment}
use Rattle.call_history.specs.declared.view.ChannelView.{ChannelView}
use Rattle.call_history.specs.declared.view.WorldView.{WorldView}

-- ---- what a channel holds of an asset

abbrev pub is_in : ℕ → ℕ × ℕ → Bool
is_in asset balance = balance.0 == asset

abbrev pub held_amount : List (ℕ × ℕ) → ℕ → ℕ
held_amount held asset = (found (is_in asset) (asset, 0) held).1

abbrev pub held_with : (ℕ → ℕ) → ℕ → List (ℕ × ℕ) → List (ℕ × ℕ)
held_with change asset held = changed (is_in asset) (λ balance. (asset, change balance.1)) (asset, 0) held

-- ---- the chain that is shown

-- the newer chain, at equal turns the later one
abbrev pub newer_shown : Option Chain → Chain → Chain
newer_shown None chain = chain
newer_shown (Some shown) chain = if nat_lt (top_turn chain.states) (top_turn shown.states) then shown else chain

-- the chain with its answer
abbrev pub with_answer : FixedParts → Signed → Chain → Chain
with_answer f next chain = chain_of chain.fixed (answered f next (marked_of chain))

-- after an accepted turning call; while a channel is challenged the chain that is shown is the challenged one
abbrev pub shown_after : Op → Option Chain → Option Chain
shown_after (ops.Call (Challenge k)) before = Some (newer_shown before k.chain)
shown_after (ops.Call (Respond k)) before = option_map (with_answer k.fixed k.next) before
shown_after (ops.Call (Checkpoint chain)) before = Some (newer_shown before chain)
shown_after (ops.Call (Conclude chain)) before = Some (newer_shown before chain)
shown_after _ before = before

-- ---- turning calls

-- of which the recorded turn and the deadline are known
abbrev pub channel_turned : Op → ℕ × Option ℕ → ChannelView → ChannelView
channel_turned op told v =
    record v {
      turn = told.0;
      deadline = told.1;
      shown = shown_after op v.shown;
      settled = settles op v.settled;
      rest = settles op v.rest;
    }

-- `named` names channels by their fixed parts
abbrev pub views_turned :
    (FixedParts → List ℕ) → Op → Option FixedParts → Option (ℕ × Option ℕ) → List ChannelView → List ChannelView
views_turned named op None told views = views
views_turned named op (Some f) None views = views
views_turned named op (Some f) (Some told) views = views_with (channel_turned op told) (named f) views

-- ---- flows

abbrev pub channel_gave : ℕ → ℕ → ChannelView → ChannelView
channel_gave asset amount v = record v { held = held_with (λ n. n - amount) asset v.held }

abbrev pub channel_got : ℕ → ℕ → ChannelView → ChannelView
channel_got asset amount v = record v { held = held_with (λ n. n + amount) asset v.held }

abbrev pub views_gave : Option (List ℕ) → ℕ → ℕ → List ChannelView → List ChannelView
views_gave None asset amount views = views
views_gave (Some source) asset amount views = views_with (channel_gave asset amount) source views

abbrev pub views_got : Dest → ℕ → ℕ → List ChannelView → List ChannelView
views_got (Person person) asset amount views = views
views_got (Channel channel) asset amount views = views_with (channel_got asset amount) channel views

abbrev pub views_moved : List Flow → List ChannelView → List ChannelView
views_moved [] views = views
views_moved (flow ∷ flows) views =
    views_moved flows (views_got flow.to flow.asset flow.amount (views_gave flow.from flow.asset flow.amount views))

abbrev pub paid_got : Dest → ℕ → ℕ → List (List ℕ × ℕ × ℕ) → List (List ℕ × ℕ × ℕ)
paid_got (Person person) asset amount paid = paid_with (λ n. n + amount) person asset paid
paid_got (Channel channel) asset amount paid = paid

abbrev pub paid_moved : List Flow → List (List ℕ × ℕ × ℕ) → List (List ℕ × ℕ × ℕ)
paid_moved [] paid = paid
paid_moved (flow ∷ flows) paid = paid_moved flows (paid_got flow.to flow.asset flow.amount paid)

-- ---- payments of items

abbrev pub channel_paid : Payment → ChannelView → ChannelView
channel_paid payment v =
    record v { rest = option_map (λ outcome. lower_outcome outcome payment.asset payment.place payment.amount) v.rest }

abbrev pub views_paid : List Payment → List ChannelView → List ChannelView
views_paid [] views = views
views_paid (payment ∷ payments) views =
    views_paid payments (views_with (channel_paid payment) payment.channel views)

-- ---- one more entry

abbrev pub followed : (FixedParts → List ℕ) → Entry → WorldView → WorldView
followed named e w =
    record {
      now = or_before (time_set e.op e.reply) w.now;
      count = e.number;
      channels =
          views_paid (payment_of e.op e.reply)
          (views_moved (flow_of e.op e.reply)
          (views_turned named e.op (fixed_of e.op) (told_row w.now e.op e.reply) w.channels));
      paid = paid_moved (flow_of e.op e.reply) w.paid;
    }

-- what is known of no entry
abbrev pub unseen : WorldView
unseen = record { now = 0; count = 0; channels = []; paid = [] }

-- ---- which entries a view can follow
