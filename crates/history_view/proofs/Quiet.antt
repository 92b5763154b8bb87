-- A call that pays turns no row.
use Rattle.std.proofs.Common.{◌≡◌, ℕ, List, [], None, Some, refl, sym, subst}
use Rattle.std.specs.Prelude.{Option}
use Rattle.channel_values.specs.Parts.{FixedParts}
use Rattle.call_history.specs.Told.{told_row}
use Rattle.call_history.specs.Rows.{fixed_of}
use Rattle.call_history.specs.History.{flow_of}
use Rattle.call_history.specs.declared.call.Call.TheVariants.{Deposit, Challenge, Respond, Refute, Checkpoint, Conclude, Transfer, Claim}
use Rattle.call_history.specs.declared.call.Op.{Op}
use Rattle.call_history.specs.declared.call.Op.TheVariants as ops
use Rattle.call_history.specs.declared.refusal.Reply.{Reply}
use Rattle.call_history.specs.declared.refusal.Reply.TheVariants.{Held, Until, Opened, Concluded, Paid, Now, No}
use Rattle.call_history.specs.declared.view.ChannelView.{ChannelView}
use Rattle.history_view.specs.Views.{views_turned}
use Rattle.history_view.specs.Room.{HaveRoom}

untold : (named : FixedParts → List ℕ) (op : Op) (f : Option FixedParts) (views : List ChannelView) → views_turned named op f None views ≡ views
untold named op None views = refl
untold named op (Some f) views = refl

-- where a row is told there is no flow
no_flow_until : (op : Op) (n : ℕ) → flow_of op (Until n) ≡ []
no_flow_until (ops.Time t) n = refl
no_flow_until (ops.Call (Deposit d)) n = refl
no_flow_until (ops.Call (Challenge k)) n = refl
no_flow_until (ops.Call (Respond k)) n = refl
no_flow_until (ops.Call (Refute fixed next)) n = refl
no_flow_until (ops.Call (Checkpoint chain)) n = refl
no_flow_until (ops.Call (Conclude chain)) n = refl
no_flow_until (ops.Call (Transfer k)) n = refl
no_flow_until (ops.Call (Claim k)) n = refl

no_flow_opened : (op : Op) (n : ℕ) → flow_of op (Opened n) ≡ []
no_flow_opened (ops.Time t) n = refl
no_flow_opened (ops.Call (Deposit d)) n = refl
no_flow_opened (ops.Call (Challenge k)) n = refl
no_flow_opened (ops.Call (Respond k)) n = refl
no_flow_opened (ops.Call (Refute fixed next)) n = refl
no_flow_opened (ops.Call (Checkpoint chain)) n = refl
no_flow_opened (ops.Call (Conclude chain)) n = refl
no_flow_opened (ops.Call (Transfer k)) n = refl
no_flow_opened (ops.Call (Claim k)) n = refl

no_flow_concluded : (op : Op) (n : ℕ) → flow_of op (Concluded n) ≡ []
no_flow_concluded (ops.Time t) n = refl
no_flow_concluded (ops.Call (Deposit d)) n = refl
no_flow_concluded (ops.Call (Challenge k)) n = refl
no_flow_concluded (ops.Call (Respond k)) n = refl
no_flow_concluded (ops.Call (Refute fixed next)) n = refl
no_flow_concluded (ops.Call (Checkpoint chain)) n = refl
no_flow_concluded (ops.Call (Conclude chain)) n = refl
no_flow_concluded (ops.Call (Transfer k)) n = refl
no_flow_concluded (ops.Call (Claim k)) n = refl

none_has_room : (views : List ChannelView) (paid : List (List ℕ × ℕ × ℕ)) → HaveRoom [] views paid
none_has_room views paid = tt

-- so what has room has it after the turn too
pub room_stays : (named : FixedParts → List ℕ) (now : ℕ) (op : Op) (reply : Reply) (views : List ChannelView) (paid : List (List ℕ × ℕ × ℕ))
    → HaveRoom (flow_of op reply) views paid → HaveRoom (flow_of op reply) (views_turned named op (fixed_of op) (told_row now op reply) views) paid
room_stays named now op (Until n) views paid h =
    subst (λ flows. HaveRoom flows (views_turned named op (fixed_of op) (told_row now op (Until n)) views) paid) (sym (no_flow_until op n))
    (none_has_room (views_turned named op (fixed_of op) (told_row now op (Until n)) views) paid)
room_stays named now op (Opened n) views paid h =
    subst (λ flows. HaveRoom flows (views_turned named op (fixed_of op) (told_row now op (Opened n)) views) paid) (sym (no_flow_opened op n))
    (none_has_room (views_turned named op (fixed_of op) (told_row now op (Opened n)) views) paid)
room_stays named now op (Concluded n) views paid h =
    subst (λ flows. HaveRoom flows (views_turned named op (fixed_of op) (told_row now op (Concluded n)) views) paid) (sym (no_flow_concluded op n))
    (none_has_room (views_turned named op (fixed_of op) (told_row now op (Concluded n)) views) paid)
room_stays named now op (Held n) views paid h = subst (λ vs. HaveRoom (flow_of op (Held n)) vs paid) (sym (untold named op (fixed_of op) views)) h
room_stays named now op (Paid n) views paid h = subst (λ vs. HaveRoom (flow_of op (Paid n)) vs paid) (sym (untold named op (fixed_of op) views)) h
room_stays named now op (Now n) views paid h = subst (λ vs. HaveRoom (flow_of op (Now n)) vs paid) (sym (untold named op (fixed_of op) views)) h
room_stays named now op (No n) views paid h = subst (λ vs. HaveRoom (flow_of op (No n)) vs paid) (sym (untold named op (fixed_of op) views)) h
