-- What a view says that channels hold and persons were paid after one more entry, and that there is room for it.
use Rattle.std.proofs.Common.{◌≡◌, ℕ, ◌+◌, ◌-◌, ◌≤◌, List, [], ◌∷◌, ◌++◌, Bool, true, false, cond, ◌&&◌, Some, None, refl, sym, ◌∙◌, ap, subst, arith}
use Rattle.std.proofs.lemmas.Bool.{eqb-true, eq-eqb}
use Rattle.std.proofs.lemmas.List.Sums.{sum_by-cons, sum_by-append}
use Rattle.std.specs.Prelude.{◌==◌, Option}
use Rattle.std.specs.Str.{bytes_eq}
use Rattle.channel_values.specs.Outcomes.{is_same}
use Rattle.channel_values.specs.declared.value.Dest.{Dest}
use Rattle.channel_values.specs.declared.value.Dest.TheVariants.{Person, Channel}
use Rattle.channel_values.specs.Rules.{Rules}
use Rattle.call_history.specs.Dues.{shape_in}
use Rattle.call_history.specs.Flows.{comes_from, brings, into, held_in, paid_in, AreCovered, AreWithinAmounts}
use Rattle.call_history.specs.History.{item_dest, listed_dest, flow_to, flow_of, flows_of, paid_to, payer_of, IsHeldBy, reply_to}
use Rattle.call_history.specs.declared.call.Call.TheVariants.{Deposit, Transfer, Claim}
use Rattle.call_history.specs.declared.call.Op.{Op}
use Rattle.call_history.specs.declared.call.Op.TheVariants as ops
use Rattle.call_history.specs.declared.entry.Entry.{Entry}
use Rattle.call_history.specs.declared.funds.Flow.{Flow}
use Rattle.call_history.specs.declared.refusal.Reply.{Reply}
use Rattle.call_history.specs.declared.refusal.Reply.TheVariants.{Held, Paid}
use Rattle.call_history.specs.declared.view.ChannelView.{ChannelView}
use Rattle.call_history.proofs.Conservation.{held_fits, paid_fits}
use Rattle.call_history.proofs.Legality.{HasSource, moved_cons, pays_what_is_held}
use Rattle.call_history.proofs.Names.{same_bytes, bytes_eq_self}
use Rattle.history_view.specs.Views.{view_of, held_amount, paid_amount, channel_gave, channel_got, views_gave, views_got, views_moved, paid_got, paid_moved}
use Rattle.history_view.specs.Room.{HasRoom, HaveRoom}
use Rattle.history_view.proofs.Viewing.{view_with, amount_with, balance_with}

-- ---- one flow

-- what the views say that a channel holds
abbrev pub amount_of : List ChannelView → List ℕ → ℕ → ℕ
amount_of views channel asset = held_amount (view_of views channel).held asset

less : (b : Bool) (k n : ℕ) → cond b (k - n) k ≡ k - cond b n 0
less true k n = refl
less false k n = omega arith

more : (b : Bool) (k n : ℕ) → cond b (k + n) k ≡ k + cond b n 0
more true k n = refl
more false k n = omega arith

amount_gave : (from : Option (List ℕ)) (asset n : ℕ) (views : List ChannelView) (channel : List ℕ) (kind : ℕ)
    → amount_of (views_gave from asset n views) channel kind ≡ amount_of views channel kind - cond (comes_from channel from) (cond (asset == kind) n 0) 0
amount_gave None asset n views channel kind = omega arith
amount_gave (Some source) asset n views channel kind =
    ap (λ (v : ChannelView). held_amount v.held kind) (view_with (channel_gave asset n) source channel views (λ v. refl)) ∙ either (bytes_eq source channel)
  where
    old : ChannelView
    old = view_of views channel

    either : (b : Bool) → held_amount (cond b (channel_gave asset n old) old).held kind ≡ held_amount old.held kind - cond b (cond (asset == kind) n 0) 0
    either true = amount_with (λ k. k - n) asset kind old.held ∙ less (asset == kind) (held_amount old.held kind) n
    either false = omega arith

amount_got : (to : Dest) (asset n : ℕ) (views : List ChannelView) (channel : List ℕ) (kind : ℕ)
    → amount_of (views_got to asset n views) channel kind ≡ amount_of views channel kind + cond (is_same to (Channel channel)) (cond (asset == kind) n 0) 0
amount_got (Person person) asset n views channel kind = omega arith
amount_got (Channel target) asset n views channel kind =
    ap (λ (v : ChannelView). held_amount v.held kind) (view_with (channel_got asset n) target channel views (λ v. refl)) ∙ either (bytes_eq target channel)
  where
    old : ChannelView
    old = view_of views channel

    either : (b : Bool) → held_amount (cond b (channel_got asset n old) old).held kind ≡ held_amount old.held kind + cond b (cond (asset == kind) n 0) 0
    either true = amount_with (λ k. k + n) asset kind old.held ∙ more (asset == kind) (held_amount old.held kind) n
    either false = omega arith

-- ---- the flow of an entry

-- at most one flow, which takes no more than its channel holds
abbrev pub CanMove : List Flow → List Flow → Type 0
CanMove flows [] = Unit {0}
CanMove flows (flow ∷ []) = HasSource flows flow.from flow.asset flow.amount
CanMove flows (flow ∷ other ∷ more) = ⊥

moves_to : (flows : List Flow) (from : Option (List ℕ)) (to : Option Dest) (asset n : ℕ) → HasSource flows from asset n → CanMove flows (flow_to from to asset n)
moves_to flows from None asset n h = tt
moves_to flows from (Some to) asset n h = h

op_moves : (h : List Entry) (op : Op) (reply : Reply) → ((n : ℕ) → reply ≡ Paid n → IsHeldBy h n (payer_of op)) → CanMove (flows_of h) (flow_of op reply)
op_moves h (ops.Call (Deposit d)) (Held n) backed = tt
op_moves h (ops.Call (Transfer k)) (Paid n) backed = moves_to (flows_of h) (Some k.channel) (item_dest (shape_in k.outcome k.asset) k.index) k.asset n (backed n refl)
op_moves h (ops.Call (Claim k)) (Paid n) backed =
    moves_to (flows_of h) (Some k.guarantor) (listed_dest (shape_in k.guarantor_outcome k.asset) k.position) k.asset n (backed n refl)
op_moves h op reply backed = tt

pub can_move : (r : Rules) (h : List Entry) (e : Entry) → e.reply ≡ reply_to r h e.op → CanMove (flows_of h) (flow_of e.op e.reply)
can_move r h e replied = op_moves h e.op e.reply (λ n paid. pays_what_is_held r h e.op n (sym replied ∙ paid))

-- a flow takes no more of an asset than its channel holds of that
taken : (flows : List Flow) (from : Option (List ℕ)) (asset n : ℕ) → HasSource flows from asset n → (channel : List ℕ) (kind : ℕ) → cond (comes_from channel from) (cond (asset == kind) n 0) 0 ≤ held_in flows channel kind
taken flows None asset n h channel kind = omega arith
taken flows (Some source) asset n h channel kind = go (bytes_eq source channel) refl (asset == kind) refl
  where
    go : (s : Bool) → bytes_eq source channel ≡ s → (k : Bool) → (asset == kind) ≡ k → cond s (cond k n 0) 0 ≤ held_in flows channel kind
    go false s k e = omega arith
    go true s false e = omega arith
    go true s true e = subst (λ (c : List ℕ). n ≤ held_in flows c kind) (same_bytes source channel s) (subst (λ (a : ℕ). n ≤ held_in flows source a) (eqb-true asset kind e) h)

-- what channels hold after it
pub amount_moved : (flows moved : List Flow) (views : List ChannelView) (channel : List ℕ) (kind : ℕ) → AreCovered flows → CanMove flows moved → amount_of views channel kind ≡ held_in flows channel kind
    → amount_of (views_moved moved views) channel kind ≡ held_in (moved ++ flows) channel kind
amount_moved flows [] views channel kind covered can before = before
amount_moved flows (f ∷ []) views channel kind covered can before =
    omega (
      arith,
      before,
      amount_got f.to f.asset f.amount (views_gave f.from f.asset f.amount views) channel kind,
      amount_gave f.from f.asset f.amount views channel kind,
      taken flows f.from f.asset f.amount can channel kind,
      (moved_cons flows f covered can).held channel kind,
    )
amount_moved flows (f ∷ g ∷ more) views channel kind covered can before = absurd can

-- ---- what persons were paid

paid_one : (to : Dest) (asset n : ℕ) (paid : List (List ℕ × ℕ × ℕ)) (person : List ℕ) (kind : ℕ)
    → paid_amount (paid_got to asset n paid) person kind ≡ paid_amount paid person kind + cond (is_same to (Person person)) (cond (asset == kind) n 0) 0
paid_one (Channel channel) asset n paid person kind = omega arith
paid_one (Person who) asset n paid person kind = balance_with (λ k. k + n) who person asset kind paid ∙ go (bytes_eq who person) (asset == kind)
  where
    old : ℕ
    old = paid_amount paid person kind

    go : (a b : Bool) → cond (a && b) (old + n) old ≡ old + cond a (cond b n 0) 0
    go true true = refl
    go true false = omega arith
    go false b = omega arith

paid_moved_by : (moved : List Flow) (paid : List (List ℕ × ℕ × ℕ)) (person : List ℕ) (kind : ℕ) → paid_amount (paid_moved moved paid) person kind ≡ paid_amount paid person kind + into moved (Person person) kind
paid_moved_by [] paid person kind = omega arith
paid_moved_by (f ∷ moved) paid person kind =
    omega (
      arith,
      paid_moved_by moved (paid_got f.to f.asset f.amount paid) person kind,
      paid_one f.to f.asset f.amount paid person kind,
      sum_by-cons (brings (Person person) kind) f moved,
    )

pub paid_follows : (h : List Entry) (e : Entry) (paid : List (List ℕ × ℕ × ℕ)) (person : List ℕ) (kind : ℕ) → paid_amount paid person kind ≡ paid_to h person kind
    → paid_amount (paid_moved (flow_of e.op e.reply) paid) person kind ≡ paid_to (e ∷ h) person kind
paid_follows h e paid person kind before =
    omega (arith, before, paid_moved_by (flow_of e.op e.reply) paid person kind, sum_by-append (brings (Person person) kind) (flow_of e.op e.reply) (flows_of h))

-- ---- room

same_dest : (to : Dest) → is_same to to ≡ true
same_dest (Person person) = bytes_eq_self person
same_dest (Channel channel) = bytes_eq_self channel

all_of : (to : Dest) (asset n : ℕ) → cond (is_same to to) (cond (asset == asset) n 0) 0 ≡ n
all_of to asset n = ap (λ (b : Bool). cond b (cond (asset == asset) n 0) 0) (same_dest to) ∙ ap (λ (b : Bool). cond b n 0) (eq-eqb asset asset refl)

-- Where views and balances say what the flows so far do, and with one flow more nothing is above the largest amount,
-- there is room for it.
has_room : (flows : List Flow) (from : Option (List ℕ)) (to : Dest) (asset n : ℕ) (views : List ChannelView) (paid : List (List ℕ × ℕ × ℕ)) → AreCovered flows → HasSource flows from asset n
    → AreWithinAmounts (record { from = from; to = to; asset = asset; amount = n } ∷ flows)
    → ((channel : List ℕ) (kind : ℕ) → amount_of views channel kind ≡ held_in flows channel kind) → ((person : List ℕ) (kind : ℕ) → paid_amount paid person kind ≡ paid_in flows person kind)
    → HasRoom to asset n (views_gave from asset n views) paid
has_room flows from (Person person) asset n views paid covered source within holds were_paid =
    let f : Flow = record { from = from; to = Person person; asset = asset; amount = n } in
    omega (arith, were_paid person asset, sum_by-cons (brings (Person person) asset) f flows, all_of (Person person) asset n, paid_fits (f ∷ flows) person asset within)
has_room flows from (Channel channel) asset n views paid covered source within holds were_paid =
    let f : Flow = record { from = from; to = Channel channel; asset = asset; amount = n } in
    omega (
      arith,
      amount_moved flows (f ∷ []) views channel asset covered source (holds channel asset),
      amount_got (Channel channel) asset n (views_gave from asset n views) channel asset,
      all_of (Channel channel) asset n,
      held_fits (f ∷ flows) channel asset within,
    )

pub have_room : (flows moved : List Flow) (views : List ChannelView) (paid : List (List ℕ × ℕ × ℕ)) → AreCovered flows → CanMove flows moved → AreWithinAmounts (moved ++ flows)
    → ((channel : List ℕ) (kind : ℕ) → amount_of views channel kind ≡ held_in flows channel kind) → ((person : List ℕ) (kind : ℕ) → paid_amount paid person kind ≡ paid_in flows person kind)
    → HaveRoom moved views paid
have_room flows [] views paid covered can within holds were_paid = tt
have_room flows (f ∷ []) views paid covered can within holds were_paid = has_room flows f.from f.to f.asset f.amount views paid covered can within holds were_paid
have_room flows (f ∷ g ∷ more) views paid covered can within holds were_paid = absurd can
