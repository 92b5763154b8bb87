-- Of an asset that no channel of a view holds or held nobody was paid, and the share of it is 0.
use Rattle.std.proofs.Common.{◌≡◌, ℕ, suc, ◌+◌, ◌-◌, ◌==◌, Bool, true, false, cond, List, [], ◌∷◌, length, refl, sym, ◌∙◌, subst, arith}
use Rattle.std.specs.Prelude.{Option, Some, None, Result, Ok, Err, sum_by}
use Rattle.std.specs.List.{AllByRecursion}
use Rattle.std.proofs.lemmas.Bool.{eq-eqb}
use Rattle.std.proofs.lemmas.List.Sums.{sum_by-append, sum_by-cons}
use Rattle.channel_values.specs.Outcomes.{is_same}
use Rattle.channel_values.specs.Parts.{FixedParts}
use Rattle.channel_values.specs.declared.fault.ByteFault.{ByteFault}
use Rattle.channel_values.specs.declared.value.Dest.{Dest}
use Rattle.channel_values.specs.declared.value.Dest.TheVariants.{Person, Channel}
use Rattle.channel_values.specs.Digests.{name_of_person}
use Rattle.channel_values.specs.Rules.{Rules}
use Rattle.call_history.specs.Flows.{brings}
use Rattle.call_history.specs.History.{flow_to, flow_of, flows_of, payment_of, paid_to}
use Rattle.call_history.specs.Reading.{message_of}
use Rattle.call_history.specs.Rows.{fixed_of}
use Rattle.call_history.specs.Spelling.{Message}
use Rattle.call_history.specs.Tables.{found, changed}
use Rattle.call_history.specs.Told.{told_row}
use Rattle.call_history.specs.declared.call.Call.TheVariants.{Deposit, Transfer, Claim}
use Rattle.call_history.specs.declared.call.Op.{Op}
use Rattle.call_history.specs.declared.call.Op.TheVariants as ops
use Rattle.call_history.specs.declared.entry.Entry.{Entry}
use Rattle.call_history.specs.declared.event.Deed.{Deed}
use Rattle.call_history.specs.declared.event.Deed.TheVariants as deeds
use Rattle.call_history.specs.declared.funds.Flow.{Flow}
use Rattle.call_history.specs.declared.funds.Payment.{Payment}
use Rattle.call_history.specs.declared.refusal.Reply.{Reply}
use Rattle.call_history.specs.declared.refusal.Reply.TheVariants.{Held, Paid}
use Rattle.call_history.specs.declared.view.ChannelView.{ChannelView}
use Rattle.call_history.specs.declared.view.WorldView.{WorldView}
use Rattle.channel_safety.proofs.Tests.{clash, eqb-true}
use Rattle.history_view.specs.Views.{is_of, is_in, unknown, view_of, views_with, held_amount, held_with, channel_turned, views_turned, channel_gave, channel_got, views_got, views_moved, channel_paid, views_paid}
use Rattle.network.specs.declared.command.Command.{Command}
use Rattle.network.specs.declared.command.Command.TheVariants.{Open, OpenOn, OpenVirtual, Pay, Close, Release, Resend, Exit}
use Rattle.channel_node.specs.Minds.{Mind, saw, noted_message, did, facts_of}
use Rattle.channel_node.specs.Places.{Told, slot, mind_at}
use Rattle.plan_share.specs.Seen.{held_seen, counting_seen}
use Rattle.node_guarantees.specs.NodeShareLaws.{KnowsShare, IsUnheld, LacksAsset, UnheldIsNothing}
use Rattle.node_guarantees.proofs.Nothing.{share-none}
use Rattle.node_guarantees.proofs.Telling.{places_tell_shares}

-- ---- tables

module _ {X : Type 0} (Q : X → Type 0) (is : X → Bool) (f : X → X) (none : X) where
  -- what all rows have that are there after a change they had before it
  before : ((x : X) → is x ≡ true → Q (f x) → Q x) → (xs : List X) → AllByRecursion Q (changed is f none xs) → AllByRecursion Q xs
  before back [] all = tt
  before back (x ∷ xs) all = go (is x) refl (before back xs) all
    where
      go : (b : Bool) → is x ≡ b → (AllByRecursion Q (changed is f none xs) → AllByRecursion Q xs)
          → AllByRecursion Q (cond b (f x ∷ xs) (x ∷ changed is f none xs)) → AllByRecursion Q (x ∷ xs)
      go true here rest all = (back x here all.0, all.1)
      go false here rest all = (all.0, rest all.1)

  -- and the changed row is there
  changes : ((x : X) → Q (f x) → ⊥) → (xs : List X) → AllByRecursion Q (changed is f none xs) → ⊥
  changes never [] all = never none all.0
  changes never (x ∷ xs) all = go (is x) (changes never xs) all
    where
      go : (b : Bool) → (AllByRecursion Q (changed is f none xs) → ⊥) → AllByRecursion Q (cond b (f x ∷ xs) (x ∷ changed is f none xs)) → ⊥
      go true rest all = never x all.0
      go false rest all = rest all.1

-- ---- what is held

module _ (a : ℕ) where
  held-before : (b : ℕ) (change : ℕ → ℕ) (held : List (ℕ × ℕ)) → AllByRecursion (LacksAsset a) (held_with change b held) → AllByRecursion (LacksAsset a) held
  held-before b change held all =
      before (LacksAsset a) (is_in b) (λ balance. (b, change balance.1)) (b, 0)
      (λ x here q. subst (λ (n : ℕ). (n == a) ≡ false) (sym (eqb-true x.0 b here)) q) held all

  held-changes : (change : ℕ → ℕ) (held : List (ℕ × ℕ)) → AllByRecursion (LacksAsset a) (held_with change a held) → ⊥
  held-changes change held all =
      changes (LacksAsset a) (is_in a) (λ balance. (a, change balance.1)) (a, 0) (λ x q. clash (a == a) (eq-eqb a a refl) q) held all

  abbrev Lacks : ChannelView → Type 0
  Lacks v = AllByRecursion (LacksAsset a) v.held

  gave-before : (b amount : ℕ) (source : List ℕ) (views : List ChannelView) → IsUnheld a (views_with (channel_gave b amount) source views) → IsUnheld a views
  gave-before b amount source views all =
      before Lacks (is_of source) (channel_gave b amount) (unknown source) (λ v here q. held-before b (λ n. n - amount) v.held q) views all

  gave-changes : (amount : ℕ) (source : List ℕ) (views : List ChannelView) → IsUnheld a (views_with (channel_gave a amount) source views) → ⊥
  gave-changes amount source views all =
      changes Lacks (is_of source) (channel_gave a amount) (unknown source) (λ v q. held-changes (λ n. n - amount) v.held q) views all

  got-before : (to : Dest) (b amount : ℕ) (views : List ChannelView) → IsUnheld a (views_got to b amount views) → IsUnheld a views
  got-before (Person person) b amount views all = all
  got-before (Channel channel) b amount views all =
      before Lacks (is_of channel) (channel_got b amount) (unknown channel) (λ v here q. held-before b (λ n. n + amount) v.held q) views all

  paid-before : (payments : List Payment) (views : List ChannelView) → IsUnheld a (views_paid payments views) → IsUnheld a views
  paid-before [] views all = all
  paid-before (p ∷ payments) views all =
      before Lacks (is_of p.channel) (channel_paid p) (unknown p.channel) (λ v here q. q) views
      (paid-before payments (views_with (channel_paid p) p.channel views) all)

  turned-before : (named : FixedParts → List ℕ) (op : Op) (f : Option FixedParts) (told : Option (ℕ × Option ℕ)) (views : List ChannelView)
      → IsUnheld a (views_turned named op f told views) → IsUnheld a views
  turned-before named op None told views all = all
  turned-before named op (Some f) None views all = all
  turned-before named op (Some f) (Some told) views all =
      before Lacks (is_of (named f)) (channel_turned op told) (unknown (named f)) (λ v here q. q) views all

  -- ---- what is paid

  module _ (me : List ℕ) where
    -- what these flows pay me of the asset
    abbrev paid : List Flow → ℕ
    paid flows = sum_by (brings (Person me) a) flows

    pays-none : (f : Flow) → brings (Person me) a f ≡ 0 → paid (f ∷ []) ≡ 0
    pays-none f e = omega (arith, sum_by-cons (brings (Person me) a) f [], e)

    brings-none : (s t : Bool) (n : ℕ) → t ≡ false → cond s (cond t n 0) 0 ≡ 0
    brings-none true true n e = absurd cc
    brings-none false t n e = refl
    brings-none true false n e = refl

    -- a channel pays what it holds or held
    pays-held : (source : List ℕ) (to : Option Dest) (b n : ℕ) (views : List ChannelView) → IsUnheld a (views_moved (flow_to (Some source) to b n) views)
        → IsUnheld a views × (paid (flow_to (Some source) to b n) ≡ 0)
    pays-held source None b n views all = (all, refl)
    pays-held source (Some to) b n views all = (
      gave-before b n source views left,
      pays-none (record { from = Some source; to = to; asset = b; amount = n }) (brings-none (is_same to (Person me)) (b == a) n (other (b == a) refl)),
    )
      where
        left : IsUnheld a (views_with (channel_gave b n) source views)
        left = got-before to b n (views_with (channel_gave b n) source views) all

        other : (t : Bool) → (b == a) ≡ t → t ≡ false
        other true e = absurd (gave-changes n source views (subst (λ (k : ℕ). IsUnheld a (views_with (channel_gave k n) source views)) (eqb-true b a e) left))
        other false e = refl

    entry-pays : (op : Op) (reply : Reply) (views : List ChannelView) → IsUnheld a (views_moved (flow_of op reply) views) → IsUnheld a views × (paid (flow_of op reply) ≡ 0)
    entry-pays (ops.Call (Deposit d)) (Held n) views all = (
      got-before (Channel d.channel) d.asset d.amount views all,
      pays-none (record { from = None; to = Channel d.channel; asset = d.asset; amount = d.amount }) refl,
    )
    entry-pays (ops.Call (Transfer k)) (Paid n) views all = pays-held k.channel _ k.asset n views all
    entry-pays (ops.Call (Claim k)) (Paid n) views all = pays-held k.guarantor _ k.asset n views all
    entry-pays op reply views all = (all, refl)

-- ---- events change no view

message-view : (r : Rules) (read : Result Message ByteFault) (m : Mind) → (noted_message r read m).view ≡ m.view
message-view r (Ok message) m = refl
message-view r (Err fault) m = refl

did-view : (r : Rules) (deed : Deed) (command : Option Command) (m : Mind) → (did r deed command m).view ≡ m.view
did-view r (deeds.Commanded step None) (Some (Open g outcome)) m = refl
did-view r (deeds.Commanded step None) (Some (OpenOn o)) m = refl
did-view r (deeds.Commanded step None) (Some (OpenVirtual v)) m = refl
did-view r (deeds.Commanded step None) (Some (Pay channel asset amount)) m = refl
did-view r (deeds.Commanded step None) (Some (Close channel)) m = refl
did-view r (deeds.Commanded step None) (Some (Release how channel)) m = refl
did-view r (deeds.Commanded step None) (Some (Resend channel)) m = refl
did-view r (deeds.Commanded step None) (Some Exit) m = refl
did-view r (deeds.Commanded step None) None m = refl
did-view r (deeds.Commanded step (Some refusal)) None m = refl
did-view r (deeds.Commanded step (Some refusal)) (Some command) m = refl
did-view r (deeds.Handled bytes None) command m = message-view r (message_of bytes) m
did-view r (deeds.Handled bytes (Some refusal)) command m = refl
did-view r (deeds.Signed channel state signature) command m = refl
did-view r (deeds.SignedChallenge channel state who signature) command m = refl
did-view r (deeds.Called call) command m = refl
did-view r (deeds.Watched watcher calls) command m = refl

slot-view : (r : Rules) (k : ℕ) (front : List Told) (m : Mind) → (slot r k front m).view ≡ m.view
slot-view r k [] m = refl
slot-view r k (x ∷ front) m = go (x.seen == k) (slot-view r k front m)
  where
    go : (b : Bool) → (slot r k front m).view ≡ m.view → (cond b (did r x.deed x.command (slot r k front m)) (slot r k front m)).view ≡ m.view
    go true rest = did-view r x.deed x.command (slot r k front m) ∙ rest
    go false rest = rest

-- ---- at a place

unpaid : (r : Rules) (key : List ℕ) (front : List Told) (a : ℕ) (me : List ℕ) (past : List Entry) → IsUnheld a (mind_at r key past front).view.channels → paid_to past me a ≡ 0
unpaid r key front a me [] all = refl
unpaid r key front a me (e ∷ past) all =
    let m : Mind = mind_at r key past front in
    let turned : List ChannelView = views_turned r.named e.op (fixed_of e.op) (told_row m.view.now e.op e.reply) m.view.channels in
    let followed : IsUnheld a (views_paid (payment_of e.op e.reply) (views_moved (flow_of e.op e.reply) turned)) =
    subst (λ (v : WorldView). IsUnheld a v.channels) (slot-view r (suc (length past)) front (saw r e m)) all
    in
    let entry = entry-pays a me e.op e.reply turned (paid-before a (payment_of e.op e.reply) (views_moved (flow_of e.op e.reply) turned) followed) in
    let rest : paid_to past me a ≡ 0 =
    unpaid r key front a me past (turned-before a r.named e.op (fixed_of e.op) (told_row m.view.now e.op e.reply) m.view.channels entry.0)
    in
    omega (arith, sum_by-append (brings (Person me) a) (flow_of e.op e.reply) (flows_of past), entry.1, rest)

none-held : (a : ℕ) (held : List (ℕ × ℕ)) → AllByRecursion (LacksAsset a) held → held_amount held a ≡ 0
none-held a [] all = refl
none-held a (x ∷ held) all = go (is_in a x) all.0 (none-held a held all.1)
  where
    go : (b : Bool) → b ≡ false → held_amount held a ≡ 0 → (cond b x (found (is_in a) (a, 0) held)).1 ≡ 0
    go true e rest = absurd cc
    go false e rest = rest

none-seen : (a : ℕ) (channel : List ℕ) (views : List ChannelView) → IsUnheld a views → held_amount (view_of views channel).held a ≡ 0
none-seen a channel [] all = refl
none-seen a channel (v ∷ views) all = go (is_of channel v) (none-seen a channel views all.1)
  where
    go : (b : Bool) → held_amount (view_of views channel).held a ≡ 0 → held_amount (cond b v (view_of views channel)).held a ≡ 0
    go true rest = none-held a v.held all.0
    go false rest = rest

pub unheld_is_nothing : UnheldIsNothing
unheld_is_nothing t r s h journal past front legal plays at asset unheld =
    let m : Mind = mind_at r s.key past front in
    let knows : KnowsShare r s.key journal past front m = places_tell_shares t r s h journal past front legal plays at in
    let me : List ℕ = name_of_person m.key in
    sym (knows.shares asset)
    ∙ share-none me _ (facts_of m).plan.parts (held_seen m.view asset) (counting_seen m.view (facts_of m).known) asset
    (knows.view.paid me asset ∙ unpaid r s.key front asset me past unheld) (λ channel. none-seen asset channel m.view.channels unheld)
