-- What is left of outcomes after one more entry.
use Rattle.std.proofs.Common.{◌≡◌, ℕ, ◌+◌, ◌-◌, ◌<◌, ◌≤◌, ◌^◌, Bool, true, false, ◌&&◌, cond, List, [], ◌∷◌, refl, sym, ◌∙◌, ap, arith}
use Rattle.std.specs.Prelude.{◌==◌, Option, Some, None, Result, Ok, Err, OnOk, unwrap_or}
use Rattle.std.specs.Map.{lookup}
use Rattle.std.specs.Option.{option_map}
use Rattle.std.specs.Str.{bytes_eq}
use Rattle.std.proofs.lemmas.List.Sums.{sum_by-cons, sum_by-append}
use Rattle.channel_values.specs.Parts.{FixedParts}
use Rattle.channel_values.specs.declared.value.AssetOutcome.{AssetOutcome}
use Rattle.channel_values.specs.declared.value.Dest.{Dest}
use Rattle.channel_values.specs.declared.value.Dest.TheVariants.{Person, Channel}
use Rattle.call_history.specs.Dues.{shape_in}
use Rattle.call_history.specs.Flows.{comes_from, pays, paid_of_item}
use Rattle.call_history.specs.History.{Legal, is_accepted, is_named, now_of, row, row_given, settles, settled, flow_of, payment_of, payments_of, paid_of, place_in, listed_dest, rest_of_channel}
use Rattle.call_history.specs.Naming.{name_of}
use Rattle.call_history.specs.Rest.{rest_outcome}
use Rattle.call_history.specs.Rows.{fixed_of, row_or_blank}
use Rattle.call_history.specs.Told.{told_row}
use Rattle.call_history.specs.declared.call.Call.TheVariants.{Challenge, Respond, Conclude, Transfer, Claim}
use Rattle.call_history.specs.declared.call.Op.{Op}
use Rattle.call_history.specs.declared.call.Op.TheVariants as ops
use Rattle.call_history.specs.declared.entry.Entry.{Entry}
use Rattle.call_history.specs.declared.funds.Flow.{Flow}
use Rattle.call_history.specs.declared.funds.Payment.{Payment}
use Rattle.call_history.specs.declared.refusal.Reply.{Reply}
use Rattle.call_history.specs.declared.refusal.Reply.TheVariants.{Paid}
use Rattle.call_history.specs.declared.row.Row.{Row}
use Rattle.call_history.specs.declared.view.ChannelView.{ChannelView}
use Rattle.call_history.proofs.Names.{same_bytes, bytes_eq_self}
use Rattle.adjudicator.specs.Standing.{Standing, StandsFor}
use Rattle.adjudicator.proofs.Stands.{row_found}
use Rattle.history_view.specs.Views.{unknown, view_of, held_amount, paid_amount, views_gave, views_moved}
use Rattle.history_view.specs.Room.{HasRoom, HaveRoom, is_short, turns_short, CanFollow}
use Rattle.history_view.proofs.Resting.{rest_turned, rest_follows}
use Rattle.history_view.proofs.Rooms.{held_of_source, held_of_other}
use Rattle.history_view.proofs.Turns.{turned_views, view_turned}
use Rattle.history_view.proofs.Viewing.{kept_moved}
use Rattle.support_rules.specs.Real.{real}
use Rattle.record_checker.specs.Past.{Rests, rest_in, AreRests, changed_by, changed, first_amount, moved, alone, rest_after}
use mathlib.Core.Path.{fun_ext}

-- ---- channels that an entry leaves

abbrev touches : Option (List ℕ) → List ℕ → Bool
touches None channel = false
touches (Some name) channel = bytes_eq name channel

either_way : (b : Bool) (o : Option (List AssetOutcome)) → cond b o o ≡ o
either_way true o = refl
either_way false o = refl

leaves_settled : (op : Op) (channel : List ℕ) (o : Option (List AssetOutcome)) → touches (changed_by op) channel ≡ false → cond (is_named real channel (fixed_of op)) (settles op o) o ≡ o
leaves_settled (ops.Call (Challenge k)) channel o other = ap (λ b. cond b (settles (ops.Call (Challenge k)) o) o) other
leaves_settled (ops.Call (Conclude chain)) channel o other = ap (λ b. cond b (settles (ops.Call (Conclude chain)) o) o) other
leaves_settled op channel o other = either_way (is_named real channel (fixed_of op)) o

settled_stays : (accepted : Bool) (op : Op) (channel : List ℕ) (o : Option (List AssetOutcome)) → touches (cond accepted (changed_by op) None) channel ≡ false
    → cond (accepted && is_named real channel (fixed_of op)) (settles op o) o ≡ o
settled_stays true op channel o other = leaves_settled op channel o other
settled_stays false op channel o other = refl

pays_other : (p : Payment) (channel : List ℕ) (asset place : ℕ) → bytes_eq p.channel channel ≡ false → paid_of_item (p ∷ []) channel asset place ≡ 0
pays_other p channel asset place other =
    let nothing : pays channel asset place p ≡ 0 = ap (λ (b : Bool). cond (b && ((p.asset == asset) && (p.place == place))) p.amount 0) other in
    omega (arith, sum_by-cons (pays channel asset place) p [], nothing)

pays_nothing : (op : Op) (reply : Reply) (channel : List ℕ) (asset place : ℕ) → touches (cond (is_accepted reply) (changed_by op) None) channel ≡ false → paid_of_item (payment_of op reply) channel asset place ≡ 0
pays_nothing (ops.Call (Transfer k)) (Paid n) channel asset place other =
    pays_other (record { channel = k.channel; asset = k.asset; place = k.index; amount = n }) channel asset place other
pays_nothing (ops.Call (Claim k)) (Paid n) channel asset place other =
    pays_other (record { channel = k.target; asset = k.asset; place = place_in (shape_in k.target_outcome k.asset) (listed_dest (shape_in k.guarantor_outcome k.asset) k.position); amount = n }) channel asset place other
pays_nothing op reply channel asset place other = refl

module _ (h : List Entry) (e : Entry) (channel : List ℕ) (other : touches (changed e) channel ≡ false) where
  paid_at : (asset place : ℕ) → paid_of (e ∷ h) channel asset place ≡ paid_of h channel asset place
  paid_at asset place =
      omega (arith, sum_by-append (pays channel asset place) (payment_of e.op e.reply) (payments_of h), pays_nothing e.op e.reply channel asset place other)

  paid_stays : paid_of (e ∷ h) channel ≡ paid_of h channel
  paid_stays = fun_ext (λ asset. fun_ext (λ place. paid_at asset place))

  stays : rest_of_channel real channel (e ∷ h) ≡ rest_of_channel real channel h
  stays =
      ap (λ (paid : ℕ → ℕ → ℕ). option_map (rest_outcome paid) (settled real channel (e ∷ h))) paid_stays
      ∙ ap (option_map (rest_outcome (paid_of h channel))) (settled_stays (is_accepted e.reply) e.op channel (settled real channel h) other)

-- ---- the channel that an entry changes

module _ (h : List Entry) (e : Entry) (now : ℕ) (channel : List ℕ) (rest : Option (List AssetOutcome)) where
  abbrev views : List ChannelView
  views = (alone now e.number channel rest).channels

  abbrev turned : List ChannelView
  turned = turned_views real now e views

  abbrev own : ChannelView
  own = record { channel = channel; turn = 0; deadline = None; held = []; shown = None; settled = None; rest = rest }

  before : (view_of views channel).rest ≡ rest
  before = ap (λ (b : Bool). (cond b own (unknown channel)).rest) (bytes_eq_self channel)

  follows_rest : now ≡ now_of h → Legal real (e ∷ h) → rest ≡ rest_of_channel real channel h → rest_after now e channel rest ≡ rest_of_channel real channel (e ∷ h)
  follows_rest time legal is =
      rest_follows real channel h e (views_moved (flow_of e.op e.reply) turned) (settled real channel (e ∷ h))
      (kept_moved (λ (v : ChannelView). v.rest) (flow_of e.op e.reply) turned channel (λ v held. refl)
      ∙ (ap (λ (v : ChannelView). v.rest) (view_turned real channel h e now views time legal.2)
      ∙ rest_turned real channel h e (view_of views channel) legal (before ∙ is)))

-- ---- it can be followed

none_short : (op : Op) → is_short op None ≡ true
none_short (ops.Call (Respond k)) = refl
none_short op = refl

small_sum : (held amount : ℕ) → held ≡ 0 → amount < 2 ^ 64 → held + amount < 2 ^ 64
small_sum held amount none small = omega arith

module _ (now number : ℕ) (channel : List ℕ) (rest : Option (List AssetOutcome)) where
  abbrev known : List ChannelView
  known = (alone now number channel rest).channels

  abbrev only : ChannelView
  only = record { channel = channel; turn = 0; deadline = None; held = []; shown = None; settled = None; rest = rest }

  none_shown : (b : Bool) (name : List ℕ) → (cond b only (unknown name)).shown ≡ None
  none_shown true name = refl
  none_shown false name = refl

  none_held : (b : Bool) (name : List ℕ) (asset : ℕ) → held_amount (cond b only (unknown name)).held asset ≡ 0
  none_held true name asset = refl
  none_held false name asset = refl

  short : (op : Op) (f : Option FixedParts) (told : Option (ℕ × Option ℕ)) → turns_short name_of op f told known ≡ true
  short op None told = refl
  short op (Some f) None = refl
  short op (Some f) (Some told) = ap (is_short op) (none_shown (bytes_eq channel (name_of f)) (name_of f)) ∙ none_short op

  holds_nothing : (from : Option (List ℕ)) (name : List ℕ) (asset amount : ℕ) → held_amount (view_of (views_gave from asset amount known) name).held asset ≡ 0
  holds_nothing from name asset amount = go (comes_from name from) refl
    where
      nothing : held_amount (view_of known name).held asset ≡ 0
      nothing = none_held (bytes_eq channel name) name asset

      go : (b : Bool) → comes_from name from ≡ b → held_amount (view_of (views_gave from asset amount known) name).held asset ≡ 0
      go true e = omega (arith, held_of_source from name asset amount known e, nothing)
      go false e = held_of_other from name asset amount known e ∙ nothing

  room_for : (to : Dest) (from : Option (List ℕ)) (asset amount : ℕ) → amount < 2 ^ 64 → HasRoom to asset amount (views_gave from asset amount known) []
  room_for (Person person) from asset amount small = small_sum (paid_amount [] person asset) amount refl small
  room_for (Channel name) from asset amount small = small_sum (held_amount (view_of (views_gave from asset amount known) name).held asset) amount (holds_nothing from name asset amount) small

  rooms : (flows : List Flow) → first_amount flows < 2 ^ 64 → HaveRoom flows known []
  rooms [] small = tt
  rooms (flow ∷ flows) small = room_for flow.to flow.from flow.asset flow.amount small

back_one : (n : ℕ) → 1 ≤ n → n ≡ n - 1 + 1
back_one n from = omega arith

pub can_follow : (e : Entry) (now : ℕ) (channel : List ℕ) (rest : Option (List AssetOutcome)) → 1 ≤ e.number → moved e < 2 ^ 64 → CanFollow name_of e (alone now e.number channel rest)
can_follow e now channel rest numbered small = record {
  next = back_one e.number numbered;
  room = rooms now e.number channel rest (flow_of e.op e.reply) small;
  short = short now e.number channel rest e.op (fixed_of e.op) (told_row now e.op e.reply);
}

-- ---- tables

-- where it changes none
pub none_changed : (h : List Entry) (e : Entry) (rests : Rests) → changed e ≡ None → AreRests h rests → AreRests (e ∷ h) rests
none_changed h e rests none are channel = are channel ∙ sym (stays h e channel (ap (λ (o : Option (List ℕ)). touches o channel) none))

-- where it changes this one
pub one_changed : (h : List Entry) (e : Entry) (now : ℕ) (name : List ℕ) (rest left : Option (List AssetOutcome)) (old new : Rests)
    → now ≡ now_of h → Legal real (e ∷ h) → AreRests h old → changed e ≡ Some name → rest ≡ rest_in old name → left ≡ rest_after now e name rest
    → ((channel : List ℕ) → lookup (bytes_eq channel) new ≡ cond (bytes_eq name channel) (Some left) (lookup (bytes_eq channel) old)) → AreRests (e ∷ h) new
one_changed h e now name rest left old new time legal are named is after put channel =
    ap (λ (o : Option (Option (List AssetOutcome))). unwrap_or o None) (put channel) ∙ go (bytes_eq name channel) refl
  where
    here : left ≡ rest_of_channel real name (e ∷ h)
    here = after ∙ follows_rest h e now name rest time legal (is ∙ are name)

    go : (b : Bool) → bytes_eq name channel ≡ b → unwrap_or (cond b (Some left) (lookup (bytes_eq channel) old)) None ≡ rest_of_channel real channel (e ∷ h)
    go true same = here ∙ ap (λ (n : List ℕ). rest_of_channel real n (e ∷ h)) (same_bytes name channel same)
    go false other = are channel ∙ sym (stays h e channel (ap (λ (o : Option (List ℕ)). touches o channel) named ∙ other))

pub where_ok : {A E : Type 0} (r : Result A E) (P Q : Type 0) → (P → Q) → OnOk r P → OnOk r Q
where_ok (Ok x) P Q so p = so p
where_ok (Err e) P Q so p = tt

-- ---- rows

pub row_told : (h : List Entry) (a : Standing) (channel : List ℕ) (found : Option Row) → StandsFor real h a → found ≡ row_given real channel h → row_or_blank found ≡ row real channel h
row_told h a channel found stand is = ap row_or_blank (is ∙ sym (stand.rows channel)) ∙ row_found real h a stand channel
