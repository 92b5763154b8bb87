-- A view that stands for a legal history can follow its next entry, and stands for the history with it.
use Rattle.std.proofs.Common.{◌≡◌, ℕ, ◌≤◌, Bool, true, false, ◌&&◌, List, ◌∷◌, cond, Some, None, length, refl, sym, ◌∙◌, ap, subst, arith}
use Rattle.std.specs.Prelude.{Option, nat_le}
use Rattle.std.specs.Option.{option_map}
use Rattle.std.proofs.lemmas.Bool.Decides.{nat_tests}
use Rattle.channel_values.specs.Parts.{FixedParts}
use Rattle.channel_values.specs.declared.chain.Chain.{Chain}
use Rattle.call_history.specs.Mode.{is_challenged}
use Rattle.channel_values.specs.Rules.{Rules}
use Rattle.call_history.specs.Marked.{Marked, marked_of}
use Rattle.call_history.specs.Rows.{fixed_of}
use Rattle.call_history.specs.Shown.{challenge_in, challenged}
use Rattle.call_history.specs.Told.{told_row}
use Rattle.call_history.specs.History.{is_accepted, is_named, time_set, or_before, turning, flow_of, flows_of, held_of, payment_of, rest_of_channel, settled, mode, Legal}
use Rattle.call_history.specs.declared.call.Call.TheVariants.{Challenge, Respond, Refute, Checkpoint, Conclude}
use Rattle.call_history.specs.declared.call.Op.{Op}
use Rattle.call_history.specs.declared.call.Op.TheVariants as ops
use Rattle.call_history.specs.declared.entry.Entry.{Entry}
use Rattle.call_history.specs.declared.view.ChannelView.{ChannelView}
use Rattle.call_history.specs.declared.view.WorldView.{WorldView}
use Rattle.call_history.proofs.Conservation.{within_amounts}
use Rattle.call_history.proofs.Legality.{covered}
use Rattle.call_history.proofs.Names.{bytes_eq_self}
use Rattle.call_history.proofs.Telling.{refused_tells}
use Rattle.history_view.specs.Views.{view_of, held_amount, views_moved, views_paid, followed}
use Rattle.history_view.specs.Room.{is_short, turns_short, CanFollow}
use Rattle.history_view.specs.Standing.{IsChainOf, KnowsChannel, StandsFor, UnseenStands, FollowingKeepsStanding}
use Rattle.history_view.specs.Few.{OfFew}
use Rattle.history_view.proofs.Accepting.{is_challenged_is, Tells, turning_names, turning_tells}
use Rattle.history_view.proofs.Viewing.{held_turned, IsBesideHeld, kept_moved, IsBesideRest, kept_paid}
use Rattle.history_view.proofs.Turns.{turned_views, turned_view, view_turned, turn_turned, deadline_turned, settled_turned}
use Rattle.history_view.proofs.Showing.{IsShownSo, shown_turned}
use Rattle.history_view.proofs.Funds.{can_move, amount_moved, paid_follows, have_room}
use Rattle.history_view.proofs.Resting.{rest_turned, rest_follows}

pub unseen_stands : UnseenStands
unseen_stands r = record {
  now = refl;
  count = refl;
  channels = λ channel. record {
    turn = refl;
    deadline = refl;
    held = λ asset. refl;
    shown = refl;
    challenged = λ is. absurd cc;
    short = omega arith;
    settled = refl;
    rest = refl;
  };
  paid = λ person asset. refl;
}

-- the views after the entry's turning call, then its flows, then its payment
abbrev turned : Rules → Entry → WorldView → List ChannelView
turned r e w = turned_views r w.now e w.channels

abbrev moved : Rules → Entry → WorldView → List ChannelView
moved r e w = views_moved (flow_of e.op e.reply) (turned r e w)

abbrev after : Rules → Entry → WorldView → List ChannelView
after r e w = views_paid (payment_of e.op e.reply) (moved r e w)

-- of a channel, before and after the turning call
abbrev old : WorldView → List ℕ → ChannelView
old w channel = view_of w.channels channel

abbrev new : Rules → List Entry → Entry → WorldView → List ℕ → ChannelView
new r h e w channel = cond (turning r channel e) (turned_view r channel h e (old w channel)) (old w channel)

-- ---- room for an answer

-- a chain to which an answer can be added, after an accepted call
short_in : (r : Rules) (channel : List ℕ) (h : List Entry) (op : Op) (before : Marked) → is_named r channel (fixed_of op) ≡ true → Tells r channel h op → OfFew (fixed_of op)
    → length before.states ≤ 255 → length (challenge_in op before).states ≤ 255
short_in r channel h (ops.Call (Challenge k)) before named t few short = let a = t.shows.few in omega arith
short_in r channel h (ops.Call (Respond k)) before named t few short = short
short_in r channel h (ops.Call (Refute fixed next)) before named t few short = short
short_in r channel h (ops.Call (Checkpoint chain)) before named t few short = short
short_in r channel h (ops.Call (Conclude chain)) before named t few short = short
short_in r channel h _ before named t few short = absurd cc

within : (n m : ℕ) → n ≡ m → m ≤ 255 → nat_le n 255 ≡ true
within n m e h = grind (arith, nat_tests)

same_chain : (x y : Chain) → Some x ≡ Some y → x ≡ y
same_chain x y e = cc

-- the chain that an accepted call answers
answers_short : (r : Rules) (channel : List ℕ) (h : List Entry) (op : Op) (open_one : Marked) (shown : Option Chain) → is_named r channel (fixed_of op) ≡ true → Tells r channel h op
    → (is_challenged (mode r channel h) ≡ true → IsChainOf r channel open_one shown) → length open_one.states ≤ 255 → is_short op shown ≡ true
answers_short r channel h (ops.Call (Challenge k)) open_one shown named t is few = refl
answers_short r channel h (ops.Call (Respond k)) open_one None named t is few = refl
answers_short r channel h (ops.Call (Respond k)) open_one (Some chain) named t is few = at (is t.challenged)
  where
    at : IsChainOf r channel open_one (Some chain) → nat_le (length chain.states) 255 ≡ true
    at (c, same, name, marked) =
        within (length chain.states) (length open_one.states)
        (ap (λ (x : Chain). length x.states) (same_chain chain c same) ∙ ap (λ (x : Marked). length x.states) marked) few
answers_short r channel h (ops.Call (Refute fixed next)) open_one shown named t is few = refl
answers_short r channel h (ops.Call (Checkpoint chain)) open_one shown named t is few = refl
answers_short r channel h (ops.Call (Conclude chain)) open_one shown named t is few = refl
answers_short r channel h _ open_one shown named t is few = absurd cc

none-some : {A : Type 0} (o : Option A) (x : A) → o ≡ Some x → o ≡ None → ⊥
none-some o x e f = cc

-- ---- one more entry

module _ (r : Rules) (h : List Entry) (e : Entry) (w : WorldView) (legal : Legal r (e ∷ h)) (st : StandsFor r h w) where
  at_turn : (channel : List ℕ) → view_of (turned r e w) channel ≡ new r h e w channel
  at_turn channel = view_turned r channel h e w.now w.channels st.now legal.2

  -- a part that flows and payments leave
  beside : {A : Type 0} (part : ChannelView → A) (channel : List ℕ) → IsBesideHeld part → IsBesideRest part → part (view_of (after r e w) channel) ≡ part (new r h e w channel)
  beside part channel held rest =
      kept_paid part (payment_of e.op e.reply) (moved r e w) channel rest
      ∙ (kept_moved part (flow_of e.op e.reply) (turned r e w) channel held ∙ ap part (at_turn channel))

  shown_after : (channel : List ℕ) → (view_of (after r e w) channel).shown ≡ (new r h e w channel).shown
  shown_after channel = beside (λ (v : ChannelView). v.shown) channel (λ v held. refl) (λ v rest. refl)

  shown_so : (channel : List ℕ) → IsShownSo r channel (e ∷ h) (new r h e w channel).shown
  shown_so channel =
      shown_turned r channel h e (old w channel) legal
      (record { newest = (st.channels channel).shown; open_chain = λ open_now. (st.channels channel).challenged (is_challenged_is (mode r channel h) open_now) })

  held_after : (channel : List ℕ) (asset : ℕ) → held_amount (view_of (after r e w) channel).held asset ≡ held_of (e ∷ h) channel asset
  held_after channel asset =
      kept_paid (λ (v : ChannelView). held_amount v.held asset) (payment_of e.op e.reply) (moved r e w) channel (λ v rest. refl)
      ∙ amount_moved (flows_of h) (flow_of e.op e.reply) (turned r e w) channel asset (covered r h legal.0) (can_move r h e legal.2)
      (ap (λ (held : List (ℕ × ℕ)). held_amount held asset) (held_turned r.named e.op (fixed_of e.op) (told_row w.now e.op e.reply) w.channels channel) ∙ (st.channels channel).held asset)

  rest_after : (channel : List ℕ) → (view_of (after r e w) channel).rest ≡ rest_of_channel r channel (e ∷ h)
  rest_after channel =
      rest_follows r channel h e (moved r e w) (settled r channel (e ∷ h))
      (kept_moved (λ (v : ChannelView). v.rest) (flow_of e.op e.reply) (turned r e w) channel (λ v held. refl)
      ∙ (ap (λ (v : ChannelView). v.rest) (at_turn channel) ∙ rest_turned r channel h e (old w channel) legal (st.channels channel).rest))

  short_after : (channel : List ℕ) → OfFew (fixed_of e.op) → length (challenged r channel (e ∷ h)).states ≤ 255
  short_after channel few = go (turning r channel e) refl
    where
      go : (b : Bool) → turning r channel e ≡ b → length (cond b (challenge_in e.op (challenged r channel h)) (challenged r channel h)).states ≤ 255
      go true turns =
          short_in r channel h e.op (challenged r channel h) (turning_names r channel e turns) (turning_tells r channel h e legal turns) few (st.channels channel).short
      go false quiet = (st.channels channel).short

  knows_after : OfFew (fixed_of e.op) → (channel : List ℕ) → KnowsChannel r channel (e ∷ h) (view_of (after r e w) channel)
  knows_after few channel = record {
    turn = beside (λ (v : ChannelView). v.turn) channel (λ v held. refl) (λ v rest. refl) ∙ turn_turned r channel h e (old w channel) (st.channels channel).turn;
    deadline = beside (λ (v : ChannelView). v.deadline) channel (λ v held. refl) (λ v rest. refl) ∙ deadline_turned r channel h e (old w channel) (st.channels channel).deadline;
    held = held_after channel;
    shown = ap (option_map marked_of) (shown_after channel) ∙ (shown_so channel).newest;
    challenged = λ is. subst (IsChainOf r channel (challenged r channel (e ∷ h))) (sym (shown_after channel)) ((shown_so channel).open_chain (ap is_challenged is));
    short = short_after channel few;
    settled = beside (λ (v : ChannelView). v.settled) channel (λ v held. refl) (λ v rest. refl) ∙ settled_turned r channel h e (old w channel) (st.channels channel).settled;
    rest = rest_after channel;
  }

  short_at : (f : FixedParts) (told : ℕ × Option ℕ) → fixed_of e.op ≡ Some f → told_row w.now e.op e.reply ≡ Some told → is_short e.op (view_of w.channels (r.named f)).shown ≡ true
  short_at f told of tells =
      answers_short r (r.named f) h e.op (challenged r (r.named f) h) (view_of w.channels (r.named f)).shown
      (turning_names r (r.named f) e turns) (turning_tells r (r.named f) h e legal turns)
      (λ open_now. (st.channels (r.named f)).challenged (is_challenged_is (mode r (r.named f) h) open_now)) (st.channels (r.named f)).short
    where
      accepted : (b : Bool) → is_accepted e.reply ≡ b → is_accepted e.reply ≡ true
      accepted true is = is
      accepted false is = absurd (none-some (told_row w.now e.op e.reply) told tells (refused_tells w.now e.op e.reply is))

      turns : turning r (r.named f) e ≡ true
      turns =
          ap (λ b. b && is_named r (r.named f) (fixed_of e.op)) (accepted (is_accepted e.reply) refl)
          ∙ ap (is_named r (r.named f)) of ∙ bytes_eq_self (r.named f)

  short_now : turns_short r.named e.op (fixed_of e.op) (told_row w.now e.op e.reply) w.channels ≡ true
  short_now = go (fixed_of e.op) refl (told_row w.now e.op e.reply) refl
    where
      go : (o : Option FixedParts) → fixed_of e.op ≡ o → (t : Option (ℕ × Option ℕ)) → told_row w.now e.op e.reply ≡ t → turns_short r.named e.op o t w.channels ≡ true
      go None of t tells = refl
      go (Some f) of None tells = refl
      go (Some f) of (Some told) tells = short_at f told of tells

  can_follow : CanFollow r.named e w
  can_follow = record {
    next = omega (arith, legal.1, st.count);
    room = have_room (flows_of h) (flow_of e.op e.reply) w.channels w.paid (covered r h legal.0) (can_move r h e legal.2) (within_amounts r (e ∷ h) legal) (λ channel asset. (st.channels channel).held asset) st.paid;
    short = short_now;
  }

  stands_after : OfFew (fixed_of e.op) → StandsFor r (e ∷ h) (followed r.named e w)
  stands_after few = record {
    now = ap (or_before (time_set e.op e.reply)) st.now;
    count = legal.1;
    channels = knows_after few;
    paid = λ person asset. paid_follows h e w.paid person asset (st.paid person asset);
  }

pub following_keeps_standing : FollowingKeepsStanding
following_keeps_standing r h e w legal st = record { can = can_follow r h e w legal st; stands = stands_after r h e w legal st }
