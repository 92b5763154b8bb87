-- The recorded turn, the deadline and the settled outcome of a view after one more entry.
use Rattle.std.proofs.Common.{◌≡◌, ℕ, List, ◌∷◌, Bool, true, false, cond, ◌&&◌, Some, None, refl, sym, ◌∙◌, ap}
use Rattle.std.specs.Prelude.{Option}
use Rattle.std.specs.Str.{bytes_eq}
use Rattle.channel_values.specs.Parts.{FixedParts}
use Rattle.channel_values.specs.Rules.{Rules}
use Rattle.call_history.specs.Rows.{fixed_of, turned}
use Rattle.call_history.specs.Told.{told_row}
use Rattle.call_history.specs.History.{is_accepted, is_named, turning, now_of, row, reply_to, settles, settled}
use Rattle.call_history.specs.declared.entry.Entry.{Entry}
use Rattle.call_history.specs.declared.row.Row.{Row}
use Rattle.call_history.specs.declared.view.ChannelView.{ChannelView}
use Rattle.call_history.proofs.Names.{same_bytes}
use Rattle.call_history.proofs.Telling.{reply_tells, row_told, refused_tells}
use Rattle.history_view.specs.Views.{view_of, channel_turned, views_turned}
use Rattle.history_view.proofs.Accepting.{and_false}
use Rattle.history_view.proofs.Viewing.{view_with}

-- the turn and the deadline of a row
abbrev pub pair_of : Row → ℕ × Option ℕ
pair_of row = (row.turn, row.deadline)

-- the views after an entry's turning call, if it has one
abbrev pub turned_views : Rules → ℕ → Entry → List ChannelView → List ChannelView
turned_views r now e views = views_turned r.named e.op (fixed_of e.op) (told_row now e.op e.reply) views

-- the view of a channel after an entry that turns its row
abbrev pub turned_view : Rules → List ℕ → List Entry → Entry → ChannelView → ChannelView
turned_view r channel h e v = channel_turned e.op (pair_of (turned r (now_of h) e.op (row r channel h))) v

-- an entry changes the view of the channel whose row it turns
pub view_turned : (r : Rules) (channel : List ℕ) (h : List Entry) (e : Entry) (now : ℕ) (views : List ChannelView) → now ≡ now_of h → e.reply ≡ reply_to r h e.op
    → view_of (turned_views r now e views) channel ≡ cond (turning r channel e) (turned_view r channel h e (view_of views channel)) (view_of views channel)
view_turned r channel h e now views time replied = by_fixed (fixed_of e.op) refl
  where
    old : ChannelView
    old = view_of views channel

    new : List ℕ → ChannelView
    new name = turned_view r name h e old

    told_is : (f : FixedParts) → fixed_of e.op ≡ Some f → is_accepted e.reply ≡ true → told_row now e.op e.reply ≡ row_told (turned r (now_of h) e.op (row r (r.named f) h))
    told_is f of accepted =
        ap (λ (n : ℕ). told_row n e.op e.reply) time
        ∙ (ap (told_row (now_of h) e.op) replied ∙ reply_tells r h e.op f of (ap is_accepted (sym replied) ∙ accepted))

    at_name : (f : FixedParts) (b : Bool) → bytes_eq (r.named f) channel ≡ b → cond b (new (r.named f)) old ≡ cond b (new channel) old
    at_name f true same = ap new (same_bytes (r.named f) channel same)
    at_name f false other = refl

    by_accepted : (f : FixedParts) → fixed_of e.op ≡ Some f → (b : Bool) → is_accepted e.reply ≡ b
        → view_of (views_turned r.named e.op (Some f) (told_row now e.op e.reply) views) channel ≡ cond (b && bytes_eq (r.named f) channel) (new channel) old
    by_accepted f of true accepted =
        ap (λ (told : Option (ℕ × Option ℕ)). view_of (views_turned r.named e.op (Some f) told views) channel) (told_is f of accepted)
        ∙ (view_with (channel_turned e.op (pair_of (turned r (now_of h) e.op (row r (r.named f) h)))) (r.named f) channel views (λ v. refl)
        ∙ at_name f (bytes_eq (r.named f) channel) refl)
    by_accepted f of false refused =
        ap (λ (told : Option (ℕ × Option ℕ)). view_of (views_turned r.named e.op (Some f) told views) channel) (refused_tells now e.op e.reply refused)

    by_fixed : (o : Option FixedParts) → fixed_of e.op ≡ o
        → view_of (views_turned r.named e.op o (told_row now e.op e.reply) views) channel ≡ cond (is_accepted e.reply && is_named r channel o) (new channel) old
    by_fixed None of = sym (ap (λ (b : Bool). cond b (new channel) old) (and_false (is_accepted e.reply)))
    by_fixed (Some f) of = by_accepted f of (is_accepted e.reply) refl

-- so of each part of it
pub turn_turned : (r : Rules) (channel : List ℕ) (h : List Entry) (e : Entry) (v : ChannelView) → v.turn ≡ (row r channel h).turn
    → (cond (turning r channel e) (turned_view r channel h e v) v).turn ≡ (row r channel (e ∷ h)).turn
turn_turned r channel h e v before = go (turning r channel e)
  where
    go : (b : Bool) → (cond b (turned_view r channel h e v) v).turn ≡ (cond b (turned r (now_of h) e.op (row r channel h)) (row r channel h)).turn
    go true = refl
    go false = before

pub deadline_turned : (r : Rules) (channel : List ℕ) (h : List Entry) (e : Entry) (v : ChannelView) → v.deadline ≡ (row r channel h).deadline
    → (cond (turning r channel e) (turned_view r channel h e v) v).deadline ≡ (row r channel (e ∷ h)).deadline
deadline_turned r channel h e v before = go (turning r channel e)
  where
    go : (b : Bool) → (cond b (turned_view r channel h e v) v).deadline ≡ (cond b (turned r (now_of h) e.op (row r channel h)) (row r channel h)).deadline
    go true = refl
    go false = before

pub settled_turned : (r : Rules) (channel : List ℕ) (h : List Entry) (e : Entry) (v : ChannelView) → v.settled ≡ settled r channel h
    → (cond (turning r channel e) (turned_view r channel h e v) v).settled ≡ settled r channel (e ∷ h)
settled_turned r channel h e v before = go (turning r channel e)
  where
    go : (b : Bool) → (cond b (turned_view r channel h e v) v).settled ≡ cond b (settles e.op (settled r channel h)) (settled r channel h)
    go true = ap (settles e.op) before
    go false = before
