-- What a watcher stands for after entries, and that its looks are the history's.
use Rattle.std.proofs.Common.{◌≡◌, ℕ, suc, List, [], ◌∷◌, Bool, true, false, cond, Some, None, length, refl, sym, ◌∙◌, ap, subst}
use Rattle.std.specs.Prelude.{Option, ◌&&◌, fold, filter, map, nat_lt}
use Rattle.std.specs.Str.{bytes_eq}
use Rattle.std.proofs.lemmas.Slice.Eq.{bytes_eq-Decides}
use Rattle.channel_values.specs.Parts.{FixedParts}
use Rattle.channel_values.specs.Spelling.{fixed}
use Rattle.channel_values.specs.Digests.{name_of_channel}
use Rattle.channel_values.specs.Rules.{Rules, top_turn}
use Rattle.call_history.specs.Mode.{mode_at, is_challenged}
use Rattle.call_history.specs.Rows.{fixed_of, turned}
use Rattle.call_history.specs.Told.{told_row}
use Rattle.call_history.specs.History.{is_accepted, is_named, turning, Legal, now_of, or_before, time_set, row, reply_to}
use Rattle.call_history.specs.declared.call.Call.TheVariants.{Checkpoint}
use Rattle.call_history.specs.declared.entry.Entry.{Entry}
use Rattle.call_history.specs.declared.held_chain.HeldChain.{HeldChain}
use Rattle.call_history.specs.declared.row.Row.{Row}
use Rattle.call_history.proofs.Tabled.{found_same, found_other}
use Rattle.call_history.proofs.Telling.{reply_tells, row_told, refused_tells}
use Rattle.call_history.specs.Naming.{NamesChannels}
use Rattle.network.specs.Watching.{Watching, unwatched, is_of, watched_row, recorded, row_with, rows_after, saw, is_stale, is_below, history_after, StandsFor}
use Rattle.network.specs.Laws.{UnseeingStands, LooksAreKept, LooksAreTheHistorys}
use Rattle.network.specs.declared.rows.Watched.{Watched}

same_name : (a b : List ℕ) → bytes_eq a b ≡ true → a ≡ b
same_name a b e = (bytes_eq-Decides a b).0 e

is_self : (a : List ℕ) → bytes_eq a a ≡ true
is_self a = (bytes_eq-Decides a a).1 refl

-- the recorded row is found under its name, and others stay
found_recorded : (new : Watched) (rows : List Watched) → watched_row (recorded new rows) new.channel ≡ new
found_recorded new rows = found_same (is_of new.channel) (λ old. new) (unwatched new.channel) rows (λ x e. is_self new.channel) (is_self new.channel)

found_beside : (new : Watched) (channel : List ℕ) (rows : List Watched) → bytes_eq new.channel channel ≡ false → watched_row (recorded new rows) channel ≡ watched_row rows channel
found_beside new channel rows other =
    found_other (is_of new.channel) (is_of channel) (λ old. new) (unwatched new.channel) (unwatched channel) rows
    (λ x e. ap (λ n. bytes_eq n channel) (same_name x.channel new.channel e) ∙ other) (λ x e. other) other

-- what is known of a channel is a row's
pub record Fits (w : Watched) (row : Row) : Type 0 where
  pub turn : w.turn ≡ row.turn
  pub deadline : w.deadline ≡ row.deadline

told_fits : (channel : List ℕ) (told : ℕ × Option ℕ) (row : Row) → Some told ≡ row_told row → Fits (row_with channel told) row
told_fits channel told row e =
    let pair : told ≡ (row.turn, row.deadline) = cc in
    record { turn = ap (λ (p : ℕ × Option ℕ). p.0) pair; deadline = ap (λ (p : ℕ × Option ℕ). p.1) pair }

-- an entry of which the row is told
turned_fits : (r : Rules) (h : List Entry) (e : Entry) (f : FixedParts) (told : ℕ × Option ℕ) (rows : List Watched) (channel : List ℕ)
    → NamesChannels r → fixed_of e.op ≡ Some f → is_accepted e.reply ≡ true
    → Some told ≡ row_told (turned r (now_of h) e.op (row r (r.named f) h))
    → Fits (watched_row rows channel) (row r channel h)
    → Fits (watched_row (recorded (row_with (name_of_channel (fixed f)) told) rows) channel) (row r channel (e ∷ h))
turned_fits r h e f told rows channel names of accepted is before = go (bytes_eq (r.named f) channel) refl
  where
    turning_is : turning r channel e ≡ bytes_eq (r.named f) channel
    turning_is = ap (λ b. b && is_named r channel (fixed_of e.op)) accepted ∙ ap (λ o. is_named r channel o) of

    after : (b : Bool) → turning r channel e ≡ b → row r channel (e ∷ h) ≡ cond b (turned r (now_of h) e.op (row r channel h)) (row r channel h)
    after b t = ap (λ x. cond x (turned r (now_of h) e.op (row r channel h)) (row r channel h)) t

    go : (b : Bool) → bytes_eq (r.named f) channel ≡ b → Fits (watched_row (recorded (row_with (name_of_channel (fixed f)) told) rows) channel) (row r channel (e ∷ h))
    go true same =
        let name : r.named f ≡ channel = same_name (r.named f) channel same in
        let here : watched_row (recorded (row_with (name_of_channel (fixed f)) told) rows) channel ≡ row_with (name_of_channel (fixed f)) told =
        ap (λ n. watched_row (recorded (row_with (name_of_channel (fixed f)) told) rows) n) (sym name ∙ names f) ∙ found_recorded (row_with (name_of_channel (fixed f)) told) rows in
        let fits : Fits (row_with (name_of_channel (fixed f)) told) (turned r (now_of h) e.op (row r channel h)) =
        told_fits (name_of_channel (fixed f)) told (turned r (now_of h) e.op (row r channel h)) (is ∙ ap (λ n. row_told (turned r (now_of h) e.op (row r n h))) name) in
        record {
          turn = ap (λ (w : Watched). w.turn) here ∙ fits.turn ∙ ap (λ (x : Row). x.turn) (sym (after true (turning_is ∙ same)));
          deadline = ap (λ (w : Watched). w.deadline) here ∙ fits.deadline ∙ ap (λ (x : Row). x.deadline) (sym (after true (turning_is ∙ same)));
        }
    go false other =
        let here : watched_row (recorded (row_with (name_of_channel (fixed f)) told) rows) channel ≡ watched_row rows channel =
        found_beside (row_with (name_of_channel (fixed f)) told) channel rows (ap (λ n. bytes_eq n channel) (sym (names f)) ∙ other) in
        record {
          turn = ap (λ (w : Watched). w.turn) here ∙ before.turn ∙ ap (λ (x : Row). x.turn) (sym (after false (turning_is ∙ other)));
          deadline = ap (λ (w : Watched). w.deadline) here ∙ before.deadline ∙ ap (λ (x : Row). x.deadline) (sym (after false (turning_is ∙ other)));
        }

-- an entry that turns no row
quiet_fits : (r : Rules) (h : List Entry) (e : Entry) (rows : List Watched) (channel : List ℕ) → turning r channel e ≡ false
    → Fits (watched_row rows channel) (row r channel h) → Fits (watched_row rows channel) (row r channel (e ∷ h))
quiet_fits r h e rows channel quiet before =
    let after : row r channel h ≡ row r channel (e ∷ h) = sym (ap (λ x. cond x (turned r (now_of h) e.op (row r channel h)) (row r channel h)) quiet) in
    record { turn = before.turn ∙ ap (λ (x : Row). x.turn) after; deadline = before.deadline ∙ ap (λ (x : Row). x.deadline) after }

and_false : (b : Bool) → (b && false) ≡ false
and_false true = refl
and_false false = refl

told_is : (r : Rules) (h : List Entry) (e : Entry) (now : ℕ) (f : FixedParts) → now ≡ now_of h → e.reply ≡ reply_to r h e.op → fixed_of e.op ≡ Some f → is_accepted e.reply ≡ true
    → told_row now e.op e.reply ≡ row_told (turned r (now_of h) e.op (row r (r.named f) h))
told_is r h e now f time replied of accepted =
    ap (λ n. told_row n e.op e.reply) time ∙ ap (λ reply. told_row (now_of h) e.op reply) replied
    ∙ reply_tells r h e.op f of (ap is_accepted (sym replied) ∙ accepted)

not_none : (t : Option (ℕ × Option ℕ)) (w : Row) → t ≡ None → t ≡ row_told w → ⊥
not_none t w a b = cc

-- an accepted turning entry, by what it says
told_fit : (r : Rules) (h : List Entry) (e : Entry) (now : ℕ) (f : FixedParts) (rows : List Watched) (channel : List ℕ) (t : Option (ℕ × Option ℕ)) → NamesChannels r
    → now ≡ now_of h → e.reply ≡ reply_to r h e.op → fixed_of e.op ≡ Some f → is_accepted e.reply ≡ true → told_row now e.op e.reply ≡ t
    → Fits (watched_row rows channel) (row r channel h) → Fits (watched_row (rows_after (Some f) t rows) channel) (row r channel (e ∷ h))
told_fit r h e now f rows channel None names time replied of accepted at before = absurd (not_none (told_row now e.op e.reply) (turned r (now_of h) e.op (row r (r.named f) h)) at (told_is r h e now f time replied of accepted))
told_fit r h e now f rows channel (Some told) names time replied of accepted at before =
    turned_fits r h e f told rows channel names of accepted (sym at ∙ told_is r h e now f time replied of accepted) before

-- an entry on a row, accepted or not
called_fit : (r : Rules) (h : List Entry) (e : Entry) (now : ℕ) (f : FixedParts) (rows : List Watched) (channel : List ℕ) (b : Bool) → NamesChannels r
    → now ≡ now_of h → e.reply ≡ reply_to r h e.op → fixed_of e.op ≡ Some f → is_accepted e.reply ≡ b
    → Fits (watched_row rows channel) (row r channel h) → Fits (watched_row (rows_after (Some f) (told_row now e.op e.reply) rows) channel) (row r channel (e ∷ h))
called_fit r h e now f rows channel true names time replied of accepted before = told_fit r h e now f rows channel (told_row now e.op e.reply) names time replied of accepted refl before
called_fit r h e now f rows channel false names time replied of refused before =
    subst (λ (t : Option (ℕ × Option ℕ)). Fits (watched_row (rows_after (Some f) t rows) channel) (row r channel (e ∷ h))) (sym (refused_tells now e.op e.reply refused))
    (quiet_fits r h e rows channel (ap (λ b. b && is_named r channel (fixed_of e.op)) refused) before)

-- an entry, on a row or not
entry_fits : (r : Rules) (h : List Entry) (e : Entry) (now : ℕ) (rows : List Watched) (channel : List ℕ) (o : Option FixedParts) → NamesChannels r
    → now ≡ now_of h → e.reply ≡ reply_to r h e.op → fixed_of e.op ≡ o
    → Fits (watched_row rows channel) (row r channel h) → Fits (watched_row (rows_after o (told_row now e.op e.reply) rows) channel) (row r channel (e ∷ h))
entry_fits r h e now rows channel None names time replied of before =
    quiet_fits r h e rows channel (ap (λ o. is_accepted e.reply && is_named r channel o) of ∙ and_false (is_accepted e.reply)) before
entry_fits r h e now rows channel (Some f) names time replied of before = called_fit r h e now f rows channel (is_accepted e.reply) names time replied of refl before

-- one more entry
pub saw_stands : (r : Rules) (h : List Entry) (w : Watching) (e : Entry) → NamesChannels r → StandsFor r h w → e.number ≡ suc (length h) → e.reply ≡ reply_to r h e.op
    → StandsFor r (e ∷ h) (saw w e)
saw_stands r h w e names st numbered replied =
    let fits : (channel : List ℕ) → Fits (watched_row (rows_after (fixed_of e.op) (told_row w.time e.op e.reply) w.rows) channel) (row r channel (e ∷ h)) =
    (λ channel. entry_fits r h e w.time w.rows channel (fixed_of e.op) names st.time replied refl (record { turn = st.turns channel; deadline = st.deadlines channel })) in
    record {
      seen = numbered;
      time = ap (or_before (time_set e.op e.reply)) st.time;
      turns = λ channel. (fits channel).turn;
      deadlines = λ channel. (fits channel).deadline;
    }

-- what comes after a history is legal only if the history is
past_legal : (r : Rules) (h entries : List Entry) → Legal r (history_after h entries) → Legal r h
past_legal r h [] legal = legal
past_legal r h (e ∷ entries) legal = (past_legal r (e ∷ h) entries legal).0

pub saw_all_stands : (r : Rules) (entries h : List Entry) (w : Watching) → NamesChannels r → StandsFor r h w → Legal r (history_after h entries)
    → StandsFor r (history_after h entries) (fold saw w entries)
saw_all_stands r [] h w names st legal = st
saw_all_stands r (e ∷ entries) h w names st legal =
    let past : Legal r (e ∷ h) = past_legal r (e ∷ h) entries legal in
    saw_all_stands r entries (e ∷ h) (saw w e) names (saw_stands r h w e names st past.1 past.2) legal

pub looks_are_kept : LooksAreKept
looks_are_kept r h entries w names st legal = saw_all_stands r entries h w names st legal

-- at the beginning
pub stands_fresh : UnseeingStands
stands_fresh r = record { seen = refl; time = refl; turns = λ channel. refl; deadlines = λ channel. refl }

-- ---- looks

stale_is_below : (r : Rules) (h : List Entry) (w : Watching) (held : HeldChain) → StandsFor r h w → is_stale w held ≡ is_below r h held
stale_is_below r h w held st =
    ap (λ d. is_challenged (mode_at d w.time) && nat_lt (watched_row w.rows held.channel).turn (top_turn held.chain.states)) (st.deadlines held.channel)
    ∙ ap (λ n. is_challenged (mode_at (row r held.channel h).deadline n) && nat_lt (watched_row w.rows held.channel).turn (top_turn held.chain.states)) st.time
    ∙ ap (λ t. is_challenged (mode_at (row r held.channel h).deadline (now_of h)) && nat_lt t (top_turn held.chain.states)) (st.turns held.channel)

filter_same : {X : Type 0} (p q : X → Bool) (xs : List X) → ((x : X) → p x ≡ q x) → filter p xs ≡ filter q xs
filter_same p q [] e = refl
filter_same {X = X} p q (x ∷ xs) e = ap (λ b. cond b (x ∷ filter p xs) (filter p xs)) (e x) ∙ ap (λ (ys : List X). cond (q x) (x ∷ ys) ys) (filter_same p q xs e)

pub checkpoints_are : LooksAreTheHistorys
checkpoints_are r h w chains st = ap (λ (ys : List HeldChain). map (λ held. Checkpoint held.chain) ys) (filter_same (is_stale w) (is_below r h) chains (λ held. stale_is_below r h w held st))
