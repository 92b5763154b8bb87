-- Which channels are challenged after entries: some that were, and some that the entries touch.
use Rattle.std.proofs.Common.{◌≡◌, ◌≤◌, ◌<◌, nat_le, ℕ, List, [], ◌∷◌, ◌++◌, Bool, true, false, ◌&&◌, ◌||◌, cond, Option, Some, None, refl, sym, ◌∙◌, ap, subst, arith, true≢false, length, drop, get_or, ◌+◌, zero, suc}
use Rattle.std.specs.Prelude.{fold}
use Rattle.std.specs.List.{list_any}
use Rattle.std.specs.Str.{bytes_eq}
use Rattle.std.proofs.lemmas.Bool.{leb-true, le-leb}
use Rattle.std.proofs.lemmas.Slice.Eq.{bytes_eq-Decides}
use Rattle.indexmap.specs.IndexSet.{insert_key}
use Rattle.channel_values.specs.Parts.{FixedParts}
use Rattle.channel_values.specs.Spelling.{fixed}
use Rattle.channel_values.specs.Digests.{name_of_channel}
use Rattle.call_history.specs.Mode.{mode_at, is_challenged}
use Rattle.call_history.specs.declared.standing.Standing.TheVariants.{Final, Challenged}
use Rattle.call_history.specs.Rows.{fixed_of}
use Rattle.call_history.specs.Told.{told_row}
use Rattle.call_history.specs.History.{time_set, or_before}
use Rattle.call_history.specs.declared.entry.Entry.{Entry}
use Rattle.call_history.proofs.Tabled.{found_other}
use Rattle.network.specs.Watching.{Watching, unwatched, is_of, watched_row, recorded, row_with, rows_after, saw}
use Rattle.network.specs.declared.rows.Watched.{Watched}
use Rattle.watchtower.specs.Towers.{is_rising}
use Rattle.watchtower.specs.Holding.{is_open, AreNoted}
use Rattle.watchtower.specs.Looking.{noting, noting_of, noted_after}

pub same_name : (a b : List ℕ) → bytes_eq a b ≡ true → a ≡ b
same_name a b e = (bytes_eq-Decides a b).0 e

pub is_self : (a : List ℕ) → bytes_eq a a ≡ true
is_self a = (bytes_eq-Decides a a).1 refl

pub or-true : (b : Bool) → (b || true) ≡ true
or-true true = refl
or-true false = refl

pub and_both : (a b : Bool) → (a && b) ≡ true → (a ≡ true) × (b ≡ true)
and_both true b e = (refl, e)
and_both false b e = absurd (true≢false (sym e))

any_left : {X : Type 0} (p : X → Bool) (xs ys : List X) → list_any p xs ≡ true → list_any p (xs ++ ys) ≡ true
any_left p [] ys has = absurd (true≢false (sym has))
any_left p (x ∷ xs) ys has = go (p x) refl (any_left p xs ys) has
  where
    go : (b : Bool) → p x ≡ b → (list_any p xs ≡ true → list_any p (xs ++ ys) ≡ true) → (b || list_any p xs) ≡ true → (p x || list_any p (xs ++ ys)) ≡ true
    go true q rest has = ap (λ b. b || list_any p (xs ++ ys)) q
    go false q rest has = ap (λ b. b || list_any p (xs ++ ys)) q ∙ rest has

any_last : {X : Type 0} (p : X → Bool) (xs : List X) (x : X) → p x ≡ true → list_any p (xs ++ x ∷ []) ≡ true
any_last p [] x here = ap (λ b. b || false) here
any_last p (y ∷ ys) x here = ap (λ b. p y || b) (any_last p ys x here) ∙ or-true (p y)

-- ---- a channel more

inserted_keeps : (name channel : List ℕ) (names : List (List ℕ)) → list_any (bytes_eq channel) names ≡ true → list_any (bytes_eq channel) (insert_key bytes_eq names name) ≡ true
inserted_keeps name channel names has = go (list_any (bytes_eq name) names)
  where
    go : (b : Bool) → list_any (bytes_eq channel) (cond b names (names ++ name ∷ [])) ≡ true
    go true = has
    go false = any_left (bytes_eq channel) names (name ∷ []) has

inserted_has : (name : List ℕ) (names : List (List ℕ)) → list_any (bytes_eq name) (insert_key bytes_eq names name) ≡ true
inserted_has name names = go (list_any (bytes_eq name) names) refl
  where
    go : (b : Bool) → list_any (bytes_eq name) names ≡ b → list_any (bytes_eq name) (cond b names (names ++ name ∷ [])) ≡ true
    go true q = q
    go false q = any_last (bytes_eq name) names name (is_self name)

noting_keeps : (w : Watching) (seen : List (List ℕ)) (name channel : List ℕ) → list_any (bytes_eq channel) seen ≡ true → list_any (bytes_eq channel) (noting w seen name) ≡ true
noting_keeps w seen name channel has = go (is_open w name)
  where
    go : (b : Bool) → list_any (bytes_eq channel) (cond b (insert_key bytes_eq seen name) seen) ≡ true
    go true = inserted_keeps name channel seen has
    go false = has

noting_has : (w : Watching) (seen : List (List ℕ)) (channel : List ℕ) → is_open w channel ≡ true → list_any (bytes_eq channel) (noting w seen channel) ≡ true
noting_has w seen channel live = ap (λ b. list_any (bytes_eq channel) (cond b (insert_key bytes_eq seen channel) seen)) live ∙ inserted_has channel seen

all_keep : (w : Watching) (names seen : List (List ℕ)) (channel : List ℕ) → list_any (bytes_eq channel) seen ≡ true → list_any (bytes_eq channel) (fold (noting w) seen names) ≡ true
all_keep w [] seen channel has = has
all_keep w (name ∷ names) seen channel has = all_keep w names (noting w seen name) channel (noting_keeps w seen name channel has)

all_have : (w : Watching) (names seen : List (List ℕ)) (channel : List ℕ) → is_open w channel ≡ true → list_any (bytes_eq channel) names ≡ true
    → list_any (bytes_eq channel) (fold (noting w) seen names) ≡ true
all_have w [] seen channel live there = absurd (true≢false (sym there))
all_have w (name ∷ names) seen channel live there = go (bytes_eq channel name) refl (all_have w names (noting w seen name) channel live) there
  where
    go : (b : Bool) → bytes_eq channel name ≡ b
        → (list_any (bytes_eq channel) names ≡ true → list_any (bytes_eq channel) (fold (noting w) (noting w seen name) names) ≡ true)
        → (b || list_any (bytes_eq channel) names) ≡ true → list_any (bytes_eq channel) (fold (noting w) (noting w seen name) names) ≡ true
    go true q rest there =
        all_keep w names (noting w seen name) channel
        (subst (λ n. list_any (bytes_eq channel) (noting w seen n) ≡ true) (same_name channel name q) (noting_has w seen channel live))
    go false q rest there = rest there

-- ---- entries

-- the entry touches the channel
touches : List ℕ → Option FixedParts → Bool
touches channel None = false
touches channel (Some f) = bytes_eq (name_of_channel (fixed f)) channel

touched : List ℕ → List Entry → Bool
touched channel entries = list_any (λ e. touches channel (fixed_of e.op)) entries

note_entry : Watching → List (List ℕ) → Entry → List (List ℕ)
note_entry w seen e = noting_of w seen (fixed_of e.op)

one_keeps : (w : Watching) (seen : List (List ℕ)) (o : Option FixedParts) (channel : List ℕ) → list_any (bytes_eq channel) seen ≡ true → list_any (bytes_eq channel) (noting_of w seen o) ≡ true
one_keeps w seen None channel has = has
one_keeps w seen (Some f) channel has = noting_keeps w seen (name_of_channel (fixed f)) channel has

one_has : (w : Watching) (seen : List (List ℕ)) (o : Option FixedParts) (channel : List ℕ) → is_open w channel ≡ true → touches channel o ≡ true
    → list_any (bytes_eq channel) (noting_of w seen o) ≡ true
unfolding touches
one_has w seen None channel live touch = absurd (true≢false (sym touch))
one_has w seen (Some f) channel live touch =
    subst (λ n. list_any (bytes_eq channel) (noting w seen n) ≡ true) (sym (same_name (name_of_channel (fixed f)) channel touch)) (noting_has w seen channel live)

entries_keep : (w : Watching) (entries : List Entry) (seen : List (List ℕ)) (channel : List ℕ) → list_any (bytes_eq channel) seen ≡ true
    → list_any (bytes_eq channel) (fold (λ names e. noting_of w names (fixed_of e.op)) seen entries) ≡ true
entries_keep w [] seen channel has = has
entries_keep w (e ∷ entries) seen channel has = entries_keep w entries (noting_of w seen (fixed_of e.op)) channel (one_keeps w seen (fixed_of e.op) channel has)

entries_have : (w : Watching) (entries : List Entry) (seen : List (List ℕ)) (channel : List ℕ) → is_open w channel ≡ true → touched channel entries ≡ true
    → list_any (bytes_eq channel) (fold (λ names e. noting_of w names (fixed_of e.op)) seen entries) ≡ true
unfolding touched
entries_have w [] seen channel live touch = absurd (true≢false (sym touch))
entries_have w (e ∷ entries) seen channel live touch =
    go (touches channel (fixed_of e.op)) refl (entries_have w entries (noting_of w seen (fixed_of e.op)) channel live) touch
  where
    go : (b : Bool) → touches channel (fixed_of e.op) ≡ b
        → (list_any (λ d. touches channel (fixed_of d.op)) entries ≡ true → list_any (bytes_eq channel) (fold (λ names d. noting_of w names (fixed_of d.op)) (noting_of w seen (fixed_of e.op)) entries) ≡ true)
        → (b || list_any (λ d. touches channel (fixed_of d.op)) entries) ≡ true
        → list_any (bytes_eq channel) (fold (λ names d. noting_of w names (fixed_of d.op)) (noting_of w seen (fixed_of e.op)) entries) ≡ true
    go true q rest touch = entries_keep w entries (noting_of w seen (fixed_of e.op)) channel (one_has w seen (fixed_of e.op) channel live q)
    go false q rest touch = rest touch

-- ---- what was challenged before

beside : (new : Watched) (channel : List ℕ) (rows : List Watched) → bytes_eq new.channel channel ≡ false → watched_row (recorded new rows) channel ≡ watched_row rows channel
beside new channel rows other =
    found_other (is_of new.channel) (is_of channel) (λ old. new) (unwatched new.channel) (unwatched channel) rows
    (λ x e. ap (λ n. bytes_eq n channel) (same_name x.channel new.channel e) ∙ other) (λ x e. other) other

row_stays : (o : Option FixedParts) (told : Option (ℕ × Option ℕ)) (rows : List Watched) (channel : List ℕ) → touches channel o ≡ false
    → watched_row (rows_after o told rows) channel ≡ watched_row rows channel
unfolding touches
row_stays None told rows channel apart = refl
row_stays (Some f) None rows channel apart = refl
row_stays (Some f) (Some told) rows channel apart = beside (row_with (name_of_channel (fixed f)) told) channel rows apart

earlier : (d : Option ℕ) (now later : ℕ) → now ≤ later → is_challenged (mode_at d later) ≡ true → is_challenged (mode_at d now) ≡ true
earlier None now later le live = absurd (true≢false (sym live))
earlier (Some d) now later le live = go (nat_le d later) refl (nat_le d now) refl live
  where
    go : (b : Bool) → nat_le d later ≡ b → (c : Bool) → nat_le d now ≡ c → is_challenged (cond b Final Challenged) ≡ true → is_challenged (cond c Final Challenged) ≡ true
    go true q c r live = absurd (true≢false (sym live))
    go false q false r live = refl
    go false q true r live = let below : d ≤ now = leb-true d now r in absurd (true≢false (sym (le-leb d later (omega (arith, below, le))) ∙ q))

open_before_one : (w : Watching) (e : Entry) (channel : List ℕ) → touches channel (fixed_of e.op) ≡ false → w.time ≤ or_before (time_set e.op e.reply) w.time
    → is_open (saw w e) channel ≡ true → is_open w channel ≡ true
open_before_one w e channel apart le live =
    let row : watched_row (saw w e).rows channel ≡ watched_row w.rows channel = row_stays (fixed_of e.op) (told_row w.time e.op e.reply) w.rows channel apart in
    earlier (watched_row w.rows channel).deadline w.time (or_before (time_set e.op e.reply) w.time) le
    (sym (ap (λ (x : Watched). is_challenged (mode_at x.deadline (or_before (time_set e.op e.reply) w.time))) row) ∙ live)

open_before : (entries : List Entry) (w : Watching) (channel : List ℕ) → is_rising w.time entries ≡ true → touched channel entries ≡ false
    → is_open (fold saw w entries) channel ≡ true → is_open w channel ≡ true
unfolding touched
open_before [] w channel rising apart live = live
open_before (e ∷ entries) w channel rising apart live =
    let rise = and_both (nat_le w.time (or_before (time_set e.op e.reply) w.time)) (is_rising (or_before (time_set e.op e.reply) w.time) entries) rising in
    let parts = or_neither (touches channel (fixed_of e.op)) (list_any (λ d. touches channel (fixed_of d.op)) entries) apart in
    open_before_one w e channel parts.0 (leb-true w.time (or_before (time_set e.op e.reply) w.time) rise.0)
    (open_before entries (saw w e) channel rise.1 parts.1 live)
  where
    or_neither : (a b : Bool) → (a || b) ≡ false → (a ≡ false) × (b ≡ false)
    or_neither true b e = absurd (true≢false e)
    or_neither false b e = (refl, e)

-- each channel that is challenged after entries is noted
pub noted_well : (w : Watching) (noted : List (List ℕ)) (entries : List Entry) → is_rising w.time entries ≡ true → AreNoted w noted
    → AreNoted (fold saw w entries) (noted_after (fold saw w entries) noted entries)
noted_well w noted entries rising all channel live = go (touched channel entries) refl
  where
    go : (b : Bool) → touched channel entries ≡ b → list_any (bytes_eq channel) (noted_after (fold saw w entries) noted entries) ≡ true
    go true q = entries_have (fold saw w entries) entries (fold (noting (fold saw w entries)) [] noted) channel live q
    go false q =
        entries_keep (fold saw w entries) entries (fold (noting (fold saw w entries)) [] noted) channel
        (all_have (fold saw w entries) noted [] channel live (all channel (open_before entries w channel rising q live)))

-- one entry more of those that set no earlier time
pub rising_from : (now : ℕ) (entries : List Entry) (i : ℕ) (d : Entry) → i < length entries
    → is_rising now (drop i entries)
    ≡ (nat_le now (or_before (time_set (get_or entries i d).op (get_or entries i d).reply) now)
    && is_rising (or_before (time_set (get_or entries i d).op (get_or entries i d).reply) now) (drop (i + 1) entries))
rising_from now [] i d lt = absurd (omega (arith, lt))
rising_from now (e ∷ entries) zero d lt =
    let next : 0 + 1 ≡ suc 0 = omega arith in
    ap (λ k. nat_le now (or_before (time_set e.op e.reply) now) && is_rising (or_before (time_set e.op e.reply) now) (drop k (e ∷ entries))) (sym next)
rising_from now (e ∷ entries) (suc i) d lt =
    let next : suc i + 1 ≡ suc (i + 1) = omega arith in
    rising_from now entries i d (omega (arith, lt))
    ∙ ap
    (λ k. nat_le now (or_before (time_set (get_or entries i d).op (get_or entries i d).reply) now)
    && is_rising (or_before (time_set (get_or entries i d).op (get_or entries i d).reply) now) (drop k (e ∷ entries)))
    (sym next)

-- an entry that sets an earlier time, one that sets none, and the end
pub falls : (time : ℕ) (entries : List Entry) (i : ℕ) (e : Entry) (to : ℕ) → i < length entries → e ≡ get_or entries i e → to ≡ or_before (time_set e.op e.reply) time
    → to < time → is_rising time (drop i entries) ≡ false
falls time entries i e to lt at is below =
    rising_from time entries i e lt
    ∙ ap (λ (x : Entry). nat_le time (or_before (time_set x.op x.reply) time) && is_rising (or_before (time_set x.op x.reply) time) (drop (i + 1) entries)) (sym at)
    ∙ ap (λ n. nat_le time n && is_rising n (drop (i + 1) entries)) (sym is)
    ∙ ap (λ b. b && is_rising to (drop (i + 1) entries)) (not_le time to below)
  where
    not_le : (a b : ℕ) → b < a → nat_le a b ≡ false
    not_le a b lt = go (nat_le a b) refl
      where
        go : (x : Bool) → nat_le a b ≡ x → x ≡ false
        go false q = refl
        go true q = let le : a ≤ b = leb-true a b q in absurd (omega (arith, le, lt))

pub goes_on : (time : ℕ) (entries : List Entry) (i : ℕ) (e : Entry) (to : ℕ) → i < length entries → e ≡ get_or entries i e → to ≡ or_before (time_set e.op e.reply) time
    → time ≤ to → is_rising time (drop i entries) ≡ is_rising to (drop (i + 1) entries)
goes_on time entries i e to lt at is le =
    rising_from time entries i e lt
    ∙ ap (λ (x : Entry). nat_le time (or_before (time_set x.op x.reply) time) && is_rising (or_before (time_set x.op x.reply) time) (drop (i + 1) entries)) (sym at)
    ∙ ap (λ n. nat_le time n && is_rising n (drop (i + 1) entries)) (sym is)
    ∙ ap (λ b. b && is_rising to (drop (i + 1) entries)) (le-leb time to le)

pub all_rose : (time : ℕ) (entries : List Entry) (i : ℕ) → length entries ≤ i → is_rising time (drop i entries) ≡ true
all_rose time [] zero le = refl
all_rose time [] (suc i) le = refl
all_rose time (e ∷ entries) zero le = absurd (omega (arith, le))
all_rose time (e ∷ entries) (suc i) le = all_rose time entries i (omega (arith, le))
