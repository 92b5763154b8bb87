-- A tower that stands for a front of a legal history can look at the next entry, and gives one entry's lines more.
use Rattle.std.proofs.Common.{◌≡◌, ◌+◌, ◌<◌, ℕ, true, List, [], ◌∷◌, ◌++◌, take, drop, length, get_or, refl, sym, ◌∙◌, ap, subst, append_assoc}
use Rattle.std.specs.Prelude.{reverse, Result, Ok, Err, OnOk}
use Rattle.std.proofs.lemmas.List.{take_more, take-append-drop, reverse-append}
use Rattle.channel_values.specs.Rules.{Rules}
use Rattle.call_history.specs.History.{Legal, newest_first}
use Rattle.call_history.specs.Naming.{NamesChannels}
use Rattle.call_history.specs.declared.call.Call.{Call}
use Rattle.call_history.specs.declared.entry.Entry.{Entry}
use Rattle.network.specs.Watching.{Watching, StandsFor, unseeing, history_after, looks}
use Rattle.network.proofs.Watching.{stands_fresh}
use Rattle.support_rules.specs.Real.{real}
use Rattle.watchtower.specs.declared.client.Client.{Client}
use Rattle.watchtower.specs.Towers.{is_rising, answers}
use Rattle.watchtower.proofs.Timing.{legal_times_rise}
use Rattle.watchtower.specs.Replay.{Follows, look_lines, replay_lines}

pub names : NamesChannels real
names f = refl

pub unseeing_stands : (w : Watching) → w ≡ unseeing → StandsFor real [] w
unseeing_stands w is = subst (StandsFor real []) (sym is) (stands_fresh real)

-- the entry that follows can be looked at
pub follows_rising : (h : List Entry) (e : Entry) (w : Watching) → Follows real h e w → is_rising w.time (e ∷ []) ≡ true
follows_rising h e w follows =
    subst (λ t. is_rising t (e ∷ []) ≡ true) (sym follows.stands.time) (legal_times_rise real h (e ∷ []) follows.legal)

-- after one entry
pub stands_one : (h es : List Entry) (e : Entry) (w : Watching) → es ≡ e ∷ [] → Legal real (e ∷ h)
    → (Legal real (history_after h es) → StandsFor real (history_after h es) w) → StandsFor real (e ∷ h) w
stands_one h es e w is legal stands =
    subst (λ l. StandsFor real (history_after h l) w) is (stands (subst (λ l. Legal real (history_after h l)) (sym is) legal))

pub told_one : (h es : List Entry) (e : Entry) (clients : List Client) (told : List (List ℕ × List Call)) → es ≡ e ∷ [] → Legal real (e ∷ h)
    → (Legal real (history_after h es) → told ≡ answers (looks real (history_after h es)) clients)
    → told ≡ answers (looks real (e ∷ h)) clients
told_one h es e clients told is legal tells =
    subst (λ l. told ≡ answers (looks real (history_after h l)) clients) is (tells (subst (λ l. Legal real (history_after h l)) (sym is) legal))

pub on_ok : {T E : Type 0} (result : Result T E) (P : Type 0) → P → OnOk result P
on_ok (Ok value) P holds = holds
on_ok (Err error) P holds = tt

legal_older : (r : Rules) (later past : List Entry) → Legal r (later ++ past) → Legal r past
legal_older r [] past legal = legal
legal_older r (e ∷ later) past legal = legal_older r later past legal.0

newest_more : (h : List Entry) (i : ℕ) (d : Entry) → i < length h
    → newest_first (take (i + 1) h) ≡ get_or h i d ∷ newest_first (take i h)
newest_more h i d lt = ap reverse (take_more h i d lt) ∙ reverse-append (take i h) (get_or h i d ∷ [])

legal_front : (r : Rules) (h : List Entry) (k : ℕ) → Legal r (newest_first h) → Legal r (newest_first (take k h))
legal_front r h k legal =
    let whole : newest_first h ≡ newest_first (drop k h) ++ newest_first (take k h) =
    sym (ap reverse (take-append-drop k h)) ∙ reverse-append (take k h) (drop k h) in
    legal_older r (newest_first (drop k h)) (newest_first (take k h)) (subst (Legal r) whole legal)

one_more : (h : List Entry) (i : ℕ) (e : Entry) → i < length h → e ≡ get_or h i e
    → newest_first (take (i + 1) h) ≡ e ∷ newest_first (take i h)
one_more h i e lt at = newest_more h i e lt ∙ ap (λ x. x ∷ newest_first (take i h)) (sym at)

-- a tower that stands for the entries before one can look at it
pub follows_next : (h : List Entry) (i : ℕ) (e : Entry) (w : Watching) → i < length h → e ≡ get_or h i e
    → Legal real (newest_first h) → StandsFor real (newest_first (take i h)) w → Follows real (newest_first (take i h)) e w
follows_next h i e w lt at legal stands =
    record { stands = stands; legal = subst (Legal real) (one_more h i e lt at) (legal_front real h (i + 1) legal) }

pub stands_next : (h : List Entry) (i : ℕ) (e : Entry) (w : Watching) → i < length h → e ≡ get_or h i e
    → StandsFor real (e ∷ newest_first (take i h)) w → StandsFor real (newest_first (take (i + 1) h)) w
stands_next h i e w lt at stands = subst (λ g. StandsFor real g w) (sym (one_more h i e lt at)) stands

-- the lines of one look more
pub lines_next : (h : List Entry) (i : ℕ) (e : Entry) (clients now : List Client) (first before after : List (List ℕ)) → i < length h
    → e ≡ get_or h i e → now ≡ clients → before ≡ first ++ replay_lines real clients (newest_first (take i h))
    → after ≡ before ++ look_lines e.number (answers (looks real (e ∷ newest_first (take i h))) now)
    → after ≡ first ++ replay_lines real clients (newest_first (take (i + 1) h))
lines_next h i e clients now first before after lt at same so_far is =
    is
    ∙ (λ j. so_far j ++ look_lines e.number (answers (looks real (e ∷ newest_first (take i h))) (same j)))
    ∙ append_assoc first (replay_lines real clients (newest_first (take i h))) (look_lines e.number (answers (looks real (e ∷ newest_first (take i h))) clients))
    ∙ ap (λ g. first ++ replay_lines real clients g) (sym (one_more h i e lt at))
