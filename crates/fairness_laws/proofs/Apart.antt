-- A node keeps each channel once.
use Rattle.std.proofs.Common.{◌≡◌, ℕ, zero, suc, ◌+◌, Bool, true, false, cond, ◌||◌, not, List, [], ◌∷◌, ◌++◌, refl, sym, ◌∙◌, ap, subst}
use Rattle.std.specs.Prelude.{Option, Some, None, is_some, map, filter, slice_set, Ok, Err, Result}
use Rattle.std.specs.List.{slice_get, list_all}
use Rattle.std.specs.Str.{bytes_eq}
use Rattle.channel_values.specs.Parts.{FixedParts}
use Rattle.channel_values.specs.declared.fault.ByteFault.{ByteFault}
use Rattle.channel_values.specs.Rules.{Rules}
use Rattle.call_history.specs.Flows.{is_among}
use Rattle.call_history.specs.History.{is_accepted}
use Rattle.call_history.specs.Reading.{message_of}
use Rattle.call_history.specs.Rows.{fixed_of}
use Rattle.call_history.specs.Spelling.{Message}
use Rattle.call_history.specs.declared.entry.Entry.{Entry}
use Rattle.call_history.specs.declared.event.Deed.{Deed}
use Rattle.call_history.specs.declared.event.Deed.TheVariants as deeds
use Rattle.call_history.specs.declared.event.NodeRefusal.TheVariants.{UnknownChannel, NotAStep}
use Rattle.history_view.specs.Views.{view_of}
use Rattle.channel_store.specs.Keeping.{noting, adopting}
use Rattle.channel_store.specs.Storing.{place_of, kept_of, kept_at, kept_with}
use Rattle.channel_store.specs.declared.kept.Kept.{Kept}
use Rattle.network.specs.declared.command.Command.{Command}
use Rattle.network.specs.declared.command.Command.TheVariants as commands
use Rattle.channel_node.specs.Minds.{Mind, facts_of, shown_by, kept_seeing, saw, noted_message, with_opened, commanded_if, did}
use Rattle.channel_node.specs.Openings.{opened_by, takes_part, adds, opened, are_apart, ledgers_for}
use Rattle.channel_node.specs.Places.{Told, mind_at}
use Rattle.channel_node.specs.Playing.{Signing, signings, pending, Allowed, Plays}
use Rattle.channel_node.specs.Refusing.{not_open, is_planned, are_new, can_open, are_planned, open_refusal, command_refusal}
use Rattle.channel_node.specs.Tables.{Tables}
use Rattle.channel_safety.proofs.Tests.{some-eq, none-eq, and-left, and-right, and-both, not-false, clash}
use Rattle.channel_node.proofs.Allowing.{rest_none, first_none, holds_not}
use Rattle.channel_node.proofs.Places.{mind-event, mind-watched, mind-entry}
use Rattle.fairness_laws.proofs.Finding.{names, flips, not-true, or-left, or-rest, passes}
use Rattle.fairness_laws.proofs.Over.{Seen, IsKept, over, looked}

-- ---- lists of names

both-false : (a b : Bool) → a ≡ false → b ≡ false → (a || b) ≡ false
both-false true b e f = absurd (clash true refl e)
both-false false b e f = f

pub not-left : (a b : Bool) → not (a || b) ≡ true → a ≡ false
not-left a b e = or-left a b (not-true (a || b) e)

not-rest : (a b : Bool) → not (a || b) ≡ true → not b ≡ true
not-rest a b e = ap not (or-rest a b (not-true (a || b) e))

fewer : (x : List ℕ) (xs ys : List (List ℕ)) → list_all (λ y. not (is_among y (x ∷ xs))) ys ≡ true → list_all (λ y. not (is_among y xs)) ys ≡ true
fewer x xs [] e = refl
fewer x xs (y ∷ ys) e =
    let here = and-left (not (is_among y (x ∷ xs))) (list_all (λ z. not (is_among z (x ∷ xs))) ys) e in
    let rest = and-right (not (is_among y (x ∷ xs))) (list_all (λ z. not (is_among z (x ∷ xs))) ys) e in
    and-both (not (is_among y xs)) (list_all (λ z. not (is_among z xs)) ys) (not-rest (bytes_eq y x) (is_among y xs) here) (fewer x xs ys rest)

not-there : (x : List ℕ) (xs ys : List (List ℕ)) → list_all (λ y. not (is_among y (x ∷ xs))) ys ≡ true → is_among x ys ≡ false
not-there x xs [] e = refl
not-there x xs (y ∷ ys) e =
    let here = and-left (not (is_among y (x ∷ xs))) (list_all (λ z. not (is_among z (x ∷ xs))) ys) e in
    let rest = and-right (not (is_among y (x ∷ xs))) (list_all (λ z. not (is_among z (x ∷ xs))) ys) e in
    both-false (bytes_eq x y) (is_among x ys) (flips y x (not-left (bytes_eq y x) (is_among y xs) here)) (not-there x xs ys rest)

not-in-both : (x : List ℕ) (xs ys : List (List ℕ)) → is_among x xs ≡ false → is_among x ys ≡ false → is_among x (xs ++ ys) ≡ false
not-in-both x [] ys e f = f
not-in-both x (z ∷ zs) ys e f = both-false (bytes_eq x z) (is_among x (zs ++ ys)) (or-left (bytes_eq x z) (is_among x zs) e) (not-in-both x zs ys (or-rest (bytes_eq x z) (is_among x zs) e) f)

pub joined-apart : (xs ys : List (List ℕ)) → are_apart xs ≡ true → are_apart ys ≡ true → list_all (λ y. not (is_among y xs)) ys ≡ true → are_apart (xs ++ ys) ≡ true
joined-apart [] ys a b new = b
joined-apart (x ∷ xs) ys a b new =
    let alone = not-true (is_among x xs) (and-left (not (is_among x xs)) (are_apart xs) a) in
    and-both (not (is_among x (xs ++ ys))) (are_apart (xs ++ ys)) (ap not (not-in-both x xs ys alone (not-there x xs ys new)))
    (joined-apart xs ys (and-right (not (is_among x xs)) (are_apart xs) a) b (fewer x xs ys new))

module _ (r : Rules) (p : FixedParts → Bool) where
  not-in-some : (name : List ℕ) (fs : List FixedParts) → is_among name (map r.named fs) ≡ false → is_among name (map r.named (filter p fs)) ≡ false
  not-in-some name [] e = refl
  not-in-some name (f ∷ fs) e = go (p f) (not-in-some name fs (or-rest (bytes_eq name (r.named f)) (is_among name (map r.named fs)) e))
    where
      go : (b : Bool) → is_among name (map r.named (filter p fs)) ≡ false → is_among name (map r.named (cond b (f ∷ filter p fs) (filter p fs))) ≡ false
      go true ih = both-false (bytes_eq name (r.named f)) (is_among name (map r.named (filter p fs))) (or-left (bytes_eq name (r.named f)) (is_among name (map r.named fs)) e) ih
      go false ih = ih

  some-apart : (fs : List FixedParts) → are_apart (map r.named fs) ≡ true → are_apart (map r.named (filter p fs)) ≡ true
  some-apart [] e = refl
  some-apart (f ∷ fs) e = go (p f) (some-apart fs (and-right (not (is_among (r.named f) (map r.named fs))) (are_apart (map r.named fs)) e))
    where
      go : (b : Bool) → are_apart (map r.named (filter p fs)) ≡ true → are_apart (map r.named (cond b (f ∷ filter p fs) (filter p fs))) ≡ true
      go true ih =
          and-both (not (is_among (r.named f) (map r.named (filter p fs)))) (are_apart (map r.named (filter p fs)))
          (ap not (not-in-some (r.named f) fs (not-true (is_among (r.named f) (map r.named fs)) (and-left (not (is_among (r.named f) (map r.named fs))) (are_apart (map r.named fs)) e)))) ih
      go false ih = ih

-- a channel of which nothing is kept is none of those that are
not-kept : (channel : List ℕ) (kept : List Kept) → is_some (kept_of channel kept) ≡ false → is_among channel (names kept) ≡ false
not-kept channel [] e = refl
not-kept channel (x ∷ xs) e = go (bytes_eq x.channel channel) refl (not-kept channel xs)
  where
    go : (b : Bool) → bytes_eq x.channel channel ≡ b → (is_some (kept_of channel xs) ≡ false → is_among channel (names xs) ≡ false) → is_among channel (names (x ∷ xs)) ≡ false
    go true is ih = absurd (clash true refl (sym (ap (λ (b : Bool). is_some (slice_get (x ∷ xs) (cond (not b) (1 + place_of channel xs) 0))) is) ∙ e))
    go false is ih = both-false (bytes_eq channel x.channel) (is_among channel (names xs)) (flips x.channel channel is) (ih (ap is_some (passes channel x xs is) ∙ e))

new-some : (m : Mind) (r : Rules) (p : FixedParts → Bool) (fs : List FixedParts) → list_all (λ name. not (is_planned m name)) (map r.named fs) ≡ true
    → list_all (λ y. not (is_among y (names m.kept))) (map r.named (filter p fs)) ≡ true
new-some m r p [] e = refl
new-some m r p (f ∷ fs) e = go (p f) (new-some m r p fs (and-right (not (is_planned m (r.named f))) (list_all (λ name. not (is_planned m name)) (map r.named fs)) e))
  where
    fresh-one : is_among (r.named f) (names m.kept) ≡ false
    fresh-one = not-kept (r.named f) m.kept (not-left (is_some (kept_of (r.named f) m.kept)) _ (and-left (not (is_planned m (r.named f))) (list_all (λ name. not (is_planned m name)) (map r.named fs)) e))

    go : (b : Bool) → list_all (λ y. not (is_among y (names m.kept))) (map r.named (filter p fs)) ≡ true
        → list_all (λ y. not (is_among y (names m.kept))) (map r.named (cond b (f ∷ filter p fs) (filter p fs))) ≡ true
    go true ih = and-both (not (is_among (r.named f) (names m.kept))) (list_all (λ y. not (is_among y (names m.kept))) (map r.named (filter p fs))) (ap not fresh-one) ih
    go false ih = ih

-- ---- what entries and events leave

named-set : (kept : List Kept) (i : ℕ) (k new : Kept) → slice_get kept i ≡ Some k → new.channel ≡ k.channel → names (slice_set kept i new) ≡ names kept
named-set [] i k new e same = absurd (none-eq k e)
named-set (x ∷ xs) zero k new e same = ap (λ (c : List ℕ). c ∷ names xs) (same ∙ ap (λ (z : Kept). z.channel) (sym (some-eq x k e)))
named-set (x ∷ xs) (suc i) k new e same = ap (λ (n : List (List ℕ)). x.channel ∷ n) (named-set xs i k new e same)

same-names : (change : Kept → Kept) → ((k : Kept) → (change k).channel ≡ k.channel) → (channel : List ℕ) (kept : List Kept) → names (kept_with change channel kept) ≡ names kept
same-names change same channel kept = go (kept_of channel kept) refl
  where
    go : (o : Option Kept) → kept_of channel kept ≡ o → names (kept_at change kept (place_of channel kept) o) ≡ names kept
    go None e = refl
    go (Some k) e = named-set kept (place_of channel kept) k (change k) e (same k)

saw-names : (r : Rules) (e : Entry) (m : Mind) → names (saw r e m).kept ≡ names m.kept
saw-names r e m = go (is_accepted e.reply) (fixed_of e.op)
  where
    go : (b : Bool) (o : Option FixedParts) → names (cond b (kept_seeing r m.view e.op o m.kept) m.kept) ≡ names m.kept
    go false o = refl
    go true None = refl
    go true (Some f) = same-names (adopting r (shown_by e.op (view_of m.view.channels (r.named f)).shown)) (λ k. refl) (r.named f) m.kept

message-names : (r : Rules) (o : Result Message ByteFault) (m : Mind) → names (noted_message r o m).kept ≡ names m.kept
message-names r (Ok message) m = same-names (noting r false message.1) (λ k. refl) message.0 m.kept
message-names r (Err fault) m = refl

opened-names : (r : Rules) (key : List ℕ) (kept : List Kept) (fs : List FixedParts) → names (kept ++ map (opened r key) fs) ≡ names kept ++ map r.named fs
opened-names r key [] [] = refl
opened-names r key [] (f ∷ fs) = ap (λ (n : List (List ℕ)). r.named f ∷ n) (opened-names r key [] fs)
opened-names r key (x ∷ xs) fs = ap (λ (n : List (List ℕ)). x.channel ∷ n) (opened-names r key xs fs)

opens-apart : (r : Rules) (m : Mind) (command : Command) → are_new m (map r.named (opened_by command)) ≡ true → are_apart (names m.kept) ≡ true → are_apart (names (with_opened r command m).kept) ≡ true
opens-apart r m command new apart =
    subst (λ (n : List (List ℕ)). are_apart n ≡ true) (sym (opened-names r m.key m.kept (adds m.key (Some command))))
    (joined-apart (names m.kept) (map r.named (adds m.key (Some command))) apart
    (some-apart r (takes_part m.key) (opened_by command) (and-left (are_apart (map r.named (opened_by command))) (list_all (λ name. not (is_planned m name)) (map r.named (opened_by command))) new))
    (new-some m r (takes_part m.key) (opened_by command) (and-right (are_apart (map r.named (opened_by command))) (list_all (λ name. not (is_planned m name)) (map r.named (opened_by command))) new)))

-- a command that opens and isn't refused fits, and opens new channels
pub accepted-can : (t : Tables) (r : Rules) (m : Mind) (command : Command) → None ≡ open_refusal t r m command → can_open t r m command ≡ true
accepted-can t r m command e =
    let after-planned = rest_none (cond (not (are_planned m (ledgers_for m.key command))) (Some UnknownChannel) None) _ (sym e) in
    let after-open = rest_none (not_open t (facts_of m)) _ after-planned in
    not-false (can_open t r m command) (holds_not (not (can_open t r m command)) NotAStep (first_none (cond (not (can_open t r m command)) (Some NotAStep) None) _ after-open))

pub accepted-new : (t : Tables) (r : Rules) (m : Mind) (command : Command) → None ≡ open_refusal t r m command → are_new m (map r.named (opened_by command)) ≡ true
accepted-new t r m command e = and-right (t.fits (facts_of m) command) (are_new m (map r.named (opened_by command))) (accepted-can t r m command e)

command-apart : (t : Tables) (r : Rules) (s : Signing) (used : ℕ) (m : Mind) (command : Command) → None ≡ command_refusal t r s.limit used m command → are_apart (names m.kept) ≡ true
    → are_apart (names (commanded_if r (Some command) None m).kept) ≡ true
command-apart t r s used m (commands.Open f outcome) e apart = opens-apart r m (commands.Open f outcome) (accepted-new t r m (commands.Open f outcome) e) apart
command-apart t r s used m (commands.OpenOn o) e apart = opens-apart r m (commands.OpenOn o) (accepted-new t r m (commands.OpenOn o) e) apart
command-apart t r s used m (commands.OpenVirtual v) e apart =
    opens-apart r m (commands.OpenVirtual v) (accepted-new t r m (commands.OpenVirtual v) e) apart
command-apart t r s used m (commands.Pay channel asset amount) e apart = apart
command-apart t r s used m (commands.Close channel) e apart = apart
command-apart t r s used m (commands.Release how channel) e apart = apart
command-apart t r s used m (commands.Resend channel) e apart = apart
command-apart t r s used m commands.Exit e apart = apart

event-apart : (t : Tables) (r : Rules) (s : Signing) (past : List Entry) (used : ℕ) (waits : Option Command) (deed : Deed) (command : Option Command) (m : Mind)
    → Allowed t r s past m used waits deed command → are_apart (names m.kept) ≡ true → are_apart (names (did r deed command m).kept) ≡ true
event-apart t r s past used waits (deeds.Commanded step (Some refusal)) None m allowed apart = apart
event-apart t r s past used waits (deeds.Commanded step (Some refusal)) (Some command) m allowed apart = apart
event-apart t r s past used waits (deeds.Commanded step None) None m allowed apart = apart
event-apart t r s past used waits (deeds.Commanded step None) (Some command) m allowed apart = command-apart t r s used m command allowed.1 apart
event-apart t r s past used waits (deeds.Handled bytes None) command m allowed apart = subst (λ (n : List (List ℕ)). are_apart n ≡ true) (sym (message-names r (message_of bytes) m)) apart
event-apart t r s past used waits (deeds.Handled bytes (Some refusal)) command m allowed apart = apart
event-apart t r s past used waits (deeds.Signed channel state signature) command m allowed apart =
    subst (λ (n : List (List ℕ)). are_apart n ≡ true) (sym (same-names (noting r true (record { state = state; signature = signature })) (λ k. refl) channel m.kept)) apart
event-apart t r s past used waits (deeds.SignedChallenge channel state who signature) command m allowed apart = apart
event-apart t r s past used waits (deeds.Called call) command m allowed apart = apart
event-apart t r s past used waits (deeds.Watched watcher calls) command m allowed apart = apart

-- ---- over the places

module _ (t : Tables) (r : Rules) (s : Signing) (h : List Entry) where
  abbrev Apart : List Entry → List Told → Type 0
  Apart past front = are_apart (names (mind_at r s.key past front).kept) ≡ true

  saw-apart : (e : Entry) (m : Mind) → are_apart (names m.kept) ≡ true → are_apart (names (saw r e m).kept) ≡ true
  saw-apart e m a = subst (λ (n : List (List ℕ)). are_apart n ≡ true) (sym (saw-names r e m)) a

  nothing-done : (past : List Entry) → Apart past []
  nothing-done [] = refl
  nothing-done (e ∷ past) = saw-apart e (mind_at r s.key past []) (nothing-done past)

  apart-is-kept : (journal : List Told) → IsKept t r s h journal Apart
  apart-is-kept journal = record {
    first = nothing-done;
    event = λ past x front at was. subst (λ (m : Mind). are_apart (names m.kept) ≡ true) (sym (mind-event r s.key past x front at.len))
        (event-apart t r s past (signings front) (pending front) x.deed x.command (mind_at r s.key past front) (at.event.place at.later past at.entries at.len).1 was);
    look = λ past x front w was. subst (λ (m : Mind). are_apart (names m.kept) ≡ true) (sym (mind-watched r s.key past x front (looked r x.deed x.command w))) was;
    entry = λ past e front seen was. subst (λ (m : Mind). are_apart (names m.kept) ≡ true) (sym (mind-entry r s.key past e front seen)) (saw-apart e (mind_at r s.key past front) was);
  }

  pub kept-apart : (journal : List Told) → Plays t r s h journal → (later past : List Entry) → h ≡ later ++ past → Seen past journal → Apart past journal
  kept-apart journal plays later past is seen = over t r s h journal Apart (apart-is-kept journal) [] journal refl plays later past is seen
