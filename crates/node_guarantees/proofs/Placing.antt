-- What a node knows at each place of its journal is what its events made of it there.
use Rattle.std.proofs.Common.{◌≡◌, ℕ, suc, ◌+◌, ◌<◌, ◌≤◌, Bool, true, false, not, List, [], ◌∷◌, ◌++◌, ◌⊎◌, inl, inr, length, refl, sym, ◌∙◌, ap, subst, arith}
use Rattle.std.specs.Prelude.{Option, Some, None, is_some, nat_lt, map}
use Rattle.std.specs.List.{list_all}
use Rattle.channel_values.specs.Parts.{StateParts}
use Rattle.channel_values.specs.Rules.{Rules}
use Rattle.channel_values.specs.Words.{fault_if, ◌⊳◌}
use Rattle.call_history.specs.Flows.{is_among}
use Rattle.call_history.specs.Reading.{message_of}
use Rattle.call_history.specs.declared.entry.Entry.{Entry}
use Rattle.call_history.specs.declared.event.Deed.{Deed}
use Rattle.call_history.specs.declared.event.Deed.TheVariants as deeds
use Rattle.call_history.specs.declared.event.NodeRefusal.{NodeRefusal}
use Rattle.call_history.specs.declared.event.NodeRefusal.TheVariants.{UnknownChannel, NotAStep, TooMany}
use Rattle.channel_store.specs.Storing.{kept_of}
use Rattle.channel_store.specs.declared.kept.Kept.{Kept}
use Rattle.channel_safety.proofs.Lists.{append_assoc'}
use Rattle.channel_safety.proofs.Tests.{none-eq, and-left, and-right, not-false, le_or_lt}
use Rattle.funding_plans.specs.Parts.{channels}
use Rattle.channel_safety.specs.Journals.{In, is_watched}
use Rattle.network.specs.declared.command.Command.{Command}
use Rattle.network.specs.declared.command.Command.TheVariants.{Open, OpenOn, OpenVirtual, Pay, Close, Release, Resend, Exit}
use Rattle.channel_node.specs.Openings.{opened_by, ledgers_for, adds, are_apart, parts_of}
use Rattle.channel_node.specs.Openings as openings
use Rattle.channel_node.specs.Minds.{Mind, facts_of, with_opened, commanded_if, did}
use Rattle.channel_node.specs.Refusing.{not_open, has_left, unfinished, is_planned, are_new, can_open, are_planned, open_refusal, command_refusal, signs_of}
use Rattle.channel_node.specs.Tables.{Tables}
use Rattle.channel_node.specs.Places.{Told, mind_at}
use Rattle.channel_node.specs.Playing.{Signing, signings, pending, Allowed, PlaysEvent, Plays}
use Rattle.channel_node.proofs.Allowing.{first_none, rest_none, holds_not}
use Rattle.channel_node.proofs.Places.{mind-event, mind-watched, mind-entry}
use Rattle.node_guarantees.proofs.Apart.{apart-of, false-left, not-of}
use Rattle.node_guarantees.proofs.Growing.{Grown, Grows, grows-fresh, grows-message, grows-entry, quiet, signs, opens}

-- ---- what an event that the rules give says of what is kept

none-of : {A : Type 0} (o : Option A) → is_some o ≡ false → o ≡ None
none-of None e = refl
none-of (Some x) e = absurd cc

all-of : {A : Type 0} (p : A → Bool) (xs : List A) (x : A) → list_all p xs ≡ true → In x xs → p x ≡ true
all-of p [] x e i = absurd i
all-of p (y ∷ ys) x e (inl same) = ap p same ∙ and-left (p y) (list_all p ys) e
all-of p (y ∷ ys) x e (inr i) = all-of p ys x (and-right (p y) (list_all p ys) e) i

-- a command that opens names channels that are apart and not kept
opens-apart : (t : Tables) (r : Rules) (m : Mind) (command : Command) → None ≡ open_refusal t r m command → are_new m (map r.named (opened_by command)) ≡ true
opens-apart t r m command e = and-right (t.fits (facts_of m) command) (are_new m (map r.named (opened_by command))) can
  where
    line5 : Option NodeRefusal
    line5 = fault_if (nat_lt 64 (length (channels m.parts) + length (opened_by command))) (TooMany (length (channels m.parts)))

    line2 : Option NodeRefusal
    line2 = fault_if (not (can_open t r m command)) NotAStep

    line0 : Option NodeRefusal
    line0 = fault_if (not (are_planned m (ledgers_for m.key command))) UnknownChannel

    after2 : Option NodeRefusal
    after2 = has_left m ⊳ unfinished t (facts_of m) ⊳ line5

    can : can_open t r m command ≡ true
    can = not-false (can_open t r m command) (holds_not (not (can_open t r m command)) NotAStep
        (first_none line2 after2 (rest_none (not_open t (facts_of m)) (line2 ⊳ after2) (rest_none line0 (not_open t (facts_of m) ⊳ line2 ⊳ after2) (sym e)))))

free-names : (r : Rules) (m : Mind) (names : List (List ℕ)) → are_new m names ≡ true → (name : List ℕ) → In name names → kept_of name m.kept ≡ None
free-names r m names e name i =
    none-of (kept_of name m.kept) (false-left (is_some (kept_of name m.kept)) (is_among name (channels m.parts))
    (not-of (is_planned m name) (all-of (λ n. not (is_planned m n)) names name (and-right (are_apart names) (list_all (λ n. not (is_planned m n)) names) e) i)))

-- a state is signed only of what is kept
signs-kept : (t : Tables) (r : Rules) (waits : Option Command) (m : Mind) (c : List ℕ) (o : Option Kept) (state : StateParts) → signs_of t r waits m c o ≡ Some state → (k : Kept) × (o ≡ Some k)
signs-kept t r waits m c None state e = absurd (none-eq state e)
signs-kept t r waits m c (Some k) state e = (k, refl)

-- ---- one more event

module _ (t : Tables) (r : Rules) (s : Signing) where
  -- with a command that opens
  opening : (seen step : ℕ) (command : Command) (front : List Told) (m : Mind) → None ≡ open_refusal t r m command → Grows r s.key front m
      → Grows r s.key (record { seen = seen; deed = deeds.Commanded step None; command = Some command } ∷ front) (with_opened r command m)
  opening seen step command front m taken was =
      subst (λ (key : List ℕ). Grown r s.key (x ∷ front) key (m.parts ++ parts_of r key command) (m.kept ++ map (openings.opened r key) (adds key (Some command)))) (sym was.mine)
      (opens r s.key seen step command front m.parts m.kept (free-names r m names new) (apart-of names (and-left (are_apart names) (list_all (λ n. not (is_planned m n)) names) new))
      (subst (λ (key : List ℕ). Grown r s.key front key m.parts m.kept) was.mine was))
    where
      x : Told
      x = record { seen = seen; deed = deeds.Commanded step None; command = Some command }

      names : List (List ℕ)
      names = map r.named (opened_by command)

      new : are_new m names ≡ true
      new = opens-apart t r m command taken

  follows : (seen step used : ℕ) (command : Command) (front : List Told) (m : Mind) → None ≡ command_refusal t r s.limit used m command → Grows r s.key front m
      → Grows r s.key (record { seen = seen; deed = deeds.Commanded step None; command = Some command } ∷ front) (commanded_if r (Some command) None m)
  follows seen step used (Open f outcome) front m taken was = opening seen step (Open f outcome) front m taken was
  follows seen step used (OpenOn o) front m taken was = opening seen step (OpenOn o) front m taken was
  follows seen step used (OpenVirtual v) front m taken was =
      opening seen step (OpenVirtual v) front m taken was
  follows seen step used (Pay channel asset amount) front m taken was =
      quiet r s.key (record { seen = seen; deed = deeds.Commanded step None; command = Some (Pay channel asset amount) }) front refl refl m.key m.parts m.kept (λ c. refl) was
  follows seen step used (Close channel) front m taken was =
      quiet r s.key (record { seen = seen; deed = deeds.Commanded step None; command = Some (Close channel) }) front refl refl m.key m.parts m.kept (λ c. refl) was
  follows seen step used (Release how channel) front m taken was =
      quiet r s.key (record { seen = seen; deed = deeds.Commanded step None; command = Some (Release how channel) }) front refl refl m.key m.parts m.kept (λ c. refl) was
  follows seen step used (Resend channel) front m taken was =
      quiet r s.key (record { seen = seen; deed = deeds.Commanded step None; command = Some (Resend channel) }) front refl refl m.key m.parts m.kept (λ c. refl) was
  follows seen step used Exit front m taken was =
      quiet r s.key (record { seen = seen; deed = deeds.Commanded step None; command = Some Exit }) front refl refl m.key m.parts m.kept (λ c. refl) was

  event : (past : List Entry) (used seen : ℕ) (waits : Option Command) (deed : Deed) (command : Option Command) (front : List Told) (m : Mind)
      → Allowed t r s past m used waits deed command → Grows r s.key front m → Grows r s.key (record { seen = seen; deed = deed; command = command } ∷ front) (did r deed command m)
  event past used seen waits (deeds.Commanded step None) (Some command) front m allowed was = follows seen step used command front m allowed.1 was
  event past used seen waits (deeds.Commanded step None) None front m allowed was = absurd allowed.1
  event past used seen waits (deeds.Commanded step (Some refusal)) None front m allowed was = absurd allowed.1
  event past used seen waits (deeds.Commanded step (Some refusal)) (Some command) front m allowed was =
      quiet r s.key (record { seen = seen; deed = deeds.Commanded step (Some refusal); command = Some command }) front refl refl m.key m.parts m.kept (λ c. refl) was
  event past used seen waits (deeds.Handled bytes None) command front m allowed was =
      let x : Told = record { seen = seen; deed = deeds.Handled bytes None; command = command } in
      grows-message r s.key (x ∷ front) (message_of bytes) m (quiet r s.key x front refl refl m.key m.parts m.kept (λ c. refl) was)
  event past used seen waits (deeds.Handled bytes (Some refusal)) command front m allowed was =
      quiet r s.key (record { seen = seen; deed = deeds.Handled bytes (Some refusal); command = command }) front refl refl m.key m.parts m.kept (λ c. refl) was
  event past used seen waits (deeds.Signed channel state signature) command front m allowed was =
      let found = signs-kept t r waits m channel (kept_of channel m.kept) state allowed.0 in
      signs r s.key (record { seen = seen; deed = deeds.Signed channel state signature; command = command }) front refl refl m.key m.parts m.kept
      (record { state = state; signature = signature }) channel (λ n. refl) found.0 found.1 was
  event past used seen waits (deeds.SignedChallenge channel state who signature) command front m allowed was =
      quiet r s.key (record { seen = seen; deed = deeds.SignedChallenge channel state who signature; command = command }) front refl refl m.key m.parts m.kept (λ c. refl) was
  event past used seen waits (deeds.Called call) command front m allowed was =
      quiet r s.key (record { seen = seen; deed = deeds.Called call; command = command }) front refl refl m.key m.parts m.kept (λ c. refl) was
  event past used seen waits (deeds.Watched watcher given) command front m allowed was =
      quiet r s.key (record { seen = seen; deed = deeds.Watched watcher given; command = command }) front refl refl m.key m.parts m.kept (λ c. refl) was

  -- a look says nothing
  look : (seen : ℕ) (deed : Deed) (command : Option Command) (front : List Told) (m : Mind) → is_watched deed ≡ true → Grows r s.key front m
      → Grows r s.key (record { seen = seen; deed = deed; command = command } ∷ front) m
  look seen (deeds.Watched watcher given) command front m w was =
      quiet r s.key (record { seen = seen; deed = deeds.Watched watcher given; command = command }) front refl refl m.key m.parts m.kept (λ c. refl) was
  look seen (deeds.Commanded step refusal) command front m w was = absurd cc
  look seen (deeds.Handled bytes refusal) command front m w was = absurd cc
  look seen (deeds.Signed channel state signature) command front m w was = absurd cc
  look seen (deeds.SignedChallenge channel state who signature) command front m w was = absurd cc
  look seen (deeds.Called call) command front m w was = absurd cc

  look-same : (deed : Deed) (command : Option Command) → is_watched deed ≡ true → (m : Mind) → did r deed command m ≡ m
  look-same (deeds.Watched watcher given) command w m = refl
  look-same (deeds.Commanded step refusal) command w m = absurd cc
  look-same (deeds.Handled bytes refusal) command w m = absurd cc
  look-same (deeds.Signed channel state signature) command w m = absurd cc
  look-same (deeds.SignedChallenge channel state who signature) command w m = absurd cc
  look-same (deeds.Called call) command w m = absurd cc

-- ---- places

-- no event but a look had seen more than these entries
abbrev pub Before : List Told → List Entry → Type 0
Before front past = (y : Told) → In y front → is_watched y.deed ≡ false → y.seen ≤ length past

module _ (t : Tables) (r : Rules) (s : Signing) (h : List Entry) where
  abbrev At : List Told → Type 0
  At front = (past later : List Entry) → h ≡ later ++ past → Before front past → Grows r s.key front (mind_at r s.key past front)

  first : At []
  first [] later is before = grows-fresh r s.key
  first (e ∷ past) later is before = grows-entry r s.key [] e (mind_at r s.key past []) (first past (later ++ e ∷ []) (is ∙ append_assoc' later (e ∷ []) past) (λ y i w. absurd i))

  module _ (x : Told) (front : List Told) (ev : PlaysEvent t r s h x front) (rest : At front) where
    -- a look, wherever it stands
    watched : is_watched x.deed ≡ true → At (x ∷ front)
    watched w past later is before =
        subst (Grows r s.key (x ∷ front)) (sym (mind-watched r s.key past x front (look-same t r s x.deed x.command w)))
        (look t r s x.seen x.deed x.command front (mind_at r s.key past front) w (rest past later is (λ y i n. before y (inr i) n)))

    -- at the place that it had seen
    here : (past later : List Entry) → h ≡ later ++ past → Before (x ∷ front) past → length past ≡ x.seen → Grows r s.key (x ∷ front) (mind_at r s.key past (x ∷ front))
    here past later is before len =
        subst (Grows r s.key (x ∷ front)) (sym (mind-event r s.key past x front len))
        (event t r s past (signings front) x.seen (pending front) x.deed x.command front (mind_at r s.key past front) (ev.place later past is len).1
        (rest past later is (λ y i n. before y (inr i) n)))

    -- after it all that comes is entries
    after : is_watched x.deed ≡ false → At (x ∷ front)
    after n [] later is before = here [] later is before (let l : x.seen ≤ 0 = before x (inl refl) n in omega arith)
    after n (e ∷ past) later is before = go (le_or_lt x.seen (length past)) (after n past (later ++ e ∷ []) (is ∙ append_assoc' later (e ∷ []) past))
      where
        go : (x.seen ≤ length past) ⊎ (length past < x.seen) → (Before (x ∷ front) past → Grows r s.key (x ∷ front) (mind_at r s.key past (x ∷ front)))
            → Grows r s.key (x ∷ front) (mind_at r s.key (e ∷ past) (x ∷ front))
        go (inr l) rec = here (e ∷ past) later is before (let u : x.seen ≤ suc (length past) = before x (inl refl) n in omega arith)
        go (inl l) rec =
            subst (Grows r s.key (x ∷ front)) (sym (mind-entry r s.key past e (x ∷ front) earlier)) (grows-entry r s.key (x ∷ front) e (mind_at r s.key past (x ∷ front)) (rec earlier))
          where
            earlier : Before (x ∷ front) past
            earlier y (inl same) w = subst (λ (z : Told). z.seen ≤ length past) (sym same) l
            earlier y (inr i) w = let u : y.seen ≤ x.seen = ev.rising y i w in omega arith

  pub grows-at : (front : List Told) → Plays t r s h front → At front
  grows-at [] plays = first
  grows-at (x ∷ front) plays = go (is_watched x.deed) refl (grows-at front plays.1)
    where
      go : (b : Bool) → is_watched x.deed ≡ b → At front → At (x ∷ front)
      go true w rest = watched x front plays.0 rest w
      go false w rest = after x front plays.0 rest w
