-- The parts of an accepted command stand in the plan, each goal is of one, and no name is opened by two commands.
use Rattle.std.proofs.Common.{◌≡◌, ℕ, ◌<◌, ◌≤◌, Bool, true, false, ◌||◌, not, ◌⊎◌, List, [], ◌∷◌, ◌++◌, inl, inr, length, refl, sym, ◌∙◌, ap, subst, arith}
use Rattle.std.specs.Prelude.{◌==◌, Option, Some, None, is_some, map}
use Rattle.std.specs.List.{slice_get, list_all}
use Rattle.std.specs.Str.{bytes_eq}
use Rattle.channel_values.specs.Parts.{FixedParts}
use Rattle.channel_values.specs.Rules.{Rules}
use Rattle.call_history.proofs.Names.{same_bytes, bytes_eq_self}
use Rattle.call_history.specs.Flows.{is_among}
use Rattle.call_history.specs.History.{Legal}
use Rattle.call_history.specs.declared.entry.Entry.{Entry}
use Rattle.call_history.specs.declared.event.Deed.{Deed}
use Rattle.call_history.specs.declared.event.Deed.TheVariants as deeds
use Rattle.channel_store.specs.Storing.{kept_of}
use Rattle.funding_plans.specs.Parts.{channels_of, channels}
use Rattle.funding_plans.specs.declared.plan.Goal.{Goal}
use Rattle.funding_plans.specs.declared.plan.Part.{Part}
use Rattle.channel_safety.specs.Journals.{In, is_watched, is_followed}
use Rattle.channel_safety.proofs.Members.{In-append_left, In-append_right, In-append_cases, mapped}
use Rattle.network.specs.declared.command.Command.{Command}
use Rattle.network.specs.declared.command.Command.TheVariants as commands
use Rattle.channel_node.specs.Minds.{Mind, facts_of, place_with, close_if, did}
use Rattle.channel_node.specs.Openings.{opened_by, parts_of, goals_of, are_apart}
use Rattle.channel_node.specs.Places.{Told, mind_at, AreFew}
use Rattle.channel_node.specs.Playing.{Signing, signings, pending, Allowed, PlaysEvent, Plays}
use Rattle.channel_node.specs.Refusing.{is_planned, are_new, can_open}
use Rattle.channel_node.specs.Tables.{Tables}
use Rattle.channel_safety.proofs.Lists.{Split, split_of, Suffix, suffix_of, get-append}
use Rattle.channel_safety.proofs.Tests.{some-eq, none-eq, and-left, and-right, clash}
use Rattle.channel_safety.proofs.Rowing.{legal-suffix}
use Rattle.channel_node.proofs.Bridging.{plays-at}
use Rattle.channel_node.proofs.Places.{mind-event, mind-watched, mind-entry}
use Rattle.channel_node.proofs.Standing.{known}
use Rattle.fairness_laws.specs.Opens.{Took}
use Rattle.fairness_laws.proofs.Finding.{not-true, or-rest}
use Rattle.fairness_laws.proofs.Apart.{accepted-can}
use Rattle.fairness_laws.proofs.Over.{Seen, AtEvent, IsKept, over, looked}
use Rattle.fairness_laws.proofs.Planned.{Change, stays, opens, closes, event-changes, is-planned, new-goal, close-part, opened-channels, among-channels}

-- ---- names

-- what is true of all names is true of one of them
pub all-at : (test : List ℕ → Bool) (names : List (List ℕ)) (c : List ℕ) → list_all test names ≡ true → is_among c names ≡ true → test c ≡ true
all-at test [] c e i = absurd cc
all-at test (name ∷ names) c e i = go (bytes_eq c name) refl (all-at test names c (and-right (test name) (list_all test names) e)) i
  where
    go : (b : Bool) → bytes_eq c name ≡ b → (is_among c names ≡ true → test c ≡ true) → (b || is_among c names) ≡ true → test c ≡ true
    go true same rest i = ap test (same_bytes c name same) ∙ and-left (test name) (list_all test names) e
    go false same rest i = rest i

-- a name among new ones isn't planned
pub fresh-name : (m : Mind) (names : List (List ℕ)) (c : List ℕ) → list_all (λ name. not (is_planned m name)) names ≡ true → is_among c names ≡ true → is_among c (channels m.parts) ≡ false
fresh-name m names c e i = or-rest (is_some (kept_of c m.kept)) (is_among c (channels m.parts)) (not-true (is_planned m c) (all-at (λ name. not (is_planned m name)) names c e i))

-- one of the names of fixed parts
pub record HasName (r : Rules) (c : List ℕ) (fs : List FixedParts) : Type 0 where
  pub g : FixedParts
  pub there : In g fs
  pub named : c ≡ r.named g

pub name-in : (r : Rules) (c : List ℕ) (fs : List FixedParts) → is_among c (map r.named fs) ≡ true → HasName r c fs
name-in r c [] e = absurd cc
name-in r c (g ∷ fs) e = go (bytes_eq c (r.named g)) refl (name-in r c fs) e
  where
    go : (b : Bool) → bytes_eq c (r.named g) ≡ b → (is_among c (map r.named fs) ≡ true → HasName r c fs) → (b || is_among c (map r.named fs)) ≡ true → HasName r c (g ∷ fs)
    go true same rest e = record { g = g; there = inl refl; named = same_bytes c (r.named g) same }
    go false same rest e = let h = rest e in record { g = h.g; there = inr h.there; named = h.named }

pub among-named : (r : Rules) (fs : List FixedParts) (f : FixedParts) → In f fs → is_among (r.named f) (map r.named fs) ≡ true
among-named r [] f i = absurd i
among-named r (g ∷ fs) f (inl e) = ap (λ (b : Bool). b || is_among (r.named f) (map r.named fs)) (ap (λ (x : FixedParts). bytes_eq (r.named f) (r.named x)) (sym e) ∙ bytes_eq_self (r.named f))
among-named r (g ∷ fs) f (inr i) = go (bytes_eq (r.named f) (r.named g)) (among-named r fs f i)
  where
    go : (b : Bool) → is_among (r.named f) (map r.named fs) ≡ true → (b || is_among (r.named f) (map r.named fs)) ≡ true
    go true rest = refl
    go false rest = rest

-- the part that has a channel
pub record HasPart (c : List ℕ) (parts : List Part) : Type 0 where
  pub p : Part
  pub there : In p parts
  pub among : is_among c (channels_of p) ≡ true

either-has : (c : List ℕ) (xs ys : List (List ℕ)) → is_among c (xs ++ ys) ≡ true → (is_among c xs ≡ true) ⊎ (is_among c ys ≡ true)
either-has c [] ys e = inr e
either-has c (x ∷ xs) ys e = go (bytes_eq c x) (either-has c xs ys) e
  where
    go : (b : Bool) → (is_among c (xs ++ ys) ≡ true → (is_among c xs ≡ true) ⊎ (is_among c ys ≡ true)) → (b || is_among c (xs ++ ys)) ≡ true → ((b || is_among c xs) ≡ true) ⊎ (is_among c ys ≡ true)
    go true rest e = inl refl
    go false rest e = rest e

pub has-part : (c : List ℕ) (parts : List Part) → is_among c (channels parts) ≡ true → HasPart c parts
has-part c [] e = absurd cc
has-part c (p ∷ ps) e = go (either-has c (channels_of p) (channels ps) e) (has-part c ps)
  where
    go : (is_among c (channels_of p) ≡ true) ⊎ (is_among c (channels ps) ≡ true) → (is_among c (channels ps) ≡ true → HasPart c ps) → HasPart c (p ∷ ps)
    go (inl i) rest = record { p = p; there = inl refl; among = i }
    go (inr i) rest = let h = rest i in record { p = h.p; there = inr h.there; among = h.among }

-- ---- what an accepted command adds

taken-parts : (r : Rules) (deed : Deed) (of : Option Command) (command : Command) (m : Mind) → is_followed deed ≡ true → of ≡ Some command → (p : Part) → In p (parts_of r m.key command) → In p (did r deed of m).parts
taken-parts r (deeds.Commanded step None) None command m w is p i = absurd (none-eq command is)
taken-parts r (deeds.Commanded step None) (Some c) command m w is p i = by c (subst (λ (x : Command). In p (parts_of r m.key x)) (sym (some-eq c command is)) i)
  where
    by : (c : Command) → In p (parts_of r m.key c) → In p (did r (deeds.Commanded step None) (Some c) m).parts
    by (commands.Open f outcome) i = In-append_right p m.parts (parts_of r m.key (commands.Open f outcome)) i
    by (commands.OpenOn o) i = In-append_right p m.parts (parts_of r m.key (commands.OpenOn o)) i
    by (commands.OpenVirtual v) i = In-append_right p m.parts (parts_of r m.key (commands.OpenVirtual v)) i
    by (commands.Pay channel asset amount) i = absurd i
    by (commands.Close channel) i = absurd i
    by (commands.Release how channel) i = absurd i
    by (commands.Resend channel) i = absurd i
    by commands.Exit i = absurd i
taken-parts r (deeds.Commanded step (Some refusal)) of command m w is p i = absurd cc
taken-parts r (deeds.Handled bytes refusal) of command m w is p i = absurd cc
taken-parts r (deeds.Signed channel state signature) of command m w is p i = absurd cc
taken-parts r (deeds.SignedChallenge channel state who signature) of command m w is p i = absurd cc
taken-parts r (deeds.Called call) of command m w is p i = absurd cc
taken-parts r (deeds.Watched watcher calls) of command m w is p i = absurd cc

-- and it can be opened
taken-can : (t : Tables) (r : Rules) (s : Signing) (past : List Entry) (used : ℕ) (waits : Option Command) (deed : Deed) (of : Option Command) (m : Mind) → Allowed t r s past m used waits deed of
    → is_followed deed ≡ true → (command : Command) → of ≡ Some command → (f : FixedParts) → In f (opened_by command) → can_open t r m command ≡ true
taken-can t r s past used waits (deeds.Commanded step None) None m allowed w command is f i = absurd (none-eq command is)
taken-can t r s past used waits (deeds.Commanded step None) (Some c) m allowed w command is f i =
    subst (λ (x : Command). can_open t r m x ≡ true) (some-eq c command is) (by c allowed (subst (λ (x : Command). In f (opened_by x)) (sym (some-eq c command is)) i))
  where
    by : (c : Command) → Allowed t r s past m used waits (deeds.Commanded step None) (Some c) → In f (opened_by c) → can_open t r m c ≡ true
    by (commands.Open g outcome) a i = accepted-can t r m (commands.Open g outcome) a.1
    by (commands.OpenOn o) a i = accepted-can t r m (commands.OpenOn o) a.1
    by (commands.OpenVirtual v) a i = accepted-can t r m (commands.OpenVirtual v) a.1
    by (commands.Pay channel asset amount) a i = absurd i
    by (commands.Close channel) a i = absurd i
    by (commands.Release how channel) a i = absurd i
    by (commands.Resend channel) a i = absurd i
    by commands.Exit a i = absurd i
taken-can t r s past used waits (deeds.Commanded step (Some refusal)) of m allowed w command is f i = absurd cc
taken-can t r s past used waits (deeds.Handled bytes refusal) of m allowed w command is f i = absurd cc
taken-can t r s past used waits (deeds.Signed channel state signature) of m allowed w command is f i = absurd cc
taken-can t r s past used waits (deeds.SignedChallenge channel state who signature) of m allowed w command is f i = absurd cc
taken-can t r s past used waits (deeds.Called call) of m allowed w command is f i = absurd cc
taken-can t r s past used waits (deeds.Watched watcher calls) of m allowed w command is f i = absurd cc

grows : (t : Tables) (r : Rules) (deed : Deed) (of : Option Command) (m new : Mind) → Change t r deed of m new → (p : Part) → In p m.parts → In p new.parts
grows t r deed of m new (stays parts goals) p i = subst (In p) (sym parts) i
grows t r deed of m new (opens command followed is accepted parts goals) p i = subst (In p) (sym parts) (In-append_left p m.parts (parts_of r m.key command) i)
grows t r deed of m new (closes lets channel accepted parts goals) p i = subst (In p) (sym parts) i

-- what was taken is taken in a longer journal
pub took-later : (command : Command) (newer front : List Told) → Took command front → Took command (newer ++ front)
took-later command newer front a = record { event = a.event; there = In-append_right a.event newer front a.there; followed = a.followed; is = a.is }

took-before : (command : Command) (x : Told) (front : List Told) (a : Took command (x ∷ front)) → In a.event front → Took command front
took-before command x front a i = record { event = a.event; there = i; followed = a.followed; is = a.is }

not-look : (deed : Deed) → is_watched deed ≡ true → is_followed deed ≡ true → ⊥
not-look (deeds.Watched watcher calls) w e = absurd cc
not-look (deeds.Commanded step refusal) w e = absurd cc
not-look (deeds.Handled bytes refusal) w e = absurd cc
not-look (deeds.Signed channel state signature) w e = absurd cc
not-look (deeds.SignedChallenge channel state who signature) w e = absurd cc
not-look (deeds.Called call) w e = absurd cc

-- ---- over the places

-- the goal of a command, but that it may be closing
pub record IsGoalOf (command : Command) (g : Goal) : Type 0 where
  pub n : ℕ
  pub first : Goal
  pub there : In first (goals_of n command)
  pub opening : g.opening ≡ first.opening
  pub amounts : g.amounts ≡ first.amounts

-- the command of a goal, and its part
pub record GoalOf (r : Rules) (key : List ℕ) (parts : List Part) (front : List Told) (g : Goal) : Type 0 where
  pub command : Command
  pub took : Took command front
  pub p : Part
  pub at : slice_get parts g.part ≡ Some p
  pub of : In p (parts_of r key command)
  pub goal : IsGoalOf command g

close-keeps : (lets b : Bool) (g : Goal) → ((close_if lets b g).opening ≡ g.opening) × ((close_if lets b g).amounts ≡ g.amounts)
close-keeps lets true g = (refl, refl)
close-keeps lets false g = (refl, refl)

-- the last of these parts
record LastPart (old news : List Part) : Type 0 where
  p : Part
  at : slice_get (old ++ news) (length old) ≡ Some p
  there : In p news

last-part : (old news : List Part) → length news ≡ 1 → LastPart old news
last-part [] [] e = absurd (omega arith)
last-part [] (p ∷ ps) e = record { p = p; at = refl; there = inl refl }
last-part (x ∷ old) news e = let l = last-part old news e in record { p = l.p; at = l.at; there = l.there }

module _ (t : Tables) (r : Rules) (s : Signing) (h : List Entry) (legal : Legal r h) (any : FixedParts) where
  key-at : (later past : List Entry) (front : List Told) → h ≡ later ++ past → AreFew past → (mind_at r s.key past front).key ≡ s.key
  key-at later past front is few = (known r s.key any past front (legal-suffix r later past (subst (Legal r) is legal)) few).own

  abbrev Stand : List Entry → List Told → Type 0
  Stand past front = (command : Command) (p : Part) → Took command front → In p (parts_of r s.key command) → In p (mind_at r s.key past front).parts

  stand-is-kept : (journal : List Told) → IsKept t r s h journal Stand
  stand-is-kept journal = record {
    first = λ past command p a i. absurd a.there;
    event = at-event;
    look = λ past x front w was command p a i. subst (λ (m : Mind). In p m.parts) (sym (mind-watched r s.key past x front (looked r x.deed x.command w))) (was command p (took-before command x front a (other x front command w a a.there)) i);
    entry = λ past e front seen was command p a i. subst (λ (m : Mind). In p m.parts) (sym (mind-entry r s.key past e front seen)) (was command p a i);
  }
    where
      other : (x : Told) (front : List Told) (command : Command) → is_watched x.deed ≡ true → (a : Took command (x ∷ front)) → (a.event ≡ x) ⊎ In a.event front → In a.event front
      other x front command w a (inl e) = absurd (not-look x.deed w (subst (λ (y : Told). is_followed y.deed ≡ true) e a.followed))
      other x front command w a (inr i) = i

      at-event : (past : List Entry) (x : Told) (front : List Told) → AtEvent t r s h journal past x front → Stand past front → Stand past (x ∷ front)
      at-event past x front at was command p a i = subst (λ (m : Mind). In p m.parts) (sym (mind-event r s.key past x front at.len)) (go a.there)
        where
          m : Mind
          m = mind_at r s.key past front

          go : (a.event ≡ x) ⊎ In a.event front → In p (did r x.deed x.command m).parts
          go (inl e) =
              taken-parts r x.deed x.command command m (subst (λ (y : Told). is_followed y.deed ≡ true) e a.followed) (subst (λ (y : Told). y.command ≡ Some command) e a.is) p
              (subst (λ (k : List ℕ). In p (parts_of r k command)) (sym (key-at at.later past front at.entries (at.event.place at.later past at.entries at.len).0)) i)
          go (inr j) =
              grows t r x.deed x.command m (did r x.deed x.command m)
              (event-changes t r s past (signings front) (pending front) x.deed x.command m (at.event.place at.later past at.entries at.len).1) p (was command p (took-before command x front a j) i)

  -- the parts of what was taken stand in the plan
  pub stand : (journal : List Told) → Plays t r s h journal → (later past : List Entry) → h ≡ later ++ past → Seen past journal → Stand past journal
  stand journal plays later past is seen = over t r s h journal Stand (stand-is-kept journal) [] journal refl plays later past is seen

  -- and so do its channels
  channel-stands : (journal : List Told) → Plays t r s h journal → (later past : List Entry) → h ≡ later ++ past → Seen past journal → (command : Command) → Took command journal
      → (f : FixedParts) → In f (opened_by command) → is_among (r.named f) (channels (mind_at r s.key past journal).parts) ≡ true
  channel-stands journal plays later past is seen command a f i =
      let has = has-part (r.named f) (parts_of r s.key command) (ap (is_among (r.named f)) (opened-channels r s.key command) ∙ among-named r (opened_by command) f i) in
      among-channels (r.named f) (mind_at r s.key past journal).parts has.p (stand journal plays later past is seen command has.p a has.there) has.among

  -- what was taken isn't opened again
  twice : (x : Told) (front : List Told) → PlaysEvent t r s h x front → Plays t r s h front → (c d : Command) (f g : FixedParts) → is_followed x.deed ≡ true → x.command ≡ Some c → Took d front
      → In f (opened_by c) → In g (opened_by d) → r.named g ≡ r.named f → ⊥
  twice x front ev plays c d f g followed is a i j same = at (suffix_of h x.seen ev.within)
    where
      at : Suffix h x.seen → ⊥
      at su = clash (is_among (r.named f) (channels m.parts)) (subst (λ (n : List ℕ). is_among n (channels m.parts) ≡ true) same there) gone
        where
          m : Mind
          m = mind_at r s.key su.past front

          there : is_among (r.named g) (channels m.parts) ≡ true
          there = channel-stands front plays su.later su.past su.is (λ y n w. subst (λ (k : ℕ). y.seen ≤ k) (sym su.len) (ev.rising y n w)) d a g j

          new : are_new m (map r.named (opened_by c)) ≡ true
          new = and-right (t.fits (facts_of m) c) (are_new m (map r.named (opened_by c)))
              (taken-can t r s su.past (signings front) (pending front) x.deed x.command m (ev.place su.later su.past su.is su.len).1 followed c is f i)

          gone : is_among (r.named f) (channels m.parts) ≡ false
          gone = fresh-name m (map r.named (opened_by c)) (r.named f) (and-right (are_apart (map r.named (opened_by c))) (list_all (λ name. not (is_planned m name)) (map r.named (opened_by c))) new)
              (among-named r (opened_by c) f i)

  -- commands that open a channel of one name are one
  pub one-command : (journal : List Told) → Plays t r s h journal → (c d : Command) (f g : FixedParts) → Took c journal → Took d journal → In f (opened_by c) → In g (opened_by d) → r.named g ≡ r.named f → c ≡ d
  one-command [] plays c d f g a b i j same = absurd a.there
  one-command (x ∷ front) plays c d f g a b i j same = by (λ a b. one-command front plays.1 c d f g a b i j same) a.there b.there
    where
      follows-x : (k : Command) (e : Took k (x ∷ front)) → e.event ≡ x → (is_followed x.deed ≡ true) × (x.command ≡ Some k)
      follows-x k e is = (subst (λ (y : Told). is_followed y.deed ≡ true) is e.followed, subst (λ (y : Told). y.command ≡ Some k) is e.is)

      by : (Took c front → Took d front → c ≡ d) → (a.event ≡ x) ⊎ In a.event front → (b.event ≡ x) ⊎ In b.event front → c ≡ d
      by rest (inl e) (inl k) = some-eq c d (sym (follows-x c a e).1 ∙ (follows-x d b k).1)
      by rest (inl e) (inr k) = absurd (twice x front plays.0 plays.1 c d f g (follows-x c a e).0 (follows-x c a e).1 (took-before d x front b k) i j same)
      by rest (inr k) (inl e) = absurd (twice x front plays.0 plays.1 d c g f (follows-x d b e).0 (follows-x d b e).1 (took-before c x front a k) j i (sym same))
      by rest (inr k) (inr l) = rest (took-before c x front a k) (took-before d x front b l)

  -- what was taken could be opened where it was
  record Opened (c : Command) : Type 0 where
    m : Mind
    can : can_open t r m c ≡ true

  opened-at : (journal : List Told) → Plays t r s h journal → (c : Command) (f : FixedParts) → Took c journal → In f (opened_by c) → Opened c
  opened-at journal plays c f a i = at (split_of a.event journal a.there)
    where
      at : Split a.event journal → Opened c
      at sp = by (plays-at t r s h sp.newer a.event sp.front (subst (Plays t r s h) sp.is plays))
        where
          by : PlaysEvent t r s h a.event sp.front → Opened c
          by ev =
              let su = suffix_of h a.event.seen ev.within in
              let m : Mind = mind_at r s.key su.past sp.front in
              record { m = m; can = taken-can t r s su.past (signings sp.front) (pending sp.front) a.event.deed a.event.command m (ev.place su.later su.past su.is su.len).1 a.followed c a.is f i }

  -- the channels of a command have names of their own
  pub apart-names : (journal : List Told) → Plays t r s h journal → (c : Command) (f : FixedParts) → Took c journal → In f (opened_by c) → are_apart (map r.named (opened_by c)) ≡ true
  apart-names journal plays c f a i =
      let o = opened-at journal plays c f a i in
      and-left (are_apart (map r.named (opened_by c))) (list_all (λ name. not (is_planned o.m name)) (map r.named (opened_by c)))
      (and-right (t.fits (facts_of o.m) c) (are_new o.m (map r.named (opened_by c))) o.can)

  -- and it fitted what was known
  pub fitted : (journal : List Told) → Plays t r s h journal → (c : Command) (f : FixedParts) → Took c journal → In f (opened_by c) → (m : Mind) × (t.fits (facts_of m) c ≡ true)
  fitted journal plays c f a i =
      let o = opened-at journal plays c f a i in
      (o.m, and-left (t.fits (facts_of o.m) c) (are_new o.m (map r.named (opened_by c))) o.can)

  -- ---- goals

  abbrev Goals : List Entry → List Told → Type 0
  Goals past front = (g : Goal) → In g (mind_at r s.key past front).goals → GoalOf r s.key (mind_at r s.key past front).parts front g

  longer : (parts new : List Part) (x : Told) (front : List Told) (g from : Goal) (o : GoalOf r s.key parts front from) → g.opening ≡ from.opening → g.amounts ≡ from.amounts → slice_get new g.part ≡ Some o.p
      → GoalOf r s.key new (x ∷ front) g
  longer parts new x front g from o opening amounts at = record {
    command = o.command;
    took = took-later o.command (x ∷ []) front o.took;
    p = o.p;
    at = at;
    of = o.of;
    goal = record { n = o.goal.n; first = o.goal.first; there = o.goal.there; opening = opening ∙ o.goal.opening; amounts = amounts ∙ o.goal.amounts };
  }

  goals-event : (past : List Entry) (x : Told) (front : List Told) (m new : Mind) → m.key ≡ s.key → ((g : Goal) → In g m.goals → g.part < length m.parts) → Change t r x.deed x.command m new
      → ((g : Goal) → In g m.goals → GoalOf r s.key m.parts front g) → (g : Goal) → In g new.goals → GoalOf r s.key new.parts (x ∷ front) g
  goals-event past x front m new own within (stays parts goals) was g i =
      let o = was g (subst (In g) goals i) in
      longer m.parts new.parts x front g g o refl refl (ap (λ (ps : List Part). slice_get ps g.part) parts ∙ o.at)
  goals-event past x front m new own within (closes lets channel accepted parts goals) was g i =
      let old = mapped (λ (goal : Goal). close_if lets (goal.part == place_with channel m.parts) goal) g m.goals (subst (In g) goals i) in
      let b : Bool = old.from.part == place_with channel m.parts in
      let o = was old.from old.there in
      let keeps = close-keeps lets b old.from in
      longer m.parts new.parts x front g old.from o (ap (λ (z : Goal). z.opening) old.is ∙ keeps.0) (ap (λ (z : Goal). z.amounts) old.is ∙ keeps.1)
      (ap (λ (ps : List Part). slice_get ps g.part) parts ∙ (ap (slice_get m.parts) (ap (λ (z : Goal). z.part) old.is ∙ close-part lets b old.from) ∙ o.at))
  goals-event past x front m new own within (opens command followed is accepted parts goals) was g i = go (In-append_cases g m.goals (goals_of (length m.parts) command) (subst (In g) goals i))
    where
      news : List Part
      news = parts_of r m.key command

      go : In g m.goals ⊎ In g (goals_of (length m.parts) command) → GoalOf r s.key new.parts (x ∷ front) g
      go (inl j) =
          let o = was g j in
          longer m.parts new.parts x front g g o refl refl (ap (λ (ps : List Part). slice_get ps g.part) parts ∙ (get-append m.parts news g.part (within g j) ∙ o.at))
      go (inr j) =
          let n = new-goal r m.key (length m.parts) command g j in
          let l = last-part m.parts news n.one in
          record {
            command = command;
            took = record { event = x; there = inl refl; followed = followed; is = is };
            p = l.p;
            at = ap (λ (ps : List Part). slice_get ps g.part) parts ∙ (ap (slice_get (m.parts ++ news)) n.place ∙ l.at);
            of = subst (λ (k : List ℕ). In l.p (parts_of r k command)) own l.there;
            goal = record { n = length m.parts; first = g; there = j; opening = refl; amounts = refl };
          }

  goals-are-kept : (journal : List Told) → IsKept t r s h journal Goals
  goals-are-kept journal = record {
    first = nothing-yet;
    event = λ past x front at was. subst (λ (m : Mind). (g : Goal) → In g m.goals → GoalOf r s.key m.parts (x ∷ front) g) (sym (mind-event r s.key past x front at.len))
        (goals-event past x front (mind_at r s.key past front) (did r x.deed x.command (mind_at r s.key past front)) (key-at at.later past front at.entries (at.event.place at.later past at.entries at.len).0)
        (is-planned t r s h front at.plays at.later past at.entries at.before).within
        (event-changes t r s past (signings front) (pending front) x.deed x.command (mind_at r s.key past front) (at.event.place at.later past at.entries at.len).1) was);
    look = λ past x front w was. subst (λ (m : Mind). (g : Goal) → In g m.goals → GoalOf r s.key m.parts (x ∷ front) g) (sym (mind-watched r s.key past x front (looked r x.deed x.command w)))
        (λ g i. let o = was g i in longer (mind_at r s.key past front).parts (mind_at r s.key past front).parts x front g g o refl refl o.at);
    entry = λ past e front seen was. subst (λ (m : Mind). (g : Goal) → In g m.goals → GoalOf r s.key m.parts front g) (sym (mind-entry r s.key past e front seen)) was;
  }
    where
      nothing-yet : (past : List Entry) → Goals past []
      nothing-yet [] g i = absurd i
      nothing-yet (e ∷ past) g i = nothing-yet past g i

  -- each goal is of a command that was taken
  pub goals-of : (journal : List Told) → Plays t r s h journal → (later past : List Entry) → h ≡ later ++ past → Seen past journal → Goals past journal
  goals-of journal plays later past is seen = over t r s h journal Goals (goals-are-kept journal) [] journal refl plays later past is seen
