-- What a node let go of it let go of for good, and at each tick it calls for what is due to it there.
use Rattle.std.proofs.Common.{◌≡◌, ℕ, ◌+◌, Bool, true, false, cond, ◌||◌, not, List, [], ◌∷◌, ◌++◌, length, refl, sym, ◌∙◌, ap, subst}
use Rattle.std.specs.Prelude.{◌==◌, nat_lt, Option, Some, None, Result, Ok, Err, map, Contains}
use Rattle.std.specs.List.{position, position_or_len}
use Rattle.std.specs.Str.{bytes_eq}
use Rattle.channel_values.specs.Parts.{StateParts}
use Rattle.channel_values.specs.Amounts.{aff}
use Rattle.channel_values.specs.Messages.{message_of_state}
use Rattle.channel_values.specs.Digests.{name_of_person}
use Rattle.channel_values.specs.Places.{place_of}
use Rattle.channel_values.specs.declared.fault.ByteFault.{ByteFault}
use Rattle.channel_values.specs.declared.value.AssetOutcome.{AssetOutcome}
use Rattle.channel_values.specs.declared.value.Dest.TheVariants.{Person}
use Rattle.call_history.specs.Mode.{is_final}
use Rattle.call_history.proofs.Names.{same_bytes, bytes_eq_self}
use Rattle.call_history.specs.Calls.{make_transfer}
use Rattle.call_history.specs.Flows.{is_among}
use Rattle.call_history.specs.Reading.{message_of}
use Rattle.call_history.specs.Spelling.{Message}
use Rattle.call_history.specs.declared.call.Call.{Call}
use Rattle.call_history.specs.declared.entry.Entry.{Entry}
use Rattle.call_history.specs.declared.event.Deed.{Deed}
use Rattle.call_history.specs.declared.event.Deed.TheVariants as deeds
use Rattle.call_history.specs.declared.held_chain.Place.{Place}
use Rattle.call_history.specs.declared.view.WorldView.{WorldView}
use Rattle.channel_safety.proofs.Lists.{split_of}
use Rattle.channel_safety.proofs.Members.{In-append_left, In-append_right, contains, contained}
use Rattle.channel_safety.proofs.Tests.{some-eq, none-eq, cond-false}
use Rattle.channel_safety.specs.Journals.{In}
use Rattle.channel_store.proofs.Places.{found_passes}
use Rattle.channel_store.specs.Storing.{kept_of}
use Rattle.channel_store.specs.declared.kept.Kept.{Kept}
use Rattle.funding_plans.specs.Gathered as gathered
use Rattle.funding_plans.specs.Known.{FactsOf}
use Rattle.funding_plans.specs.Parts.{own_channel, channels_of}
use Rattle.funding_plans.specs.Shapes.{items_in}
use Rattle.funding_plans.specs.declared.plan.Goal.{Goal}
use Rattle.funding_plans.specs.declared.plan.Part.{Part}
use Rattle.funding_plans.specs.declared.plan.Part.TheVariants.{Root, OnLedger, End, Middle}
use Rattle.ledger_channel.specs.Roots.{Direct, held_of, is_due_in}
use Rattle.ledger_channel.specs.Stages.{standing_in, held_in, settled_in, rest_in, direct_with, direct_of, direct_in, settles_of_root, abandons_of_root}
use Rattle.network.specs.declared.command.Command.{Command}
use Rattle.network.specs.declared.command.Command.TheVariants as commands
use Rattle.network.specs.declared.command.Release.{Release}
use Rattle.network.specs.declared.command.Release.TheVariants.{Settle, Abandon}
use Rattle.further_laws.proofs.Lasting.{KeptSo, did-so, saw-so}
use Rattle.channel_node.specs.Giving.{in_order, after_signing, after_challenging, challenge_calls}
use Rattle.channel_node.specs.Leaving.{OwnChallenge, challenge_in, exits_given, calls_of}
use Rattle.channel_node.specs.Minds.{Mind, facts_of, place_with, close_if, saw, noted_message, commanded, did}
use Rattle.channel_node.specs.Nodes.{NodeOf, signed, signed_if, ticked, challenged, challenged_if, challenged_all}
use Rattle.channel_node.specs.Openings.{parts_of, goals_of}
use Rattle.channel_node.specs.Playing.{Signing}
use Rattle.channel_node.specs.Refusing.{part_with, signs_in}
use Rattle.further_laws.proofs.LetGo.{let_go_is_called_for}
use Rattle.further_laws.specs.LetGo.{IsLetGo, own_transfer}
use Rattle.stage_tables.specs.Stages.{stages}
use Rattle.support_rules.specs.Real.{real}
use Rattle.support_rules.specs.Steps.{persons}
use Rattle.further_laws.specs.LettingGo.{HasLetGo, ReleasesLetGo, LetGoStays, TicksCallForIt}
use Rattle.fairness_laws.proofs.Accepted.{LetGo, let-go, kept-on-ledger, kept-end, kept-middle}
use Rattle.fairness_laws.proofs.Closing.{place-none, find-in}
use Rattle.fairness_laws.proofs.Plan.Goals.{about, goal-opens, goal-closes}
use Rattle.fairness_laws.proofs.Planned.{own-among, or-true}
use Rattle.fairness_laws.proofs.RootWishes.{seat, direct-found}

-- ---- a root by what a mind has of it

-- what was commanded of it, and what is kept of it, with as many people as channels have
record Rooted (name : List ℕ) (m : Mind) : Type 0 where
  g : Goal
  goal : gathered.goal_in (facts_of m) name ≡ Some g
  k : Kept
  keeps : kept_of name m.kept ≡ Some k
  few : gathered.are_few (persons k.chain.fixed) ≡ true

module _ (name : List ℕ) (m : Mind) where
  abbrev knows : FactsOf
  knows = facts_of m

  -- it is this root
  abbrev root-of : Goal → Kept → Direct
  root-of g k =
      direct_with knows (seat k g name (gathered.chain_in name knows.chains) (gathered.last_of (gathered.known_in name knows.known))) g
      (gathered.chain_in name knows.chains) (gathered.view_in name knows.view.channels)

  is-root : (x : Rooted name m) → direct_in knows name ≡ Some (root-of x.g x.k)
  is-root x =
      direct-found m name x.g x.k x.goal x.keeps
      ∙ ap (λ (b : Bool). direct_of knows name (gathered.seat_if b (seat x.k x.g name (gathered.chain_in name knows.chains) (gathered.last_of (gathered.known_in name knows.known)))) (Some x.g)) x.few

  -- and each root is such a one
  record RootIs (d : Direct) : Type 0 where
    rooted : Rooted name m
    is : d ≡ root-of rooted.g rooted.k

  root-is : (d : Direct) → direct_in knows name ≡ Some d → RootIs d
  root-is d e = by-goal (gathered.goal_in knows name) refl
    where
      no-root : direct_in knows name ≡ None → ⊥
      no-root n = none-eq d (sym n ∙ e)

      by-few : (g : Goal) (k : Kept) → gathered.goal_in knows name ≡ Some g → kept_of name m.kept ≡ Some k → (few : Bool) → gathered.are_few (persons k.chain.fixed) ≡ few → RootIs d
      by-few g k goal keeps true few =
          let x : Rooted name m = record { g = g; goal = goal; k = k; keeps = keeps; few = few } in
          record { rooted = x; is = some-eq d (root-of g k) (sym e ∙ is-root x) }
      by-few g k goal keeps false few =
          absurd (no-root (direct-found m name g k goal keeps
          ∙ ap (λ (b : Bool). direct_of knows name (gathered.seat_if b (seat k g name (gathered.chain_in name knows.chains) (gathered.last_of (gathered.known_in name knows.known)))) (Some g)) few))

      by-kept : (g : Goal) → gathered.goal_in knows name ≡ Some g → (o : Option Kept) → kept_of name m.kept ≡ o → RootIs d
      by-kept g goal None none =
          absurd (no-root (ap (λ (o : Option Goal). direct_of knows name (gathered.seat_for knows name o) o) goal
          ∙ ap (λ (p : Option Place). direct_of knows name (gathered.seat_at knows name g.opening p) (Some g)) (place-none name m.kept none)))
      by-kept g goal (Some k) keeps = by-few g k goal keeps (gathered.are_few (persons k.chain.fixed)) refl

      by-goal : (o : Option Goal) → gathered.goal_in knows name ≡ o → RootIs d
      by-goal None goal = absurd (no-root (ap (λ (o : Option Goal). direct_of knows name (gathered.seat_for knows name o) o) goal))
      by-goal (Some g) goal = by-kept g goal (kept_of name m.kept) refl

-- the node let go of it
record Gone (name : List ℕ) (m : Mind) : Type 0 where
  rooted : Rooted name m
  closes : rooted.g.closing ≡ true
  over : rooted.g.over ≡ true

gone-is : (name : List ℕ) (m : Mind) (x : Gone name m) → IsLetGo (facts_of m) name (root-of name m x.rooted.g x.rooted.k)
gone-is name m x = record { known = is-root name m x.rooted; closes = x.closes; over = x.over }

is-gone : (name : List ℕ) (m : Mind) (d : Direct) → IsLetGo (facts_of m) name d → Gone name m
is-gone name m d l =
    let r : RootIs name m d = root-is name m d l.known in
    record { rooted = r.rooted; closes = ap (λ (x : Direct). x.closing) (sym r.is) ∙ l.closes; over = ap (λ (x : Direct). x.over) (sym r.is) ∙ l.over }

has-let-go : (name : List ℕ) (m : Mind) → In (Root name) m.parts → Gone name m → HasLetGo name m
has-let-go name m there x = record { there = there; root = root-of name m x.rooted.g x.rooted.k; is = gone-is name m x }

-- ---- an accepted Release

-- the place in a longer list, by whether the first passes
abbrev places-by : Bool → ℕ → ℕ
places-by b n = cond (not b) (1 + n) 0

-- the place of the part that has the channel of a root is that of the part that is about it
same-place : (c : List ℕ) (parts : List Part) → part_with c parts ≡ Some (Root c) → position_or_len (about c) parts ≡ place_with c parts
same-place c [] e = absurd (none-eq (Root c) e)
same-place c (x ∷ xs) e = go (is_among c (channels_of x)) refl (same-place c xs) e
  where
    about-root : x ≡ Root c → about c x ≡ true
    about-root same = ap (about c) same ∙ bytes_eq_self c

    about-not : (b : Bool) → about c x ≡ b → is_among c (channels_of x) ≡ false → b ≡ false
    about-not false is none = refl
    about-not true is none = sym (subst (λ (n : List ℕ). is_among n (channels_of x) ≡ true) (same_bytes (own_channel x) c is) (own-among x)) ∙ none

    go : (b : Bool) → is_among c (channels_of x) ≡ b → (part_with c xs ≡ Some (Root c) → position_or_len (about c) xs ≡ place_with c xs) → cond b (Some x) (part_with c xs) ≡ Some (Root c)
        → places-by (about c x) (position_or_len (about c) xs) ≡ places-by (is_among c (channels_of x)) (place_with c xs)
    go true is ih e =
        ap (λ (b : Bool). places-by b (position_or_len (about c) xs)) (about-root (some-eq x (Root c) e))
        ∙ sym (ap (λ (b : Bool). places-by b (place_with c xs)) is)
    go false is ih e =
        ap (λ (b : Bool). places-by b (position_or_len (about c) xs)) (about-not (about c x) refl is)
        ∙ (ap (λ (n : ℕ). 1 + n) (ih e) ∙ sym (ap (λ (b : Bool). places-by b (place_with c xs)) is))

-- a goal that is found is of the place at which it is looked for
at-place : (c : List ℕ) (parts : List Part) (goals : List Goal) (g : Goal) → gathered.goal_at (position (about c) parts) goals ≡ Some g → (g.part == position_or_len (about c) parts) ≡ true
at-place c parts goals g e = go (nat_lt (position_or_len (about c) parts) (length parts)) e
  where
    go : (b : Bool) → gathered.goal_at (cond b (Some (position_or_len (about c) parts)) None) goals ≡ Some g → (g.part == position_or_len (about c) parts) ≡ true
    go true h = found_passes (λ (x : Goal). x.part == position_or_len (about c) parts) goals g h
    go false h = absurd (none-eq g h)

or-false : (b : Bool) → (b || false) ≡ true → b ≡ true
or-false true e = refl
or-false false e = e

module _ (f : FactsOf) (c : List ℕ) where
  record There : Type 0 where
    root : Direct
    is : direct_in f c ≡ Some root

  -- a root that may be let go of is there
  may-be : (how : Release) → stages.releases f how (Root c) ≡ true → There
  may-be Settle e = go (direct_in f c) refl e
    where
      go : (o : Option Direct) → direct_in f c ≡ o → settles_of_root o ≡ true → There
      go None is e = absurd cc
      go (Some d) is e = record { root = d; is = is }
  may-be Abandon e = go (direct_in f c) refl e
    where
      go : (o : Option Direct) → direct_in f c ≡ o → abandons_of_root o ≡ true → There
      go None is e = absurd cc
      go (Some d) is e = record { root = d; is = is }

module _ (m : Mind) (how : Release) (channel c : List ℕ) (same : channel ≡ c) (found : part_with channel m.parts ≡ Some (Root c)) (there : There (facts_of m) c) where
  abbrev after-release : Mind
  after-release = commanded real (commands.Release how channel) m

  root-there : RootIs c m there.root
  root-there = root-is c m there.root there.is

  abbrev goal-there : Goal
  goal-there = root-there.rooted.g

  placed : (goal-there.part == place_with channel m.parts) ≡ true
  placed =
      subst (λ (name : List ℕ). (goal-there.part == place_with name m.parts) ≡ true) (sym same)
      (subst (λ (n : ℕ). (goal-there.part == n) ≡ true) (same-place c m.parts (subst (λ (name : List ℕ). part_with name m.parts ≡ Some (Root c)) same found))
      (at-place c m.parts m.goals goal-there root-there.rooted.goal))

  released : HasLetGo c after-release
  released = has-let-go c after-release (find-in (λ part. is_among channel (channels_of part)) m.parts (Root c) found) (record {
    rooted = record {
      g = close_if true true goal-there;
      goal =
          goal-closes true m after-release c (place_with channel m.parts) refl refl goal-there root-there.rooted.goal
          ∙ ap (λ (b : Bool). Some (close_if true b goal-there)) placed;
      k = root-there.rooted.k;
      keeps = root-there.rooted.keeps;
      few = root-there.rooted.few;
    };
    closes = refl;
    over = refl;
  })

pub releases_let_go : ReleasesLetGo
releases_let_go limit used m how channel e = by l.part l.found l.may
  where
    l : LetGo m channel
    l = let-go m channel how (sym e)

    by : (p : Part) → part_with channel m.parts ≡ Some p → stages.releases (facts_of m) l.how p ≡ true → HasLetGo channel (commanded real (commands.Release how channel) m)
    by (Root c) found may =
        let same : channel ≡ c =
        same_bytes channel c (or-false (bytes_eq channel c) (found_passes (λ part. is_among channel (channels_of part)) m.parts (Root c) found)) in
        subst (λ (name : List ℕ). HasLetGo name (commanded real (commands.Release how channel) m)) (sym same)
        (released m how channel c same found (may-be (facts_of m) c l.how may))
    by (OnLedger ledger c) found may = absurd (kept-on-ledger (facts_of m) ledger c l.how may)
    by (End v) found may = absurd (kept-end (facts_of m) v l.how may)
    by (Middle v) found may = absurd (kept-middle (facts_of m) v l.how may)

-- ---- whatever comes later

record Still (name : List ℕ) (m : Mind) : Type 0 where
  there : In (Root name) m.parts
  gone : Gone name m

module _ (name : List ℕ) (m : Mind) (was : Still name m) where
  abbrev IsFew : Kept → Type 0
  IsFew k = gathered.are_few (persons k.chain.fixed) ≡ true

  abbrev goal-was : Goal
  goal-was = was.gone.rooted.g

  kept-few : KeptSo name IsFew m.kept
  kept-few = record { k = was.gone.rooted.k; is = was.gone.rooted.keeps; holds = was.gone.rooted.few }

  -- with a goal that says so
  with-goal : (next : Mind) → In (Root name) next.parts → (goal : Goal) → gathered.goal_in (facts_of next) name ≡ Some goal → goal.closing ≡ true → goal.over ≡ true
      → KeptSo name IsFew next.kept → Still name next
  with-goal next there goal is closes over h = record {
    there = there;
    gone = record { rooted = record { g = goal; goal = is; k = h.k; keeps = h.is; few = h.holds }; closes = closes; over = over };
  }

  -- where neither parts nor goals change
  with-same : (next : Mind) → next.parts ≡ m.parts → gathered.goal_in (facts_of next) name ≡ gathered.goal_in (facts_of m) name → KeptSo name IsFew next.kept → Still name next
  with-same next parts goals h =
      with-goal next (subst (In (Root name)) (sym parts) was.there) goal-was (goals ∙ was.gone.rooted.goal) was.gone.closes was.gone.over h

  opens-still : (command : Command) (next : Mind) → next.parts ≡ m.parts ++ parts_of real m.key command → next.goals ≡ m.goals ++ goals_of (length m.parts) command
      → KeptSo name IsFew next.kept → Still name next
  opens-still command next parts goals h =
      with-goal next (subst (In (Root name)) (sym parts) (In-append_left (Root name) m.parts (parts_of real m.key command) was.there)) goal-was
      (goal-opens m next name (parts_of real m.key command) (goals_of (length m.parts) command) parts goals goal-was was.gone.rooted.goal) was.gone.closes was.gone.over h

  closes-still : (lets : Bool) (place : ℕ) (next : Mind) → next.parts ≡ m.parts → next.goals ≡ map (λ goal. close_if lets (goal.part == place) goal) m.goals
      → KeptSo name IsFew next.kept → Still name next
  closes-still lets place next parts goals h =
      with-goal next (subst (In (Root name)) (sym parts) was.there) (close_if lets (goal-was.part == place) goal-was)
      (goal-closes lets m next name place parts goals goal-was was.gone.rooted.goal) (shut (goal-was.part == place)) (let-go-still (goal-was.part == place)) h
    where
      shut : (b : Bool) → (close_if lets b goal-was).closing ≡ true
      shut true = refl
      shut false = was.gone.closes

      let-go-still : (b : Bool) → (close_if lets b goal-was).over ≡ true
      let-go-still true = or-true lets goal-was.over was.gone.over
      let-go-still false = was.gone.over

  commanded-still : (command : Command) → KeptSo name IsFew (commanded real command m).kept → Still name (commanded real command m)
  commanded-still (commands.Open fixed outcome) h = opens-still (commands.Open fixed outcome) (commanded real (commands.Open fixed outcome) m) refl refl h
  commanded-still (commands.OpenOn o) h = opens-still (commands.OpenOn o) (commanded real (commands.OpenOn o) m) refl refl h
  commanded-still (commands.OpenVirtual v) h = opens-still (commands.OpenVirtual v) (commanded real (commands.OpenVirtual v) m) refl refl h
  commanded-still (commands.Pay channel asset amount) h = was
  commanded-still (commands.Close channel) h = closes-still false (place_with channel m.parts) (commanded real (commands.Close channel) m) refl refl h
  commanded-still (commands.Release how channel) h = closes-still true (place_with channel m.parts) (commanded real (commands.Release how channel) m) refl refl h
  commanded-still (commands.Resend channel) h = was
  commanded-still commands.Exit h = with-same (commanded real commands.Exit m) refl refl h

  did-still : (deed : Deed) (command : Option Command) → Still name (did real deed command m)
  did-still deed command = by deed command (did-so real name IsFew (λ x k e. e) m kept-few deed command (λ x is k e. e))
    where
      noted-still : (o : Result Message ByteFault) → KeptSo name IsFew (noted_message real o m).kept → Still name (noted_message real o m)
      noted-still (Ok x) h = with-same (noted_message real (Ok x) m) refl refl h
      noted-still (Err fault) h = was

      by : (deed : Deed) (command : Option Command) → KeptSo name IsFew (did real deed command m).kept → Still name (did real deed command m)
      by (deeds.Commanded step None) None h = was
      by (deeds.Commanded step None) (Some command) h = commanded-still command h
      by (deeds.Commanded step (Some refusal)) None h = was
      by (deeds.Commanded step (Some refusal)) (Some command) h = was
      by (deeds.Handled bytes None) command h = noted-still (message_of bytes) h
      by (deeds.Handled bytes (Some refusal)) command h = was
      by (deeds.Signed channel state signature) command h = with-same (did real (deeds.Signed channel state signature) command m) refl refl h
      by (deeds.SignedChallenge channel state who signature) command h = was
      by (deeds.Called call) command h = was
      by (deeds.Watched watcher calls) command h = was

  saw-still : (e : Entry) → Still name (saw real e m)
  saw-still e = with-same (saw real e m) refl refl (saw-so real name IsFew (λ w k few. few) m kept-few e)

still-so : (name : List ℕ) (m : Mind) → HasLetGo name m → Still name m
still-so name m h = record { there = h.there; gone = is-gone name m h.root h.is }

has-still : (name : List ℕ) (m : Mind) → Still name m → HasLetGo name m
has-still name m x = has-let-go name m x.there x.gone

pub let_go_stays : LetGoStays
let_go_stays name m h = record {
  events = λ deed command. has-still name (did real deed command m) (did-still name m (still-so name m h) deed command);
  entries = λ e. has-still name (saw real e m) (saw-still name m (still-so name m h) e);
}

-- ---- a tick

-- a root of which the same is due
record SameDue (d e : Direct) : Type 0 where
  named : d.channel.name ≡ e.channel.name
  who : d.who ≡ e.who
  standing : d.standing ≡ e.standing
  held : d.held ≡ e.held
  settled : d.settled ≡ e.settled
  rest : d.rest ≡ e.rest

-- by the same view
same-due : (name : List ℕ) (m next : Mind) (g h : Goal) (k j : Kept) → next.key ≡ m.key → next.view ≡ m.view → SameDue (root-of name next h j) (root-of name m g k)
same-due name m next g h k j key view = record {
  named = refl;
  who = ap name_of_person key;
  standing = ap (λ (v : WorldView). standing_in v.now (gathered.view_in name v.channels)) view;
  held = ap (λ (v : WorldView). held_in (gathered.view_in name v.channels)) view;
  settled = ap (λ (v : WorldView). settled_in (gathered.view_in name v.channels)) view;
  rest = ap (λ (v : WorldView). rest_in (gathered.view_in name v.channels)) view;
}

module _ (d e : Direct) (same : SameDue d e) (settled rest : List AssetOutcome) (o : AssetOutcome) where
  own-same : own_transfer d settled rest o ≡ own_transfer e settled rest o
  own-same =
      ap (λ (name : List ℕ). make_transfer name settled o.asset (place_of (items_in o.asset rest) (Person d.who))) same.named
      ∙ ap (λ (who : List ℕ). make_transfer e.channel.name settled o.asset (place_of (items_in o.asset rest) (Person who))) same.who

  due-same : is_due_in d rest o ≡ is_due_in e rest o
  due-same =
      ap (λ (held : List (ℕ × ℕ)). not (aff (items_in o.asset rest) (held_of o.asset held) (Person d.who) == 0)) same.held
      ∙ ap (λ (who : List ℕ). not (aff (items_in o.asset rest) (held_of o.asset e.held) (Person who) == 0)) same.who

-- what else a tick leaves as it was
record After (name : List ℕ) (m next : Mind) : Type 0 where
  still : Still name next
  key : next.key ≡ m.key
  view : next.view ≡ m.view
  left : next.left ≡ m.left

module _ (name : List ℕ) (s : Signing) where
  signs-after : (channel : List ℕ) (o : Option StateParts) (n : NodeOf) → Still name n.mind → After name n.mind (signed_if real s channel o n).mind
  signs-after channel None n was = record { still = was; key = refl; view = refl; left = refl }
  signs-after channel (Some state) n was = go (nat_lt n.used s.limit)
    where
      go : (b : Bool) → After name n.mind (cond b (signed real s channel state n) n).mind
      go true = record {
        still = did-still name n.mind was (deeds.Signed channel state (s.made n.used (message_of_state (real.digest channel state)))) None;
        key = refl;
        view = refl;
        left = refl;
      }
      go false = record { still = was; key = refl; view = refl; left = refl }

  ticks-after : (channels : List (List ℕ)) (n : NodeOf) → Still name n.mind → After name n.mind (ticked stages real s channels n).mind
  ticks-after [] n was = record { still = was; key = refl; view = refl; left = refl }
  ticks-after (channel ∷ channels) n was =
      let one : NodeOf = signed_if real s channel (signs_in stages real None n.mind channel) n in
      let first : After name n.mind one.mind = signs-after channel (signs_in stages real None n.mind channel) n was in
      let later : After name one.mind (ticked stages real s channels one).mind = ticks-after channels one first.still in
      record { still = later.still; key = later.key ∙ first.key; view = later.view ∙ first.view; left = later.left ∙ first.left }

  challenge-keeps : (channel : List ℕ) (o : Option OwnChallenge) (n : NodeOf) → (challenged_if real s channel o n).mind ≡ n.mind
  challenge-keeps channel None n = refl
  challenge-keeps channel (Some c) n = go (nat_lt n.used s.limit)
    where
      go : (b : Bool) → (cond b (challenged real s channel c n) n).mind ≡ n.mind
      go true = refl
      go false = refl

  challenges-keep : (channels : List (List ℕ)) (n : NodeOf) → (challenged_all real s channels n).mind ≡ n.mind
  challenges-keep [] n = refl
  challenges-keep (channel ∷ channels) n =
      challenges-keep channels (challenged_if real s channel (challenge_in n.mind channel) n) ∙ challenge-keeps channel (challenge_in n.mind channel) n

pub ticks_call_for_it : TicksCallForIt
ticks_call_for_it s n name h settled rest o stays final is-settled is-rest there due =
    In-append_right (own_transfer h.root settled rest o) (challenge_calls real s (in_order n.mind.parts) (after_signing stages real s n))
    (calls_of stages (after_challenging stages real s n).has_exited (after_challenging stages real s n).mind)
    (subst (In (own_transfer h.root settled rest o)) (sym calls-are)
    (subst (λ (call : Call). In call (stages.calls (facts_of next))) (own-same root h.root same settled rest o)
    (contained (own_transfer root settled rest o) (stages.calls (facts_of next)) called)))
  where
    next : Mind
    next = (after_signing stages real s n).mind

    after : After name n.mind next
    after = ticks-after name s (in_order n.mind.parts) n (still-so name n.mind h)

    root : Direct
    root = root-of name next after.still.gone.rooted.g after.still.gone.rooted.k

    same : SameDue root h.root
    same =
        let was : RootIs name n.mind h.root = root-is name n.mind h.root h.is.known in
        subst (SameDue root) (sym was.is)
        (same-due name n.mind next was.rooted.g after.still.gone.rooted.g was.rooted.k after.still.gone.rooted.k after.key after.view)

    called : Contains (stages.calls (facts_of next)) (own_transfer root settled rest o)
    called =
        let split = split_of (Root name) next.parts after.still.there in
        (let_go_is_called_for (facts_of next) name root split.newer split.front split.is (gone-is name next after.still.gone)
        (ap is_final same.standing ∙ final)).each settled rest o
        (same.settled ∙ is-settled) (same.rest ∙ is-rest) (contains o rest there) (due-same root h.root same settled rest o ∙ due)

    calls-are : calls_of stages (after_challenging stages real s n).has_exited (after_challenging stages real s n).mind ≡ stages.calls (facts_of next)
    calls-are =
        ap (calls_of stages (after_challenging stages real s n).has_exited) (challenges-keep name s (in_order n.mind.parts) (after_signing stages real s n))
        ∙ cond-false next.left (exits_given stages (after_challenging stages real s n).has_exited (facts_of next)) (stages.calls (facts_of next)) (after.left ∙ stays)
