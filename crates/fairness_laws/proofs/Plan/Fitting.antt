-- What a command that opens and isn't refused says of its part. Its channels are such as the command names, and its
-- ledgers are consensus channels of roots and ends of the plan.
use Rattle.std.proofs.Common.{◌≡◌, ℕ, ◌+◌, ◌*◌, ◌-◌, ◌≤◌, Bool, true, false, cond, ◌&&◌, ◌||◌, not, List, [], ◌∷◌, ◌++◌, inl, inr, length, refl, sym, ◌∙◌, ap, subst}
use Rattle.std.specs.Prelude.{◌^◌, ◌==◌, nat_lt, nat_le, map, Option, Some, None}
use Rattle.std.specs.List.{slice_get, list_any, list_all, position_or_len}
use Rattle.std.specs.Str.{bytes_eq}
use Rattle.channel_values.specs.Parts.{FixedParts, IsFixed}
use Rattle.channel_values.specs.Outcomes.{AreApart}
use Rattle.channel_values.specs.declared.value.AssetOutcome.{AssetOutcome}
use Rattle.channel_values.specs.Digests.{name_of_person}
use Rattle.channel_values.specs.Words.{fault_if, ◌⊳◌, all_along}
use Rattle.call_history.proofs.Names.{same_bytes, bytes_eq_self}
use Rattle.call_history.specs.Flows.{is_among}
use Rattle.call_history.specs.declared.entry.Entry.{Entry}
use Rattle.call_history.specs.declared.event.NodeRefusal.{NodeRefusal}
use Rattle.call_history.specs.declared.event.NodeRefusal.TheVariants.{UnknownChannel, NotAStep, TooMany}
use Rattle.channel_store.specs.Keeping.{is_held}
use Rattle.channel_store.specs.Keeping as keeping
use Rattle.channel_safety.proofs.Tests.{some-eq, and-left, and-right, not-false, clash, eqb-true, le-true}
use Rattle.funding_plans.specs.Parts.{own_ledger, channels}
use Rattle.funding_plans.specs.declared.plan.Goal.{Goal}
use Rattle.funding_plans.specs.declared.plan.Part.{Part}
use Rattle.funding_plans.specs.declared.plan.Part.TheVariants.{Root, OnLedger, End, Middle}
use Rattle.funding_plans.specs.declared.plan.Virtual.{Virtual}
use Rattle.channel_safety.specs.Journals.{In}
use Rattle.channel_safety.proofs.Members.{In-append_left, In-append_right, In-map, mapped}
use Rattle.fairness_laws.specs.Openings.{open_on, open_virtual}
use Rattle.network.specs.declared.command.Command.{Command}
use Rattle.network.specs.declared.command.Command.TheVariants.{Open}
use Rattle.network.specs.declared.command.Route.{Route}
use Rattle.channel_node.proofs.Allowing.{first_none, rest_none, holds_not}
use Rattle.channel_node.specs.Minds.{Mind, facts_of}
use Rattle.channel_node.specs.Openings.{opened_by, place_among, takes_part, adds, are_apart, virtual, parts_of, ledgers_for, shared, goal_with, goals_of}
use Rattle.channel_node.specs.Places.{Told, lines_of}
use Rattle.channel_node.specs.Refusing.{not_open, has_left, unfinished, is_planned, are_new, can_open, are_planned, open_refusal}
use Rattle.node_guarantees.proofs.Apart.{Apart, not-of}
use Rattle.stage_tables.specs.Fitting.{are_shared, stake, can_share, is_double_small, is_channel_of, fits_between, fits, app_of, runs_at_end, is_running_end, lends_virtual, either_lends, route_lends, are_route_channels, fits_route_among}
use Rattle.stage_tables.specs.Ledgers.{are_same, affords_in, is_between, is_root_of, is_running_root, lends}
use Rattle.stage_tables.specs.Stages.{stages}
use Rattle.stage_tables.specs.declared.stake.Stake.{Stake}
use Rattle.stage_tables.specs.Asked.{stage_of}
use Rattle.funding_plans.specs.Gathered.{place_in, chain_in}
use Rattle.support_rules.specs.Real.{real}
use Rattle.support_rules.specs.Steps.{persons}
use Rattle.fairness_laws.proofs.Carrying.{low}
use Rattle.fairness_laws.proofs.Finding.{flips, or-left, held_of}
use Rattle.fairness_laws.proofs.Plan.Bearers.{Bearer}
use Rattle.fairness_laws.proofs.Plan.ByRoute.{fits-by-route, app-small, true-left, BothLend, route-lends}
use Rattle.fairness_laws.proofs.Plan.Holding.{Holds}
use Rattle.fairness_laws.proofs.Plan.Known.{OfRoot, OfLedger, OfOnLedger, OfJoint, OfGuarantor, OfEnd, OfMiddle, Of, Paired, goal-of}
use Rattle.fairness_laws.proofs.Plan.Names.{Passing, any-in, in-among, place-within, in-filter, among-in}

-- ---- a command that isn't refused

pub can-open : (m : Mind) (command : Command) → None ≡ open_refusal stages real m command → can_open stages real m command ≡ true
can-open m command e =
    not-false (can_open stages real m command) (holds_not (not (can_open stages real m command)) NotAStep
    (first_none line2 after2 (rest_none (not_open stages (facts_of m)) (line2 ⊳ after2) (rest_none line0 (not_open stages (facts_of m) ⊳ line2 ⊳ after2) (sym e)))))
  where
    line0 : Option NodeRefusal
    line0 = fault_if (not (are_planned m (ledgers_for m.key command))) UnknownChannel

    line2 : Option NodeRefusal
    line2 = fault_if (not (can_open stages real m command)) NotAStep

    after2 : Option NodeRefusal
    after2 = has_left m ⊳ unfinished stages (facts_of m) ⊳ fault_if (nat_lt 64 (length (channels m.parts) + length (opened_by command))) (TooMany (length (channels m.parts)))

-- ---- people

-- the names of the people of a fixed part determine their keys, the participant's own among them
abbrev pub Tells : List ℕ → FixedParts → Type 0
Tells key f = (k l : List ℕ) → In k (key ∷ f.keys) → In l (key ∷ f.keys) → name_of_person k ≡ name_of_person l → k ≡ l

-- who is named among the people has a key there
takes : (key : List ℕ) (f : FixedParts) → Tells key f → is_among (name_of_person key) (persons f) ≡ true → takes_part key f ≡ true
takes key f tells e =
    let named = any-in (bytes_eq (name_of_person key)) (persons f) e in
    let from = mapped name_of_person named.item f.keys named.there in
    let same : key ≡ from.from = tells key from.from (inl refl) (inr from.there) (same_bytes (name_of_person key) named.item named.passes ∙ from.is) in
    low (place_among key f) (length f.keys) (place-within (bytes_eq key) f.keys key (subst (λ (k : List ℕ). In k f.keys) (sym same) from.there) (bytes_eq_self key))

people-differ : (key : List ℕ) (f : FixedParts) → Tells key f → (a b : List ℕ) → In a f.keys → In b f.keys → bytes_eq a b ≡ false → bytes_eq (name_of_person a) (name_of_person b) ≡ false
people-differ key f tells a b i j differ = go (bytes_eq (name_of_person a) (name_of_person b)) refl
  where
    go : (t : Bool) → bytes_eq (name_of_person a) (name_of_person b) ≡ t → t ≡ false
    go false e = refl
    go true e =
        absurd (clash (bytes_eq a b) (ap (bytes_eq a) (sym (tells a b (inr i) (inr j) (same_bytes (name_of_person a) (name_of_person b) e))) ∙ bytes_eq_self a) differ)

record Differ (first middle second : List ℕ) : Type 0 where
  ends : bytes_eq first middle ≡ false
  others : bytes_eq second middle ≡ false

three-differ : (first middle second : List ℕ) (keys : List (List ℕ)) → AreApart bytes_eq keys → map name_of_person keys ≡ first ∷ middle ∷ second ∷ []
    → ((a b : List ℕ) → In a keys → In b keys → bytes_eq a b ≡ false → bytes_eq (name_of_person a) (name_of_person b) ≡ false) → Differ first middle second
three-differ first middle second [] apart is differ = absurd cc
three-differ first middle second (a ∷ []) apart is differ = absurd cc
three-differ first middle second (a ∷ b ∷ []) apart is differ = absurd cc
three-differ first middle second (a ∷ b ∷ c ∷ d ∷ more) apart is differ = absurd cc
three-differ first middle second (a ∷ b ∷ c ∷ []) apart is differ = record { ends = near; others = far }
  where
    at : (n : ℕ) → slice_get (map name_of_person (a ∷ b ∷ c ∷ [])) n ≡ slice_get (first ∷ middle ∷ second ∷ []) n
    at n = ap (λ (ns : List (List ℕ)). slice_get ns n) is

    one-a : name_of_person a ≡ first
    one-a = some-eq (name_of_person a) first (at 0)

    one-b : name_of_person b ≡ middle
    one-b = some-eq (name_of_person b) middle (at 1)

    one-c : name_of_person c ≡ second
    one-c = some-eq (name_of_person c) second (at 2)

    not-b : bytes_eq a b ≡ false
    not-b = or-left (bytes_eq a b) (bytes_eq a c || false) apart.0

    not-c : bytes_eq b c ≡ false
    not-c = or-left (bytes_eq b c) false apart.1.0

    near : bytes_eq first middle ≡ false
    near = subst (λ (n : List ℕ). bytes_eq n middle ≡ false) one-a (subst (λ (n : List ℕ). bytes_eq (name_of_person a) n ≡ false) one-b (differ a b (inl refl) (inr (inl refl)) not-b))

    far : bytes_eq second middle ≡ false
    far =
        flips middle second
        (subst (λ (n : List ℕ). bytes_eq n second ≡ false) one-b
        (subst (λ (n : List ℕ). bytes_eq (name_of_person b) n ≡ false) one-c (differ b c (inr (inl refl)) (inr (inr (inl refl))) not-c)))

-- of the two people of a payment channel the participant is the one at its place
own-end : (key first second : List ℕ) (keys : List (List ℕ)) → map name_of_person keys ≡ first ∷ second ∷ [] → nat_lt (position_or_len (bytes_eq key) keys) (length keys) ≡ true
    → cond (position_or_len (bytes_eq key) keys == 1) second first ≡ name_of_person key
own-end key first second [] is within = absurd cc
own-end key first second (a ∷ []) is within = absurd cc
own-end key first second (a ∷ b ∷ c ∷ more) is within = absurd cc
own-end key first second (a ∷ b ∷ []) is within = go (bytes_eq key a) (bytes_eq key b) refl refl within
  where
    at : (n : ℕ) → slice_get (map name_of_person (a ∷ b ∷ [])) n ≡ slice_get (first ∷ second ∷ []) n
    at n = ap (λ (ns : List (List ℕ)). slice_get ns n) is

    go : (s t : Bool) → bytes_eq key a ≡ s → bytes_eq key b ≡ t → nat_lt (cond (not s) (1 + cond (not t) (1 + 0) 0) 0) 2 ≡ true
        → cond (cond (not s) (1 + cond (not t) (1 + 0) 0) 0 == 1) second first ≡ name_of_person key
    go true t e f w = sym (some-eq (name_of_person a) first (at 0)) ∙ ap name_of_person (sym (same_bytes key a e))
    go false true e f w = sym (some-eq (name_of_person b) second (at 1)) ∙ ap name_of_person (sym (same_bytes key b f))
    go false false e f w = absurd cc

pub same-people : (xs ys : List (List ℕ)) → are_same xs ys ≡ true → xs ≡ ys
same-people [] [] e = refl
same-people [] (y ∷ ys) e = absurd cc
same-people (x ∷ xs) [] e = absurd cc
same-people (x ∷ xs) (y ∷ ys) e =
    ap (λ (z : List ℕ). z ∷ xs) (same_bytes x y (and-left (bytes_eq x y) (all_along bytes_eq xs ys) e))
    ∙ ap (λ (zs : List (List ℕ)). y ∷ zs) (same-people xs ys (and-right (bytes_eq x y) (all_along bytes_eq xs ys) e))

-- ---- the ledgers

root-of : (name : List ℕ) (p : Part) → is_root_of name p ≡ true → p ≡ Root name
root-of name (Root channel) e = ap (λ (n : List ℕ). Root n) (same_bytes channel name e)
root-of name (OnLedger ledger channel) e = absurd cc
root-of name (End v) e = absurd cc
root-of name (Middle v) e = absurd cc

module _ (key : List ℕ) (past : List Entry) (front : List Told) (m : Mind) (fs : List FixedParts) (paired : Paired key fs m.parts 0 m.parts m.goals) (apart : Apart (channels m.parts))
    (holds : (f : FixedParts) → In f fs → Holds key past (lines_of key front) m f)
    (places : (f : FixedParts) (o : Holds key past (lines_of key front) m f) (name : List ℕ) → real.named f ≡ name → place_in name (facts_of m).places ≡ Some (keeping.place_in o.kept))
    (chains : (f : FixedParts) (o : Holds key past (lines_of key front) m f) (name : List ℕ) → real.named f ≡ name → chain_in name (facts_of m).chains ≡ held_of o.kept) where
  -- a consensus channel of two people that covers what they lend
  of-bearer : (name first second : List ℕ) (asset : ℕ) (amounts : ℕ × ℕ) → Bearer m.parts name → (f : FixedParts) → In f fs → real.named f ≡ name
      → is_between (stake asset first second amounts) (place_in name (facts_of m).places) ≡ true → affords_in (stake asset first second amounts) (chain_in name (facts_of m).chains) ≡ true
      → OfLedger fs m.parts first second name
  of-bearer name first second asset amounts b f there named both affords = record { fixed = f; there = there; named = named; app = app; people = people; bearer = b }
    where
      k : Stake
      k = stake asset first second amounts

      held : Holds key past (lines_of key front) m f
      held = holds f there

      people : persons f ≡ first ∷ second ∷ []
      people =
          ap persons (sym held.at.fixed)
          ∙ same-people (persons held.kept.chain.fixed) (first ∷ second ∷ []) (sym (ap (is_between k) (places f held name named)) ∙ both)

      consensus : (b : Bool) → affords_in k (cond b (Some (record { channel = held.kept.channel; chain = held.kept.chain })) None) ≡ true → held.kept.chain.fixed.app ≡ 0
      consensus false is = absurd cc
      consensus true is = eqb-true held.kept.chain.fixed.app 0 (and-left (held.kept.chain.fixed.app == 0) _ is)

      app : f.app ≡ 0
      app = ap (λ (g : FixedParts). g.app) (sym held.at.fixed) ∙ consensus (is_held held.kept) (sym (ap (affords_in k) (chains f held name named)) ∙ affords)

  module _ (name first second : List ℕ) (asset : ℕ) (amounts : ℕ × ℕ) where
    abbrev of-two : Stake
    of-two = stake asset first second amounts

    abbrev between-two : Bool
    between-two = is_between of-two (place_in name (facts_of m).places)

    abbrev affords-two : Bool
    affords-two = affords_in of-two (chain_in name (facts_of m).chains)

    -- a root that lends
    lent-root : lends (facts_of m) name of-two ≡ true → OfLedger fs m.parts first second name
    lent-root e =
        of-bearer name first second asset amounts (record { part = Root name; there = root; is = bytes_eq_self name }) o.fixed o.there o.named
        (and-right (is_running_root (facts_of m) name) between-two both) (and-right (is_running_root (facts_of m) name && between-two) affords-two e)
      where
        both : (is_running_root (facts_of m) name && between-two) ≡ true
        both = and-left (is_running_root (facts_of m) name && between-two) affords-two e

        some-root : Passing (is_root_of name) m.parts
        some-root = any-in (is_root_of name) m.parts (and-left (list_any (is_root_of name) m.parts) (stage_of (facts_of m) (Root name) == 3) (and-left (is_running_root (facts_of m) name) between-two both))

        root : In (Root name) m.parts
        root = subst (λ (p : Part). In p m.parts) (root-of name some-root.item some-root.passes) some-root.there

        o : OfRoot fs name (goal-of key fs m.parts m.goals (Root name) paired apart root).goal.opening
        o = (goal-of key fs m.parts m.goals (Root name) paired apart root).known

    -- or a virtual ledger of which the participant is an end
    lent-end : lends_virtual (facts_of m) name of-two ≡ true → OfLedger fs m.parts first second name
    lent-end e = go some-end.item some-end.there some-end.passes
      where
        both : (is_running_end (facts_of m) name && between-two) ≡ true
        both = and-left (is_running_end (facts_of m) name && between-two) affords-two e

        some-end : Passing (runs_at_end (facts_of m) name) m.parts
        some-end = any-in (runs_at_end (facts_of m) name) m.parts (and-left (is_running_end (facts_of m) name) between-two both)

        with-end : (v : Virtual) → In (End v) m.parts → bytes_eq v.channel name ≡ true → (opening : List AssetOutcome) (ab : ℕ × ℕ) → OfEnd key fs m.parts v opening ab → OfLedger fs m.parts first second name
        with-end v i named opening ab o =
            of-bearer name first second asset amounts (record { part = End v; there = i; is = named }) o.fixed o.there (o.named ∙ same_bytes v.channel name named)
            (and-right (is_running_end (facts_of m) name) between-two both) (and-right (is_running_end (facts_of m) name && between-two) affords-two e)

        go : (p : Part) → In p m.parts → runs_at_end (facts_of m) name p ≡ true → OfLedger fs m.parts first second name
        go (Root channel) i runs = absurd (clash false runs refl)
        go (OnLedger ledger channel) i runs = absurd (clash false runs refl)
        go (Middle v) i runs = absurd (clash false runs refl)
        go (End v) i runs =
            let g = goal-of key fs m.parts m.goals (End v) paired apart i in
            with-end v i (and-left (bytes_eq v.channel name) (stage_of (facts_of m) (End v) == 5) runs) g.goal.opening g.goal.amounts g.known

  pub lent : (name first second : List ℕ) (asset : ℕ) (amounts : ℕ × ℕ) → either_lends (facts_of m) name (stake asset first second amounts) ≡ true → OfLedger fs m.parts first second name
  lent name first second asset amounts e = go (lends (facts_of m) name (stake asset first second amounts)) refl e
    where
      go : (b : Bool) → lends (facts_of m) name (stake asset first second amounts) ≡ b → (b || lends_virtual (facts_of m) name (stake asset first second amounts)) ≡ true
          → OfLedger fs m.parts first second name
      go true is h = lent-root name first second asset amounts is
      go false is h = lent-end name first second asset amounts h

-- ---- what doesn't depend on the command

-- a name that is new isn't kept, and none of the plan's
pub unplanned : (m : Mind) (names : List (List ℕ)) → are_new m names ≡ true → (name : List ℕ) → In name names → is_planned m name ≡ false
unplanned m names new name i = not-of (is_planned m name) (all-of names (and-right (are_apart names) (list_all (λ n. not (is_planned m n)) names) new) i)
  where
    all-of : (ns : List (List ℕ)) → list_all (λ n. not (is_planned m n)) ns ≡ true → In name ns → not (is_planned m name) ≡ true
    all-of [] e j = absurd j
    all-of (n ∷ ns) e (inl same) = ap (λ (x : List ℕ). not (is_planned m x)) same ∙ and-left (not (is_planned m n)) (list_all (λ x. not (is_planned m x)) ns) e
    all-of (n ∷ ns) e (inr j) = all-of ns (and-right (not (is_planned m n)) (list_all (λ x. not (is_planned m x)) ns) e) j

-- with the channels that are added
ledger-there : (fs gs : List FixedParts) (parts : List Part) (first second name : List ℕ) → OfLedger fs parts first second name → OfLedger (fs ++ gs) parts first second name
ledger-there fs gs parts first second name o = record { fixed = o.fixed; there = In-append_left o.fixed fs gs o.there; named = o.named; app = o.app; people = o.people; bearer = o.bearer }

-- the participant is one of a ledger's two people
own-person : (key : List ℕ) (fs : List FixedParts) (parts : List Part) (first second name : List ℕ) → ((f : FixedParts) → In f fs → In key f.keys) → OfLedger fs parts first second name
    → is_among (name_of_person key) (first ∷ second ∷ []) ≡ true
own-person key fs parts first second name owns o =
    in-among (name_of_person key) (first ∷ second ∷ []) (subst (λ (ns : List (List ℕ)). In (name_of_person key) ns) o.people (In-map name_of_person key o.fixed.keys (owns o.fixed o.there)))

-- ---- the part

-- what a command that opens adds to the plan, of which n parts stand
pub record Added (key : List ℕ) (fs : List FixedParts) (parts : List Part) (n : ℕ) (command : Command) : Type 0 where
  pub part : Part
  pub goal : Goal
  pub parts_are : parts_of real key command ≡ part ∷ []
  pub goals_are : goals_of n command ≡ goal ∷ []
  pub place : goal.part ≡ n
  pub known : Of key (fs ++ adds key (Some command)) parts part goal.opening goal.amounts

module _ (key : List ℕ) (m : Mind) (mine : m.key ≡ key) (fs : List FixedParts)
    (on-ledger : (name first second : List ℕ) (asset : ℕ) (amounts : ℕ × ℕ) → either_lends (facts_of m) name (stake asset first second amounts) ≡ true → OfLedger fs m.parts first second name)
    (owns : (f : FixedParts) → In f fs → In key f.keys) where
  me-is : (facts_of m).me ≡ name_of_person key
  me-is = ap name_of_person mine

  -- ---- a channel that holds its own funds

  pub root-added : (fixed : FixedParts) (outcome : List AssetOutcome) (tells : (f : FixedParts) → In f (opened_by (Open fixed outcome)) → Tells key f)
      → can_open stages real m (Open fixed outcome) ≡ true → (n : ℕ) → Added key fs m.parts n (Open fixed outcome)
  unfolding fits
  root-added fixed outcome tells can n = record {
    part = Root (real.named fixed);
    goal = goal_with n outcome (0, 0);
    parts_are = refl;
    goals_are = refl;
    place = refl;
    known = record {
      fixed = fixed;
      there = In-append_right fixed fs (adds key (Some (Open fixed outcome))) (in-filter (takes_part key) fixed (fixed ∷ []) (inl refl) (takes key fixed (tells fixed (inl refl)) among));
      named = refl;
      app = le-true fixed.app 1 (and-left (nat_le fixed.app 1) (is_among (facts_of m).me (persons fixed)) first);
      outcome = and-right (nat_le fixed.app 1 && is_among (facts_of m).me (persons fixed)) (are_shared (persons fixed) outcome) fit;
    };
  }
    where
      fit : ((nat_le fixed.app 1 && is_among (facts_of m).me (persons fixed)) && are_shared (persons fixed) outcome) ≡ true
      fit = and-left ((nat_le fixed.app 1 && is_among (facts_of m).me (persons fixed)) && are_shared (persons fixed) outcome) (are_new m (map real.named (fixed ∷ []))) can

      first : (nat_le fixed.app 1 && is_among (facts_of m).me (persons fixed)) ≡ true
      first = and-left (nat_le fixed.app 1 && is_among (facts_of m).me (persons fixed)) (are_shared (persons fixed) outcome) fit

      among : is_among (name_of_person key) (persons fixed) ≡ true
      among = subst (λ (me : List ℕ). is_among me (persons fixed) ≡ true) me-is (and-right (nat_le fixed.app 1) (is_among (facts_of m).me (persons fixed)) first)

  -- ---- a channel on a ledger

  pub child-added : (ledger : List ℕ) (fixed : FixedParts) (asset : ℕ) (amounts : ℕ × ℕ) (tells : (f : FixedParts) → In f (opened_by (open_on ledger fixed asset amounts)) → Tells key f)
      → can_open stages real m (open_on ledger fixed asset amounts) ≡ true → (n : ℕ) → Added key fs m.parts n (open_on ledger fixed asset amounts)
  unfolding fits
  child-added ledger fixed asset amounts tells can n = record {
    part = OnLedger ledger (real.named fixed);
    goal = goal_with n (shared fixed asset amounts) amounts;
    parts_are = refl;
    goals_are = refl;
    place = refl;
    known = go (persons fixed) refl (and-right (fixed.app == 1) (fits_between (facts_of m) ledger asset amounts (persons fixed)) fit);
  }
    where
      gs : List FixedParts
      gs = adds key (Some (open_on ledger fixed asset amounts))

      fit : ((fixed.app == 1) && fits_between (facts_of m) ledger asset amounts (persons fixed)) ≡ true
      fit = and-left ((fixed.app == 1) && fits_between (facts_of m) ledger asset amounts (persons fixed)) (are_new m (map real.named (fixed ∷ []))) can

      go : (people : List (List ℕ)) → persons fixed ≡ people → fits_between (facts_of m) ledger asset amounts people ≡ true
          → OfOnLedger (fs ++ gs) m.parts ledger (real.named fixed) (shared fixed asset amounts) amounts
      go [] is e = absurd cc
      go (first ∷ []) is e = absurd cc
      go (first ∷ second ∷ third ∷ more) is e = absurd cc
      go (first ∷ second ∷ []) is e = record {
        first = first;
        second = second;
        asset = asset;
        fixed = fixed;
        there = In-append_right fixed fs gs (in-filter (takes_part key) fixed (fixed ∷ []) (inl refl) (takes key fixed (tells fixed (inl refl)) among));
        named = refl;
        app = eqb-true fixed.app 1 (and-left (fixed.app == 1) (fits_between (facts_of m) ledger asset amounts (persons fixed)) fit);
        people = is;
        differ = not-of (bytes_eq first second) (and-left (not (bytes_eq first second)) (nat_le (amounts.0 + amounts.1) (2 ^ 64 - 1)) share);
        sum = le-true (amounts.0 + amounts.1) (2 ^ 64 - 1) (and-right (not (bytes_eq first second)) (nat_le (amounts.0 + amounts.1) (2 ^ 64 - 1)) share);
        opens = refl;
        on = ledger-there fs gs m.parts first second ledger on;
      }
        where
          share : can_share first second amounts ≡ true
          share = and-left (can_share first second amounts) (lends (facts_of m) ledger (stake asset first second amounts)) e

          on : OfLedger fs m.parts first second ledger
          on =
              on-ledger ledger first second asset amounts
              (true-left (lends (facts_of m) ledger (stake asset first second amounts)) (lends_virtual (facts_of m) ledger (stake asset first second amounts))
              (and-right (can_share first second amounts) (lends (facts_of m) ledger (stake asset first second amounts)) e))

          among : is_among (name_of_person key) (persons fixed) ≡ true
          among = subst (λ (ns : List (List ℕ)). is_among (name_of_person key) ns ≡ true) (sym is) (own-person key fs m.parts first second ledger owns on)

  -- ---- a virtual channel

  module _ (route : Route) (ledgers : List ℕ × List ℕ) (guarantors : FixedParts × FixedParts) (joint channel : FixedParts) (asset : ℕ) (amounts : ℕ × ℕ)
      (tells : (f : FixedParts) → In f (opened_by (open_virtual route ledgers guarantors joint channel asset amounts)) → Tells key f)
      (valid : (f : FixedParts) → In f (adds key (Some (open_virtual route ledgers guarantors joint channel asset amounts))) → IsFixed f)
      (can : can_open stages real m (open_virtual route ledgers guarantors joint channel asset amounts) ≡ true) where
    abbrev command : Command
    command = open_virtual route ledgers guarantors joint channel asset amounts

    abbrev gs : List FixedParts
    gs = adds key (Some command)

    abbrev v : Virtual
    v = virtual real key ledgers guarantors joint channel asset amounts

    abbrev names : List (List ℕ)
    names = map real.named (opened_by command)

    -- what fits, by the joint channel's people
    pub record Fitted : Type 0 where
      pub first : List ℕ
      pub middle : List ℕ
      pub second : List ℕ
      pub people : persons joint ≡ first ∷ middle ∷ second ∷ []
      pub among : is_among (name_of_person key) (first ∷ middle ∷ second ∷ []) ≡ true
      pub ends : bytes_eq first second ≡ false
      pub small : 2 * (amounts.0 + amounts.1) ≤ 2 ^ 64 - 1
      pub app_a : guarantors.0.app ≡ 2
      pub people_a : persons guarantors.0 ≡ first ∷ middle ∷ []
      pub app_b : guarantors.1.app ≡ 2
      pub people_b : persons guarantors.1 ≡ middle ∷ second ∷ []
      pub app_joint : joint.app ≡ 0
      pub app_channel : channel.app ≡ app_of route
      pub people_channel : persons channel ≡ first ∷ second ∷ []
      pub lends_a : In (name_of_person key) (first ∷ middle ∷ []) → either_lends (facts_of m) ledgers.0 (stake asset first middle amounts) ≡ true
      pub lends_b : In (name_of_person key) (middle ∷ second ∷ []) → either_lends (facts_of m) ledgers.1 (stake asset middle second amounts) ≡ true

    app-of : (app : ℕ) (people : List (List ℕ)) (f : FixedParts) → is_channel_of app people f ≡ true → f.app ≡ app
    app-of app people f e = eqb-true f.app app (and-left (f.app == app) (are_same (persons f) people) e)

    people-of : (app : ℕ) (people : List (List ℕ)) (f : FixedParts) → is_channel_of app people f ≡ true → persons f ≡ people
    people-of app people f e = same-people (persons f) people (and-right (f.app == app) (are_same (persons f) people) e)

    fitted-by : (people : List (List ℕ)) → persons joint ≡ people → fits_route_among (facts_of m) route ledgers guarantors joint channel asset amounts people ≡ true → Fitted
    fitted-by [] is e = absurd cc
    fitted-by (first ∷ []) is e = absurd cc
    fitted-by (first ∷ middle ∷ []) is e = absurd cc
    fitted-by (first ∷ middle ∷ second ∷ fourth ∷ more) is e = absurd cc
    fitted-by (first ∷ middle ∷ second ∷ []) is e = record {
      first = first;
      middle = middle;
      second = second;
      people = is;
      among = subst (λ (me : List ℕ). is_among me (first ∷ middle ∷ second ∷ []) ≡ true) me-is (and-left here amounts-fit left);
      ends = differ;
      small = le-true (2 * (amounts.0 + amounts.1)) (2 ^ 64 - 1) (and-right (can_share first second amounts) (is_double_small amounts) fit-amounts);
      app_a = app-of 2 (first ∷ middle ∷ []) guarantors.0 (and-left guarantor-a guarantor-b guarantors-fit);
      people_a = people-of 2 (first ∷ middle ∷ []) guarantors.0 (and-left guarantor-a guarantor-b guarantors-fit);
      app_b = app-of 2 (middle ∷ second ∷ []) guarantors.1 (and-right guarantor-a guarantor-b guarantors-fit);
      people_b = people-of 2 (middle ∷ second ∷ []) guarantors.1 (and-right guarantor-a guarantor-b guarantors-fit);
      app_joint = eqb-true joint.app 0 (and-left (joint.app == 0) payment others-fit);
      app_channel = app-of (app_of route) (first ∷ second ∷ []) channel (and-right (joint.app == 0) payment others-fit);
      people_channel = people-of (app_of route) (first ∷ second ∷ []) channel (and-right (joint.app == 0) payment others-fit);
      lends_a = λ own. both.a (in-among (facts_of m).me (first ∷ middle ∷ []) (subst (λ (me : List ℕ). In me (first ∷ middle ∷ [])) (sym me-is) own));
      lends_b = λ own. both.b (in-among (facts_of m).me (middle ∷ second ∷ []) (subst (λ (me : List ℕ). In me (middle ∷ second ∷ [])) (sym me-is) own));
    }
      where
        here : Bool
        here = is_among (facts_of m).me (first ∷ middle ∷ second ∷ [])

        amounts-fit : Bool
        amounts-fit = can_share first second amounts && is_double_small amounts

        channels-fit : Bool
        channels-fit = are_route_channels (app_of route) guarantors joint channel first middle second

        ledgers-lend : Bool
        ledgers-lend = route_lends (facts_of m) route ledgers asset amounts first middle second

        guarantor-a : Bool
        guarantor-a = is_channel_of 2 (first ∷ middle ∷ []) guarantors.0

        guarantor-b : Bool
        guarantor-b = is_channel_of 2 (middle ∷ second ∷ []) guarantors.1

        payment : Bool
        payment = is_channel_of (app_of route) (first ∷ second ∷ []) channel

        left : (here && amounts-fit) ≡ true
        left = and-left (here && amounts-fit) (channels-fit && ledgers-lend) e

        fit-amounts : amounts-fit ≡ true
        fit-amounts = and-right here amounts-fit left

        right : (channels-fit && ledgers-lend) ≡ true
        right = and-right (here && amounts-fit) (channels-fit && ledgers-lend) e

        guarantors-fit : (guarantor-a && guarantor-b) ≡ true
        guarantors-fit = and-left (guarantor-a && guarantor-b) ((joint.app == 0) && payment) (and-left channels-fit ledgers-lend right)

        others-fit : ((joint.app == 0) && payment) ≡ true
        others-fit = and-right (guarantor-a && guarantor-b) ((joint.app == 0) && payment) (and-left channels-fit ledgers-lend right)

        differ : bytes_eq first second ≡ false
        differ = not-of (bytes_eq first second) (and-left (not (bytes_eq first second)) (nat_le (amounts.0 + amounts.1) (2 ^ 64 - 1)) (and-left (can_share first second amounts) (is_double_small amounts) fit-amounts))

        both : BothLend (facts_of m) ledgers asset amounts first middle second
        both = route-lends (facts_of m) ledgers asset amounts first middle second route differ (and-right channels-fit ledgers-lend right)

    pub fitted : Fitted
    fitted =
        fitted-by (persons joint) refl
        (fits-by-route (facts_of m) route ledgers guarantors joint channel asset amounts (and-left (fits (facts_of m) command) (are_new m names) can))

    -- one of the channels in which the participant is named
    there : (f : FixedParts) → In f (opened_by command) → is_among (name_of_person key) (persons f) ≡ true → In f (fs ++ gs)
    there f i e = In-append_right f fs gs (in-filter (takes_part key) f (opened_by command) i (takes key f (tells f i) e))

    -- each ledger of the participant
    on-first : (fit : Fitted) → In (name_of_person key) (fit.first ∷ fit.middle ∷ []) → OfLedger fs m.parts fit.first fit.middle ledgers.0
    on-first fit own = on-ledger ledgers.0 fit.first fit.middle asset amounts (fit.lends_a own)

    on-second : (fit : Fitted) → In (name_of_person key) (fit.middle ∷ fit.second ∷ []) → OfLedger fs m.parts fit.middle fit.second ledgers.1
    on-second fit own = on-ledger ledgers.1 fit.middle fit.second asset amounts (fit.lends_b own)

    guarantor-there : (f : FixedParts) → In f (opened_by command) → f.app ≡ 2 → (people : List (List ℕ)) → persons f ≡ people → In (name_of_person key) people → OfGuarantor (fs ++ gs) (real.named f)
    guarantor-there f i app people is own = record {
      fixed = f;
      there = there f i (in-among (name_of_person key) (persons f) (subst (λ (ns : List (List ℕ)). In (name_of_person key) ns) (sym is) own));
      named = refl;
      app = app;
    }

    in-joint : (fit : Fitted) → In joint (fs ++ gs)
    in-joint fit = there joint (inr (inr (inl refl))) (subst (λ (ns : List (List ℕ)). is_among (name_of_person key) ns ≡ true) (sym fit.people) fit.among)

    pub joint-takes : (fit : Fitted) → In joint gs
    joint-takes fit =
        in-filter (takes_part key) joint (opened_by command) (inr (inr (inl refl)))
        (takes key joint (tells joint (inr (inr (inl refl)))) (subst (λ (ns : List (List ℕ)). is_among (name_of_person key) ns ≡ true) (sym fit.people) fit.among))

    differ : (fit : Fitted) → Differ fit.first fit.middle fit.second
    differ fit =
        three-differ fit.first fit.middle fit.second joint.keys (valid joint (joint-takes fit)).keys.apart fit.people (people-differ key joint (tells joint (inr (inr (inl refl)))))

    of-joint : (fit : Fitted) → OfJoint (fs ++ gs) v amounts fit.first fit.middle fit.second
    of-joint fit = record {
      fixed = joint;
      there = in-joint fit;
      named = refl;
      app = fit.app_joint;
      people = fit.people;
      ends = fit.ends;
      apart_a = (differ fit).ends;
      apart_b = (differ fit).others;
      sum = refl;
      small = fit.small;
    }

    -- of the end that it is, by its side
    record Sides (fit : Fitted) (side : Bool) : Type 0 where
      guarantor : OfGuarantor (fs ++ gs) (cond side v.guarantor_b v.guarantor_a)
      on : OfLedger fs m.parts (cond side fit.middle fit.first) (cond side fit.second fit.middle) (cond side v.ledger_b v.ledger_a)

    sides : (fit : Fitted) (side : Bool) → cond side fit.second fit.first ≡ name_of_person key → Sides fit side
    sides fit false me = record {
      guarantor = guarantor-there guarantors.0 (inl refl) fit.app_a (fit.first ∷ fit.middle ∷ []) fit.people_a (inl (sym me));
      on = on-first fit (inl (sym me));
    }
    sides fit true me = record {
      guarantor = guarantor-there guarantors.1 (inr (inl refl)) fit.app_b (fit.middle ∷ fit.second ∷ []) fit.people_b (inr (inl (sym me)));
      on = on-second fit (inr (inl (sym me)));
    }

    of-end : (fit : Fitted) → takes_part key channel ≡ true → OfEnd key (fs ++ gs) m.parts v (shared channel asset amounts) amounts
    of-end fit e = record {
      first = fit.first;
      middle = fit.middle;
      second = fit.second;
      joint = of-joint fit;
      me = me;
      guarantor = both.guarantor;
      fixed = channel;
      there = In-append_right channel fs gs (in-filter (takes_part key) channel (opened_by command) (inr (inr (inr (inl refl)))) e);
      named = refl;
      app = subst (λ (n : ℕ). n ≤ 1) (sym fit.app_channel) (app-small route);
      people = fit.people_channel;
      opens = refl;
      on = ledger-there fs gs m.parts (cond v.side_b fit.middle fit.first) (cond v.side_b fit.second fit.middle) (own_ledger v) both.on;
    }
      where
        me : cond v.side_b fit.second fit.first ≡ name_of_person key
        me =
            ap (λ (b : Bool). cond (b && (place_among key channel == 1)) fit.second fit.first) e
            ∙ own-end key fit.first fit.second channel.keys fit.people_channel e

        both : Sides fit v.side_b
        both = sides fit v.side_b me

    -- who is no end is the intermediary
    is-middle : (fit : Fitted) → takes_part key channel ≡ false → In (name_of_person key) (fit.first ∷ fit.middle ∷ fit.second ∷ []) → fit.middle ≡ name_of_person key
    is-middle fit e (inr (inl same)) = sym same
    is-middle fit e (inl same) =
        absurd (clash (takes_part key channel) (takes key channel (tells channel (inr (inr (inr (inl refl)))))
        (in-among (name_of_person key) (persons channel) (subst (λ (ns : List (List ℕ)). In (name_of_person key) ns) (sym fit.people_channel) (inl same)))) e)
    is-middle fit e (inr (inr (inl same))) =
        absurd (clash (takes_part key channel) (takes key channel (tells channel (inr (inr (inr (inl refl)))))
        (in-among (name_of_person key) (persons channel) (subst (λ (ns : List (List ℕ)). In (name_of_person key) ns) (sym fit.people_channel) (inr (inl same))))) e)
    is-middle fit e (inr (inr (inr i))) = absurd i

    of-middle : (fit : Fitted) → takes_part key channel ≡ false → OfMiddle key (fs ++ gs) m.parts v amounts
    of-middle fit e = record {
      first = fit.first;
      middle = fit.middle;
      second = fit.second;
      joint = of-joint fit;
      me = me;
      guarantor_a = guarantor-there guarantors.0 (inl refl) fit.app_a (fit.first ∷ fit.middle ∷ []) fit.people_a (inr (inl (sym me)));
      guarantor_b = guarantor-there guarantors.1 (inr (inl refl)) fit.app_b (fit.middle ∷ fit.second ∷ []) fit.people_b (inl (sym me));
      on_a = ledger-there fs gs m.parts fit.first fit.middle ledgers.0 (on-first fit (inr (inl (sym me))));
      on_b = ledger-there fs gs m.parts fit.middle fit.second ledgers.1 (on-second fit (inl (sym me)));
    }
      where
        me : fit.middle ≡ name_of_person key
        me = is-middle fit e (among-in (name_of_person key) (fit.first ∷ fit.middle ∷ fit.second ∷ []) fit.among)

    pub virtual-added : (n : ℕ) → Added key fs m.parts n command
    virtual-added n = go (takes_part key channel) refl
      where
        go : (b : Bool) → takes_part key channel ≡ b → Added key fs m.parts n command
        go true e = record {
          part = End v;
          goal = goal_with n (shared channel asset amounts) amounts;
          parts_are = ap (λ (b : Bool). cond b (End v ∷ []) (Middle v ∷ [])) e;
          goals_are = refl;
          place = refl;
          known = of-end fitted e;
        }
        go false e = record {
          part = Middle v;
          goal = goal_with n (shared channel asset amounts) amounts;
          parts_are = ap (λ (b : Bool). cond b (End v ∷ []) (Middle v ∷ [])) e;
          goals_are = refl;
          place = refl;
          known = of-middle fitted e;
        }
