-- Each line of a journal that the rules give is honest in each channel of its fixed part.
use Rattle.std.proofs.Common.{◌≡◌, ℕ, ◌+◌, ◌<◌, ◌≤◌, ◌==◌, Bool, true, false, cond, ◌&&◌, List, [], ◌∷◌, ◌++◌, inl, inr, length, refl, sym, ◌∙◌, ap, subst, arith}
use Rattle.std.specs.Prelude.{Option, Some, None, map, filter, nat_lt}
use Rattle.std.specs.List.{slice_get, find, flat_map}
use Rattle.std.specs.Str.{bytes_eq}
use Rattle.channel_values.specs.Parts.{FixedParts, StateParts}
use Rattle.channel_values.specs.declared.chain.Chain.{Chain}
use Rattle.channel_values.specs.declared.chain.Signed.{Signed}
use Rattle.call_history.specs.Mode.{mode_at, is_challenged}
use Rattle.call_history.specs.declared.standing.Standing.{Standing}
use Rattle.call_history.specs.declared.standing.Standing.TheVariants.{Open, Challenged, Final}
use Rattle.channel_values.specs.Rows.{mover}
use Rattle.channel_values.specs.Rules.{Rules, people, newest, top_turn, is_signed_well}
use Rattle.call_history.proofs.Names.{same_bytes}
use Rattle.call_history.specs.Marked.{Marked, marked_of, chain_of, is_supported, answered, next_after, is_step, extends, extended}
use Rattle.call_history.specs.History.{Legal, now_of, row, mode}
use Rattle.history_view.specs.Standing.{StandsFor}
use Rattle.history_view.specs.Views.{view_of}
use Rattle.call_history.specs.declared.call.Call.{Call}
use Rattle.call_history.specs.declared.call.Call.TheVariants.{Checkpoint}
use Rattle.call_history.specs.declared.entry.Entry.{Entry}
use Rattle.call_history.specs.declared.event.Deed.{Deed}
use Rattle.call_history.specs.declared.event.Deed.TheVariants as deeds
use Rattle.call_history.specs.declared.held_chain.HeldChain.{HeldChain}
use Rattle.network.specs.Watching.{is_below, looks}
use Rattle.channel_store.specs.Keeping.{is_held, held_chain}
use Rattle.channel_store.specs.Storing.{is_of, kept_of}
use Rattle.channel_store.specs.declared.kept.Kept.{Kept}
use Rattle.channel_store.proofs.Places.{found_at_place, found_passes}
use Rattle.channel_safety.proofs.Chains.{parts}
use Rattle.channel_safety.proofs.Lists.{In-append_left, In-append_right, Split, split_of, Suffix, suffix_of, append_assoc', get-within}
use Rattle.channel_safety.proofs.ChainsGrow.{noted-good}
use Rattle.channel_safety.proofs.Opening.{held-good}
use Rattle.channel_safety.proofs.Places.{made-noted, made-not_watched, noted-not_watched, held-at}
use Rattle.channel_safety.proofs.Rowing.{legal-suffix}
use Rattle.channel_safety.proofs.Tests.{some-eq, none-eq, and-left, and-both, eqb-true, le-true, true-le, cond-true}
use Rattle.channel_safety.specs.Journals.{In, Line, opened, opens, made_in, noted_in, is_watched, is_followed, is_challenge}
use Rattle.network.specs.declared.command.Command.{Command}
use Rattle.channel_safety.specs.Held.{note, held}
use Rattle.channel_safety.specs.Good.{IsGood, IsGoodIfAny}
use Rattle.channel_safety.specs.Honest.{key_at, EndsWith, HonestAt, HonestLine, HonestIn}
use Rattle.channel_node.specs.Minds.{Mind, facts_of}
use Rattle.channel_node.specs.Places.{Told, line_of, lines_of, mind_at, AreFew}
use Rattle.channel_node.specs.Leaving.{ChallengesWith}
use Rattle.channel_node.specs.Tables.{Tables}
use Rattle.channel_node.specs.Refusing.{is_open, stands_in}
use Rattle.channel_node.specs.Playing.{Signing, SignsWell, signings, pending, Allowed, PlaysEvent, Plays}
use Rattle.channel_store.proofs.Keeping.{named}
use Rattle.channel_node.specs.Openings.{opened_by, place_among, adds}
use Rattle.channel_node.proofs.Agreeing.{IsOwn, Agree, among, filtered}
use Rattle.channel_node.proofs.Standing.{known}
use Rattle.channel_node.proofs.Reaching.{Reaches, reaches-later}
use Rattle.channel_node.proofs.Allowing.{Extends, SignsOwn, made-own, noted-extends, opens-none}
use Rattle.channel_node.proofs.Leaving.{exited, exited-older, stays, left-is, FromHeld, from-held, made-staying, no-challenge}

-- ---- lists

In-flat_map : {A B : Type 0} (f : A → List B) (x : A) (y : B) (xs : List A) → In x xs → In y (f x) → In y (flat_map f xs)
In-flat_map f x y [] i j = absurd i
In-flat_map f x y (z ∷ xs) (inl e) j = In-append_left y (f z) (flat_map f xs) (subst (λ w. In y (f w)) e j)
In-flat_map f x y (z ∷ xs) (inr i) j = In-append_right y (f z) (flat_map f xs) (In-flat_map f x y xs i j)

In-map : {A B : Type 0} (f : A → B) (x : A) (xs : List A) → In x xs → In (f x) (map f xs)
In-map f x [] i = absurd i
In-map f x (z ∷ xs) (inl e) = inl (ap f e)
In-map f x (z ∷ xs) (inr i) = inr (In-map f x xs i)

In-filter : {A : Type 0} (p : A → Bool) (x : A) (xs : List A) → In x xs → p x ≡ true → In x (filter p xs)
In-filter p x [] i t = absurd i
In-filter p x (z ∷ xs) (inl e) t = subst (λ ys. In x ys) (sym (cond-true (p z) (z ∷ filter p xs) (filter p xs) (ap p (sym e) ∙ t))) (inl e)
In-filter p x (z ∷ xs) (inr i) t = go (p z) (In-filter p x xs i t)
  where
    go : (b : Bool) → In x (filter p xs) → In x (cond b (z ∷ filter p xs) (filter p xs))
    go true j = inr j
    go false j = j

find-In : {A : Type 0} (p : A → Bool) (xs : List A) (x : A) → find p xs ≡ Some x → In x xs
find-In p [] x e = absurd (none-eq x e)
find-In p (z ∷ xs) x e = go (p z) (find-In p xs x) e
  where
    go : (b : Bool) → (find p xs ≡ Some x → In x xs) → cond b (Some z) (find p xs) ≡ Some x → In x (z ∷ xs)
    go true rest e = inl (sym (some-eq z x e))
    go false rest e = inr (rest e)

-- a held chain of what is kept is among the held chains
pub held-in-chains : (channel : List ℕ) (kept : List Kept) (k : Kept) → kept_of channel kept ≡ Some k → is_held k ≡ true → In (record { channel = k.channel; chain = k.chain }) (flat_map held_chain kept)
held-in-chains channel kept k is full =
    In-flat_map held_chain k shown kept (find-In (is_of channel) kept k (sym (found_at_place (is_of channel) kept) ∙ is)) (subst (λ (b : Bool). In shown (cond b (shown ∷ []) [])) (sym full) (inl refl))
  where
    shown : HeldChain
    shown = record { channel = k.channel; chain = k.chain }

in-adds : (b : Bool) (fs : List FixedParts) (f : FixedParts) → In f (cond b fs []) → In f fs
in-adds true fs f i = i
in-adds false fs f i = absurd i

-- ---- journals

pub lines-append : (key : List ℕ) (newer front : List Told) → lines_of key (newer ++ front) ≡ lines_of key newer ++ lines_of key front
lines-append key [] front = refl
lines-append key (x ∷ newer) front = ap (λ (xs : List Line). line_of key x ∷ xs) (lines-append key newer front)

pub In-lines : (key : List ℕ) (y : Line) (journal : List Told) → In y (lines_of key journal) → (z : Told) × (In z journal) × (y ≡ line_of key z)
In-lines key y [] i = absurd i
In-lines key y (x ∷ journal) (inl e) = (x, inl refl, e)
In-lines key y (x ∷ journal) (inr i) = let z = In-lines key y journal i in (z.0, inr z.1, z.2)

pub plays-at : (ts : Tables) (r : Rules) (s : Signing) (h : List Entry) (newer : List Told) (y : Told) (front : List Told) → Plays ts r s h (newer ++ y ∷ front) → PlaysEvent ts r s h y front
plays-at ts r s h [] y front plays = plays.0
plays-at ts r s h (x ∷ newer) y front plays = plays-at ts r s h newer y front plays.1

pub plays-rises : (ts : Tables) (r : Rules) (s : Signing) (h : List Entry) (newer : List Told) (y : Told) (front : List Told) → Plays ts r s h (newer ++ y ∷ front) → is_watched y.deed ≡ false
    → (z : Told) → In z newer → y.seen ≤ z.seen
plays-rises ts r s h [] y front plays w z i = absurd i
plays-rises ts r s h (x ∷ newer) y front plays w z (inl e) =
    let a : y.seen ≤ x.seen = plays.0.rising y (In-append_right y newer (y ∷ front) (inl refl)) w in
    subst (λ (t : Told). y.seen ≤ t.seen) (sym e) a
plays-rises ts r s h (x ∷ newer) y front plays w z (inr i) = plays-rises ts r s h newer y front plays.1 w z i

-- of one name these lines open one fixed part
abbrev pub OneFixed : Rules → FixedParts → List Line → Type 0
OneFixed r f lines = (x : Line) (g : FixedParts) → In x lines → In g (opened x) → bytes_eq (r.named g) (r.named f) ≡ true → g ≡ f

-- what is kept of the channel, beside what is held
record Holds (r : Rules) (key : List ℕ) (f : FixedParts) (lines : List Line) (k : Kept) (st : Option Marked) : Type 0 where
  own : IsOwn r key (r.named f) lines k
  fixed : k.chain.fixed ≡ f
  is : st ≡ Some (marked_of k.chain)

-- At an event: the entries that it had seen, and what the rules give there.
module _ (ts : Tables) (r : Rules) (s : Signing) (signs-well : SignsWell r s) (f : FixedParts) (past : List Entry) (x : Told) (front : List Told)
    (legal : Legal r past) (few : AreFew past) (len : length past ≡ x.seen) (one : OneFixed r f (lines_of s.key front))
    (allowed : Allowed ts r s past (mind_at r s.key past front) (signings front) (pending front) x.deed x.command) where
  abbrev m : Mind
  m = mind_at r s.key past front

  abbrev st : Option Marked
  st = held r f past (lines_of s.key front)

  abbrev lines : List Line
  lines = lines_of s.key front

  kept-own : (k : Kept) → kept_of (r.named f) m.kept ≡ Some k → IsOwn r s.key (r.named f) lines k
  kept-own k e = go (kept_of (r.named f) m.kept) st e (known r s.key f past front legal few).agree
    where
      go : (o : Option Kept) (w : Option Marked) → o ≡ Some k → Agree r s.key f lines o w → IsOwn r s.key (r.named f) lines k
      go None w e a = absurd (none-eq k e)
      go (Some k') None e a = absurd a
      go (Some k') (Some w) e a = subst (IsOwn r s.key (r.named f) lines) (some-eq k' k e) a.0

  holds-kept : (k : Kept) → kept_of (r.named f) m.kept ≡ Some k → Holds r s.key f lines k st
  holds-kept k e = go (kept_of (r.named f) m.kept) st e refl (known r s.key f past front legal few).agree
    where
      owned : IsOwn r s.key (r.named f) lines k
      owned = kept-own k e

      same : k.chain.fixed ≡ f
      same = one owned.line k.chain.fixed owned.there owned.opens owned.named

      go : (o : Option Kept) (w : Option Marked) → o ≡ Some k → st ≡ w → Agree r s.key f lines o w → Holds r s.key f lines k st
      go None w e is a = absurd (none-eq k e)
      go (Some k') None e is a = absurd a
      go (Some k') (Some w) e is a =
          let at : k' ≡ k = some-eq k' k e in
          let chain : marked_of k.chain ≡ w = (subst (λ (z : Kept). z.chain.fixed ≡ f → marked_of z.chain ≡ w) at a.1) same in
          record { own = owned; fixed = same; is = is ∙ ap (λ (z : Marked). Some z) (sym chain) }

  nothing-held : kept_of (r.named f) m.kept ≡ None → st ≡ None
  nothing-held e = go (kept_of (r.named f) m.kept) st e (known r s.key f past front legal few).agree
    where
      go : (o : Option Kept) (w : Option Marked) → o ≡ None → Agree r s.key f lines o w → w ≡ None
      go None None e a = refl
      go None (Some w) e a = absurd a
      go (Some k) w e a = absurd (none-eq k (sym e))

  -- a held chain is of something kept
  kept-held : (w : Marked) → st ≡ Some w → (k : Kept) × (kept_of (r.named f) m.kept ≡ Some k)
  kept-held w e = go (kept_of (r.named f) m.kept) refl st e (known r s.key f past front legal few).agree
    where
      go : (o : Option Kept) → kept_of (r.named f) m.kept ≡ o → (z : Option Marked) → z ≡ Some w → Agree r s.key f lines o z → (k : Kept) × (kept_of (r.named f) m.kept ≡ Some k)
      go (Some k) is z e a = (k, is)
      go None is None e a = absurd (none-eq w e)
      go None is (Some z) e a = absurd a

  held-is-good : (w : Marked) → st ≡ Some w → 1 ≤ people f → IsGood r f w
  held-is-good w e some = subst (IsGoodIfAny r f) e (held-good r f some past lines)

  -- the chain that is held after a state was noted
  record Noted (t : Signed) : Type 0 where
    w : Marked
    is : st ≡ Some w
    tests : extends r f t w ≡ true
    next : held r f past (line_of s.key x ∷ lines) ≡ Some (answered f t w)
    good : IsGood r f w

  noted-line : (t : Signed) → noted_in (r.named f) x.deed ≡ Some t → Noted t
  noted-line t e = at (noted-extends ts r s signs-well past m (signings front) (pending front) (r.named f) lines kept-own x.deed x.command t allowed e)
    where
      at : Extends r m (r.named f) t → Noted t
      at ext = record { w = marked_of ext.k.chain; is = keeps.is; tests = tests; next = next; good = good }
        where
          keeps : Holds r s.key f lines ext.k st
          keeps = holds-kept ext.k ext.is

          tests : extends r f t (marked_of ext.k.chain) ≡ true
          tests = subst (λ (g : FixedParts). extends r g t (marked_of ext.k.chain) ≡ true) keeps.fixed ext.tests

          good : IsGood r f (marked_of ext.k.chain)
          good = held-is-good (marked_of ext.k.chain) keeps.is
              (subst (λ (g : FixedParts). 1 ≤ people g) keeps.fixed (let i : ext.k.me < length ext.k.chain.fixed.keys = get-within ext.k.chain.fixed.keys ext.k.me s.key keeps.own.mine in omega arith))

          next : held r f past (line_of s.key x ∷ lines) ≡ Some (answered f t (marked_of ext.k.chain))
          next =
              held-at r f past (line_of s.key x) lines len
              ∙ ap (note r f (line_of s.key x)) keeps.is
              ∙ ap (λ (o : Option Signed). Some (extended r f o (marked_of ext.k.chain))) e
              ∙ ap (λ (b : Bool). Some (cond b (answered f t (marked_of ext.k.chain)) (marked_of ext.k.chain))) tests

  -- ---- the parts of honesty

  opening-part : opens r (r.named f) (line_of s.key x) ≡ true → st ≡ None
  opening-part e = nothing-held (opens-none ts r s signs-well past m (signings front) (pending front) (r.named f) lines kept-own x.seen x.deed x.command allowed e)

  plan-part : (t : Signed) → made_in (r.named f) x.deed ≡ Some t → (w : Marked) × (st ≡ Some w)
  plan-part t e = let n = noted-line t (made-noted (r.named f) x.deed t e) in (n.w, n.is)

  own-part : (t : Signed) → made_in (r.named f) x.deed ≡ Some t → key_at f t.state.turn ≡ Some s.key
  own-part t e = at (made-own ts r s signs-well past m (signings front) (pending front) (r.named f) lines kept-own x.deed x.command t allowed e)
    where
      at : SignsOwn r m (r.named f) t → key_at f t.state.turn ≡ Some s.key
      at own =
          let keeps = holds-kept own.extending.k own.extending.is in
          subst (λ (g : FixedParts). slice_get g.keys (mover (people g) t.state.turn) ≡ Some s.key) keeps.fixed
          (ap (slice_get own.extending.k.chain.fixed.keys) own.own ∙ keeps.own.mine)

  open-part : (t : Signed) → made_in (r.named f) x.deed ≡ Some t → mode r (r.named f) past ≡ Open
  open-part t e = open-mode (mode r (r.named f) past) (sym stands ∙ own.stays_open)
    where
      own : SignsOwn r m (r.named f) t
      own = made-own ts r s signs-well past m (signings front) (pending front) (r.named f) lines kept-own x.deed x.command t allowed e

      view : StandsFor r past m.view
      view = (known r s.key f past front legal few).view

      stands : is_open (stands_in (facts_of m) (r.named f)) ≡ is_open (mode r (r.named f) past)
      stands =
          ap (λ (n : ℕ). is_open (mode_at (view_of m.view.channels (r.named f)).deadline n)) view.now
          ∙ ap (λ (d : Option ℕ). is_open (mode_at d (now_of past))) (view.channels (r.named f)).deadline

      open-mode : (o : Standing) → is_open o ≡ true → o ≡ Open
      open-mode Open t = refl
      open-mode Challenged t = absurd cc
      open-mode Final t = absurd cc

  holds-part : (t : Signed) → noted_in (r.named f) x.deed ≡ Some t → people f ≤ t.state.turn + 1 → EndsWith r f (held r f past (line_of s.key x ∷ lines)) t.state
  holds-part t e full =
      let n = noted-line t e in
      let a = noted-good r f t n.w n.good n.tests in
      record { chain = answered f t n.w; is = n.next; ends = a.ends; chain_supported = a.chain full }

  challenges-part : (z : StateParts) (who : ℕ) (signature : List ℕ) → x.deed ≡ deeds.SignedChallenge (r.named f) z who signature → EndsWith r f st z
  challenges-part z who signature e = at own (from-held m (r.named f) own.0 own.1)
    where
      own : ChallengesWith m (r.named f) z who
      own = (subst (λ (d : Deed). Allowed ts r s past m (signings front) (pending front) d x.command) e allowed).1

      at : (o : ChallengesWith m (r.named f) z who) → FromHeld m (r.named f) o.0 → EndsWith r f st z
      at o from = record {
        chain = marked_of from.k.chain;
        is = keeps.is;
        ends = from.ends ∙ ap (λ (y : StateParts). Some y) o.2;
        chain_supported = which (held-is-good (marked_of from.k.chain) keeps.is some);
      }
        where
          keeps : Holds r s.key f lines from.k st
          keeps = holds-kept from.k from.is

          some : 1 ≤ people f
          some = subst (λ (g : FixedParts). 1 ≤ people g) keeps.fixed (let i : from.k.me < length from.k.chain.fixed.keys = get-within from.k.chain.fixed.keys from.k.me s.key keeps.own.mine in omega arith)

          which : IsGood r f (marked_of from.k.chain) → is_supported r f (marked_of from.k.chain) ≡ true
          which (inr supp) = supp
          which (inl y) =
              let few : length from.k.chain.states < people f = y.few in
              let marks : length from.k.chain.marks ≡ length from.k.chain.states = y.marks in
              let all : people from.k.chain.fixed ≤ length from.k.chain.marks = le-true (people from.k.chain.fixed) (length from.k.chain.marks) from.full in
              let same : people from.k.chain.fixed ≡ people f = ap people keeps.fixed in
              absurd (omega arith)

  looks-part : (watcher : ℕ) (calls : List Call) (w : Marked) → x.deed ≡ deeds.Watched watcher calls → st ≡ Some w → is_supported r f w ≡ true
      → mode r (r.named f) past ≡ Challenged → (row r (r.named f) past).turn < top_turn w.states → In (Checkpoint (chain_of f w)) calls
  looks-part watcher calls w e is supp open_at below = subst (In (Checkpoint (chain_of f w))) (sym given.1) there
    where
      given : (pending front ≡ None) × (calls ≡ looks r past (flat_map held_chain m.kept))
      given = subst (λ (d : Deed). Allowed ts r s past m (signings front) (pending front) d x.command) e allowed

      found : (k : Kept) × (kept_of (r.named f) m.kept ≡ Some k)
      found = kept-held w is

      k : Kept
      k = found.0

      keeps : Holds r s.key f lines k st
      keeps = holds-kept k found.1

      same : marked_of k.chain ≡ w
      same = some-eq (marked_of k.chain) w (sym keeps.is ∙ is)

      name : k.channel ≡ r.named f
      name = same_bytes k.channel (r.named f) (found_passes (is_of (r.named f)) m.kept k (sym (named (r.named f) m.kept) ∙ found.1))

      full : is_held k ≡ true
      full = true-le (people k.chain.fixed) (length k.chain.marks)
          (let a : length w.marks ≡ people f = (parts r f w supp).marks in
          let b : length k.chain.marks ≡ length w.marks = ap (λ (z : Marked). length z.marks) same in
          let d : people k.chain.fixed ≡ people f = ap people keeps.fixed in omega arith)

      shown : HeldChain
      shown = record { channel = k.channel; chain = k.chain }

      in-chains : In shown (flat_map held_chain m.kept)
      in-chains = held-in-chains (r.named f) m.kept k found.1 full

      stale : is_below r past shown ≡ true
      stale = and-both (is_challenged (mode r k.channel past)) (nat_lt (row r k.channel past).turn (top_turn k.chain.states))
          (ap (λ (n : List ℕ). is_challenged (mode r n past)) name ∙ ap is_challenged open_at)
          (ap (λ (n : List ℕ). nat_lt (row r n past).turn (top_turn k.chain.states)) name
          ∙ ap (λ (z : Marked). nat_lt (row r (r.named f) past).turn (top_turn z.states)) same
          ∙ lt-is (row r (r.named f) past).turn (top_turn w.states) below)
        where
          lt-is : (a b : ℕ) → a < b → nat_lt a b ≡ true
          lt-is a b l = grind arith

      chain-is : k.chain ≡ chain_of f w
      chain-is = ap (λ (g : FixedParts). chain_of g (marked_of k.chain)) keeps.fixed ∙ ap (chain_of f) same

      there : In (Checkpoint (chain_of f w)) (looks r past (flat_map held_chain m.kept))
      there = subst (λ (z : Chain). In (Checkpoint z) (looks r past (flat_map held_chain m.kept))) chain-is
          (In-map (λ (held : HeldChain). Checkpoint held.chain) shown (filter (is_below r past) (flat_map held_chain m.kept))
          (In-filter (is_below r past) shown (flat_map held_chain m.kept) in-chains stale))

-- ---- over the whole journal

-- what an earlier line noted is reached
pub reached : (ts : Tables) (r : Rules) (s : Signing) → SignsWell r s → (f : FixedParts) (h later past : List Entry) (front : List Told) → h ≡ later ++ past → Legal r h → Plays ts r s h front → OneFixed r f (lines_of s.key front)
    → (y : Told) → In y front → y.seen ≤ length past → (t : Signed) → noted_in (r.named f) y.deed ≡ Some t → Reaches r f t.state.turn (held r f past (lines_of s.key front))
reached ts r s signs-well f h later past front split legal plays one y i within t e = at (split_of y front i) (suffix_of past y.seen within)
  where
    at : Split y front → Suffix past y.seen → Reaches r f t.state.turn (held r f past (lines_of s.key front))
    at sp su =
        let older : List Told = sp.front in
        let whole : lines_of s.key front ≡ lines_of s.key sp.newer ++ lines_of s.key (y ∷ older) = ap (lines_of s.key) sp.is ∙ lines-append s.key sp.newer (y ∷ older) in
        let plays' : Plays ts r s h (sp.newer ++ y ∷ older) = subst (Plays ts r s h) sp.is plays in
        let ev : PlaysEvent ts r s h y older = plays-at ts r s h sp.newer y older plays' in
        let place : h ≡ (later ++ su.later) ++ su.past = split ∙ ap (λ (z : List Entry). later ++ z) su.is ∙ append_assoc' later su.later su.past in
        let one' : OneFixed r f (lines_of s.key older) = (λ z g j. one z g (subst (In z) (sym whole) (In-append_right z (lines_of s.key sp.newer) (lines_of s.key (y ∷ older)) (inr j)))) in
        let given = ev.place (later ++ su.later) su.past place su.len in
        let n = noted-line ts r s signs-well f su.past y older (legal-suffix r (later ++ su.later) su.past (subst (Legal r) place legal)) given.0 su.len one' given.1 t e in
        let a = noted-good r f t n.w n.good n.tests in
        let here : Reaches r f t.state.turn (held r f su.past (lines_of s.key (y ∷ older))) = record { w = answered f t n.w; is = n.next; top = t.state; ends = a.ends; up = omega arith; good = a.good } in
        subst (λ (z : List Entry). Reaches r f t.state.turn (held r f z (lines_of s.key front))) (sym su.is)
        (subst (λ (z : List Line). Reaches r f t.state.turn (held r f (su.later ++ su.past) z)) (sym whole)
        (reaches-later r f t.state.turn (lines_of s.key sp.newer) su.later su.past (lines_of s.key (y ∷ older))
        (λ z j w. (let told = In-lines s.key z sp.newer j in
        let a : y.seen ≤ told.0.seen = plays-rises ts r s h sp.newer y older plays' (noted-not_watched (r.named f) y.deed t e) told.0 told.1 in
        subst (λ (v : Line). length su.past ≤ v.seen) (sym told.2) (subst (λ (n : ℕ). n ≤ told.0.seen) (sym su.len) a))) here))

honest-line : (ts : Tables) (r : Rules) (s : Signing) → SignsWell r s → (f : FixedParts) (h : List Entry) → Legal r h → (x : Told) (front : List Told) → PlaysEvent ts r s h x front → Plays ts r s h front
    → OneFixed r f (lines_of s.key front) → HonestLine r s.key f h (line_of s.key x) (lines_of s.key front)
honest-line ts r s signs-well f h legal x front ev plays one =
    record {
      within = ev.within;
      rising = λ y i w. (let told = In-lines s.key y front i in
          subst (λ (z : Line). z.seen ≤ x.seen) (sym told.2) (ev.rising told.0 told.1 (subst (λ (z : Line). is_watched z.deed ≡ false) told.2 w)));
      place = λ later past split len. at later past split len (legal-suffix r later past (subst (Legal r) split legal)) (ev.place later past split len).0 (ev.place later past split len).1;
    }
  where
    at : (later past : List Entry) → h ≡ later ++ past → length past ≡ x.seen → Legal r past → AreFew past → Allowed ts r s past (mind_at r s.key past front) (signings front) (pending front) x.deed x.command
        → HonestAt r s.key f past (line_of s.key x) (lines_of s.key front)
    at later past split len legal-past few allowed =
        record {
          opening = opening-part ts r s signs-well f past x front legal-past few len one allowed;
          takes_part = takes-part;
          in_plan = plan-part ts r s signs-well f past x front legal-past few len one allowed;
          is_open = open-part ts r s signs-well f past x front legal-past few len one allowed;
          own_turn = own-part ts r s signs-well f past x front legal-past few len one allowed;
          above = above;
          holds = holds-part ts r s signs-well f past x front legal-past few len one allowed;
          challenges = challenges-part ts r s signs-well f past x front legal-past few len one allowed;
          leaves = leaves;
          looks = looks-part ts r s signs-well f past x front legal-past few len one allowed;
        }
      where
        takes-part : In f (opened (line_of s.key x)) → (me : ℕ) × (slice_get f.keys me ≡ Some s.key)
        takes-part i = by x.command (in-adds (is_followed x.deed) (adds s.key x.command) f i)
          where
            by : (command : Option Command) → In f (adds s.key command) → (me : ℕ) × (slice_get f.keys me ≡ Some s.key)
            by None i = absurd i
            by (Some command) i = (place_among s.key f, among s.key f (filtered s.key (opened_by command) f i))

        above : (t : Signed) → made_in (r.named f) x.deed ≡ Some t → (y : Line) (u : Signed) → In y (lines_of s.key front) → made_in (r.named f) y.deed ≡ Some u → u.state.turn < t.state.turn
        above t e y u i made =
            let told = In-lines s.key y front i in
            let made-there : made_in (r.named f) told.0.deed ≡ Some u = subst (λ (z : Line). made_in (r.named f) z.deed ≡ Some u) told.2 made in
            let early : told.0.seen ≤ x.seen = ev.rising told.0 told.1 (made-not_watched (r.named f) told.0.deed u made-there) in
            let reach = reached ts r s signs-well f h later past front split legal plays one told.0 told.1 (subst (λ (n : ℕ). told.0.seen ≤ n) (sym len) early) u (made-noted (r.named f) told.0.deed u made-there) in
            let n = noted-line ts r s signs-well f past x front legal-past few len one allowed t (made-noted (r.named f) x.deed t e) in
            let same : reach.w ≡ n.w = some-eq reach.w n.w (sym reach.is ∙ n.is) in
            let next : t.state.turn ≡ next_after (newest n.w.states) =
            eqb-true t.state.turn (next_after (newest n.w.states)) (and-left (t.state.turn == next_after (newest n.w.states)) (is_signed_well r f t && is_step r f t.state (newest n.w.states)) n.tests) in
            let top : next_after (newest n.w.states) ≡ reach.top.turn + 1 = ap (λ (z : Marked). next_after (newest z.states)) (sym same) ∙ ap next_after reach.ends in
            let up : u.state.turn ≤ reach.top.turn = reach.up in
            omega arith

        leaves : (t : Signed) → made_in (r.named f) x.deed ≡ Some t → (y : Line) → In y (lines_of s.key front) → is_challenge y.deed ≡ false
        leaves t e y i =
            let told = In-lines s.key y front i in
            subst (λ (z : Line). is_challenge z.deed ≡ false) (sym told.2) (none-challenged told.0 (split_of told.0 front told.1))
          where
            -- no exit was accepted before what is signed, so none was before what is older
            none-exited : exited front ≡ false
            none-exited =
                sym (left-is ts r s h x front ev past len)
                ∙ made-staying ts r s past (mind_at r s.key past front) (signings front) (pending front) (r.named f) x.deed x.command t allowed e

            none-challenged : (z : Told) → Split z front → is_challenge z.deed ≡ false
            none-challenged z sp = by (plays-at ts r s h sp.newer z sp.front (subst (Plays ts r s h) sp.is plays))
              where
                none-older : exited sp.front ≡ false
                none-older = exited-older sp.newer z sp.front (sym (ap exited sp.is) ∙ none-exited)

                by : PlaysEvent ts r s h z sp.front → is_challenge z.deed ≡ false
                by ev = (let su = suffix_of h z.seen ev.within in
                    challenge-free su.past (ev.place su.later su.past su.is su.len).1)
                  where
                    challenge-free : (past : List Entry) → Allowed ts r s past (mind_at r s.key past sp.front) (signings sp.front) (pending sp.front) z.deed z.command → is_challenge z.deed ≡ false
                    challenge-free past a = no-challenge ts r s past (mind_at r s.key past sp.front) (signings sp.front) (pending sp.front) z.deed z.command a (stays r s.key past sp.front none-older)

pub honest-in : (ts : Tables) (r : Rules) (s : Signing) → SignsWell r s → (f : FixedParts) (h : List Entry) → Legal r h → (journal : List Told) → Plays ts r s h journal → OneFixed r f (lines_of s.key journal)
    → HonestIn r s.key f h (lines_of s.key journal)
honest-in ts r s signs-well f h legal [] plays one = tt
honest-in ts r s signs-well f h legal (x ∷ front) plays one =
    let later-one : OneFixed r f (lines_of s.key front) = (λ y g i. one y g (inr i)) in
    (honest-line ts r s signs-well f h legal x front plays.0 plays.1 later-one, honest-in ts r s signs-well f h legal front plays.1 later-one)
