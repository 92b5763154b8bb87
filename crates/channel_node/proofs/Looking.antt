-- What a look answers doesn't hang on chains that only entries after the node's place show.
use Rattle.std.proofs.Common.{◌≡◌, ℕ, zero, suc, ◌<◌, ◌≤◌, Bool, true, false, cond, ◌&&◌, ◌||◌, not, List, [], ◌∷◌, ◌++◌, inl, inr, length, refl, sym, ◌∙◌, ap, subst, arith}
use Rattle.std.specs.Prelude.{Option, Some, None, map, filter, slice_set, nat_lt}
use Rattle.std.specs.List.{slice_get, flat_map}
use Rattle.channel_values.specs.Parts.{FixedParts}
use Rattle.call_history.specs.Mode.{is_final, is_challenged}
use Rattle.call_history.specs.declared.standing.Standing.{Standing}
use Rattle.call_history.specs.declared.standing.Standing.TheVariants.{Open, Challenged, Final}
use Rattle.channel_values.specs.Rules.{Rules, people, top_turn}
use Rattle.call_history.proofs.Names.{same_bytes, bytes_eq_self}
use Rattle.call_history.specs.Marked.{Marked, nothing, marked_of, is_supported, is_newer}
use Rattle.call_history.specs.Rows.{fixed_of}
use Rattle.call_history.specs.Shown.{shown}
use Rattle.call_history.specs.Shown as showing
use Rattle.call_history.specs.History.{Legal, is_accepted, is_named, turning, row, mode}
use Rattle.call_history.specs.declared.call.Call.{Call}
use Rattle.call_history.specs.declared.call.Call.TheVariants.{Checkpoint}
use Rattle.call_history.specs.declared.entry.Entry.{Entry}
use Rattle.call_history.specs.declared.held_chain.HeldChain.{HeldChain}
use Rattle.channel_store.specs.Keeping.{is_held, held_chain, with_chain, adopting}
use Rattle.channel_store.specs.Storing.{is_of, place_of, kept_of, kept_at}
use Rattle.channel_store.specs.declared.kept.Kept.{Kept}
use Rattle.network.specs.Watching.{checkpoints, is_below, looks}
use Rattle.channel_safety.proofs.Chains.{parts}
use Rattle.channel_safety.proofs.Lists.{append_assoc', length-up, get-within}
use Rattle.channel_safety.proofs.Opening.{held-good}
use Rattle.channel_safety.proofs.Rowing.{legal-suffix}
use Rattle.channel_safety.proofs.Tests.{some-eq, none-eq, and-left, and-right, or-right, lt-true, lt-false, le-true}
use Rattle.history_view.proofs.Showing.{turn_shown, together}
use Rattle.history_view.specs.Standing.{newer, newest_shown}
use Rattle.history_view.specs.Views.{view_of}
use Rattle.channel_safety.specs.Held.{held}
use Rattle.channel_safety.specs.Good.{IsGood, IsGoodIfAny}
use Rattle.channel_safety.specs.Journals.{In, is_watched}
use Rattle.channel_node.specs.Minds.{Mind, shown_by, kept_seeing, saw}
use Rattle.channel_node.specs.Places.{Told, lines_of, mind_at, AreFew}
use Rattle.channel_node.proofs.Agreeing.{IsOwn, Agree}
use Rattle.channel_store.proofs.Keeping.{named}
use Rattle.channel_store.proofs.Places.{found_passes}
use Rattle.channel_node.proofs.Places.{mind-entry}
use Rattle.channel_node.proofs.Standing.{known, told-shown}

-- ---- lists

flat_map-set : {A B : Type 0} (g : A → List B) (xs : List A) (place : ℕ) (x y : A) → slice_get xs place ≡ Some x → g y ≡ g x → flat_map g (slice_set xs place y) ≡ flat_map g xs
flat_map-set g [] place x y e same = absurd (none-eq x e)
flat_map-set g (z ∷ xs) zero x y e same = ap (λ ys. ys ++ flat_map g xs) (same ∙ ap g (sym (some-eq z x e)))
flat_map-set g (z ∷ xs) (suc place) x y e same = ap (λ ys. g z ++ ys) (flat_map-set g xs place x y e same)

-- what one channel adds to a look
abbrev pub stale : Rules → List Entry → Kept → List Call
stale r h k = checkpoints (is_below r h) (held_chain k)

checkpoints-append : (test : HeldChain → Bool) (xs ys : List HeldChain) → checkpoints test (xs ++ ys) ≡ checkpoints test xs ++ checkpoints test ys
checkpoints-append test [] ys = refl
checkpoints-append test (x ∷ xs) ys = go (test x) (checkpoints-append test xs ys)
  where
    given : HeldChain → Call
    given z = Checkpoint z.chain

    go : (b : Bool) → map given (filter test (xs ++ ys)) ≡ map given (filter test xs) ++ map given (filter test ys)
        → map given (cond b (x ∷ filter test (xs ++ ys)) (filter test (xs ++ ys))) ≡ map given (cond b (x ∷ filter test xs) (filter test xs)) ++ map given (filter test ys)
    go true rest = ap (λ (cs : List Call). Checkpoint x.chain ∷ cs) rest
    go false rest = rest

-- a look goes over what is kept
looks-kept : (r : Rules) (h : List Entry) (kept : List Kept) → looks r h (flat_map held_chain kept) ≡ flat_map (stale r h) kept
looks-kept r h [] = refl
looks-kept r h (k ∷ kept) = checkpoints-append (is_below r h) (held_chain k) (flat_map held_chain kept) ∙ ap (λ (cs : List Call). stale r h k ++ cs) (looks-kept r h kept)

-- ---- rows

still : (x : Standing) → is_challenged x ≡ true → is_final x ≡ false
still Open e = refl
still Challenged e = refl
still Final e = absurd cc

-- the newest shown chain isn't older than one that was shown
newer-than-first : (w : Marked) (o : Option Marked) → nat_lt 0 (length w.states) ≡ true → top_turn w.states ≤ turn_shown (newer w o)
newer-than-first w None some = subst (λ (b : Bool). top_turn w.states ≤ turn_shown (cond b (Some w) None)) (sym some) (omega arith)
newer-than-first w (Some before) some =
    subst (λ (b : Bool). top_turn w.states ≤ turn_shown (cond b (Some (cond (nat_lt (top_turn w.states) (top_turn before.states)) before w)) (Some before))) (sym some)
    (go (nat_lt (top_turn w.states) (top_turn before.states)) refl)
  where
    go : (b : Bool) → nat_lt (top_turn w.states) (top_turn before.states) ≡ b → top_turn w.states ≤ turn_shown (Some (cond b before w))
    go true e = let l : top_turn w.states < top_turn before.states = lt-true (top_turn w.states) (top_turn before.states) e in omega arith
    go false e = omega arith

newer-than-second : (w : Marked) (o : Option Marked) → turn_shown o ≤ turn_shown (newer w o)
newer-than-second w None = omega arith
newer-than-second w (Some before) = go (nat_lt 0 (length w.states)) (nat_lt (top_turn w.states) (top_turn before.states)) refl
  where
    go : (a b : Bool) → nat_lt (top_turn w.states) (top_turn before.states) ≡ b → top_turn before.states ≤ turn_shown (cond a (Some (cond b before w)) (Some before))
    go false b e = omega arith
    go true true e = omega arith
    go true false e = let l : top_turn before.states ≤ top_turn w.states = lt-false (top_turn w.states) (top_turn before.states) e in omega arith

shown-stays : (r : Rules) (c : List ℕ) (later past : List Entry) → turn_shown (newest_shown r c past) ≤ turn_shown (newest_shown r c (later ++ past))
shown-stays r c [] past = omega arith
shown-stays r c (e ∷ later) past =
    let a = shown-stays r c later past in
    let b : turn_shown (newest_shown r c (later ++ past)) ≤ turn_shown (newest_shown r c (e ∷ (later ++ past))) = newer-than-second (shown r c (later ++ past) e) (newest_shown r c (later ++ past)) in
    omega arith

-- a chain that was shown isn't above the row of a challenged channel
shown-low : (r : Rules) (c : List ℕ) (h later past : List Entry) (e : Entry) → h ≡ later ++ e ∷ past → Legal r h → nat_lt 0 (length (shown r c past e).states) ≡ true
    → is_challenged (mode r c h) ≡ true → top_turn (shown r c past e).states ≤ (row r c h).turn
shown-low r c h later past e split legal some open_at =
    let a : top_turn (shown r c past e).states ≤ turn_shown (newest_shown r c (e ∷ past)) = newer-than-first (shown r c past e) (newest_shown r c past) some in
    let b : turn_shown (newest_shown r c (e ∷ past)) ≤ turn_shown (newest_shown r c h) =
    subst (λ (z : List Entry). turn_shown (newest_shown r c (e ∷ past)) ≤ turn_shown (newest_shown r c z)) (sym split) (shown-stays r c later (e ∷ past)) in
    let d : (row r c h).turn ≡ turn_shown (newest_shown r c h) = (together r c h legal).turn (still (mode r c h) open_at) in
    omega arith

-- ---- one channel

-- a chain that isn't above the row adds nothing
adds-nothing : (r : Rules) (h : List Entry) (k : Kept) → (is_held k ≡ true → is_challenged (mode r k.channel h) ≡ true → top_turn k.chain.states ≤ (row r k.channel h).turn) → stale r h k ≡ []
adds-nothing r h k low = go (is_held k) refl
  where
    given : HeldChain → Call
    given z = Checkpoint z.chain

    one : HeldChain
    one = record { channel = k.channel; chain = k.chain }

    below : (b : Bool) → is_challenged (mode r k.channel h) ≡ b → (b ≡ true → top_turn k.chain.states ≤ (row r k.channel h).turn)
        → (b && nat_lt (row r k.channel h).turn (top_turn k.chain.states)) ≡ false
    below false e l = refl
    below true e l = not-lt (row r k.channel h).turn (top_turn k.chain.states) (l refl)
      where
        not-lt : (a b : ℕ) → b ≤ a → nat_lt a b ≡ false
        not-lt a b l = grind arith

    go : (b : Bool) → is_held k ≡ b → map given (filter (is_below r h) (cond b (one ∷ []) [])) ≡ []
    go false e = refl
    go true e = ap (λ (b : Bool). map given (cond b (one ∷ []) [])) (below (is_challenged (mode r k.channel h)) refl (low e))

some-states : (r : Rules) (f : FixedParts) (w : Marked) → is_supported r f w ≡ true → nat_lt 0 (length w.states) ≡ true
some-states r f w supp = at (length w.states) (parts r f w supp).some
  where
    at : (n : ℕ) → 1 ≤ n → nat_lt 0 n ≡ true
    at n l = grind arith

-- ---- one entry

module _ (r : Rules) (key : List ℕ) (h later past : List Entry) (e : Entry) (front : List Told) (split : h ≡ later ++ e ∷ past) (legal : Legal r h) (few : AreFew past) where
  abbrev m : Mind
  m = mind_at r key past front

  legal-here : Legal r (e ∷ past)
  legal-here = legal-suffix r later (e ∷ past) (subst (Legal r) split legal)

  -- what is held of a channel that is kept is supported
  held-supported : (g : FixedParts) (k : Kept) → kept_of (r.named g) m.kept ≡ Some k → is_held k ≡ true → is_supported r k.chain.fixed (marked_of k.chain) ≡ true
  held-supported g k is full =
      go (kept_of (r.named k.chain.fixed) m.kept) (held r k.chain.fixed past (lines_of key front)) kept-is refl (known r key k.chain.fixed past front legal-here.0 few).agree
    where
      named-so : r.named k.chain.fixed ≡ r.named g
      named-so = of (kept_of (r.named g) m.kept) (held r g past (lines_of key front)) is (known r key g past front legal-here.0 few).agree
        where
          of : (o : Option Kept) (w : Option Marked) → o ≡ Some k → Agree r key g (lines_of key front) o w → r.named k.chain.fixed ≡ r.named g
          of None w a ag = absurd (none-eq k a)
          of (Some k') None a ag = absurd ag
          of (Some k') (Some w) a ag = subst (λ (z : Kept). r.named z.chain.fixed ≡ r.named g) (some-eq k' k a) (same_bytes (r.named k'.chain.fixed) (r.named g) ag.0.named)

      kept-is : kept_of (r.named k.chain.fixed) m.kept ≡ Some k
      kept-is = subst (λ (n : List ℕ). kept_of n m.kept ≡ Some k) (sym named-so) is

      go : (o : Option Kept) (w : Option Marked) → o ≡ Some k → held r k.chain.fixed past (lines_of key front) ≡ w → Agree r key k.chain.fixed (lines_of key front) o w
          → is_supported r k.chain.fixed (marked_of k.chain) ≡ true
      go None w a b ag = absurd (none-eq k a)
      go (Some k') None a b ag = absurd ag
      go (Some k') (Some w) a b ag = which good
        where
          same : k' ≡ k
          same = some-eq k' k a

          chain : marked_of k.chain ≡ w
          chain = (subst (λ (z : Kept). z.chain.fixed ≡ k.chain.fixed → marked_of z.chain ≡ w) same ag.1) refl

          own : IsOwn r key (r.named k.chain.fixed) (lines_of key front) k
          own = subst (IsOwn r key (r.named k.chain.fixed) (lines_of key front)) same ag.0

          some : 1 ≤ people k.chain.fixed
          some = let i : k.me < length k.chain.fixed.keys = get-within k.chain.fixed.keys k.me key own.mine in omega arith

          good : IsGood r k.chain.fixed (marked_of k.chain)
          good = subst (IsGood r k.chain.fixed) (sym chain) (subst (IsGoodIfAny r k.chain.fixed) b (held-good r k.chain.fixed some past (lines_of key front)))

          which : IsGood r k.chain.fixed (marked_of k.chain) → is_supported r k.chain.fixed (marked_of k.chain) ≡ true
          which (inr supp) = supp
          which (inl y) =
              let few : length k.chain.states < people k.chain.fixed = y.few in
              let marks : length k.chain.marks ≡ length k.chain.states = y.marks in
              let all : people k.chain.fixed ≤ length k.chain.marks = le-true (people k.chain.fixed) (length k.chain.marks) full in
              absurd (omega arith)

  adopting-adds-nothing : (g : FixedParts) (k : Kept) (w : Marked) → kept_of (r.named g) m.kept ≡ Some k → w ≡ shown r (r.named g) past e → stale r h (adopting r w k) ≡ stale r h k
  adopting-adds-nothing g k w is shows = go (is_newer r k.chain.fixed w (marked_of k.chain)) refl
    where
      name : k.channel ≡ r.named g
      name = same_bytes k.channel (r.named g) (found_passes (is_of (r.named g)) m.kept k (sym (named (r.named g) m.kept) ∙ is))

      go : (b : Bool) → is_newer r k.chain.fixed w (marked_of k.chain) ≡ b → stale r h (with_chain (cond b w (marked_of k.chain)) k) ≡ stale r h k
      go false t = refl
      go true t = adds-nothing r h (with_chain w k) (λ full open_at. low open_at) ∙ sym (adds-nothing r h k old)
        where
          supp : is_supported r k.chain.fixed w ≡ true
          supp = and-left (is_supported r k.chain.fixed w) (not (is_supported r k.chain.fixed (marked_of k.chain)) || nat_lt (top_turn k.chain.states) (top_turn w.states)) t

          low : is_challenged (mode r k.channel h) ≡ true → top_turn w.states ≤ (row r k.channel h).turn
          low open_at =
              subst (λ (n : List ℕ). top_turn w.states ≤ (row r n h).turn) (sym name)
              (subst (λ (z : Marked). top_turn z.states ≤ (row r (r.named g) h).turn) (sym shows)
              (shown-low r (r.named g) h later past e split legal (subst (λ (z : Marked). nat_lt 0 (length z.states) ≡ true) shows (some-states r k.chain.fixed w supp))
              (subst (λ (n : List ℕ). is_challenged (mode r n h) ≡ true) name open_at)))

          old : is_held k ≡ true → is_challenged (mode r k.channel h) ≡ true → top_turn k.chain.states ≤ (row r k.channel h).turn
          old full open_at =
              let up : top_turn w.states ≤ (row r k.channel h).turn = low open_at in
              let less : top_turn k.chain.states < top_turn w.states =
              lt-true (top_turn k.chain.states) (top_turn w.states) (or-right (not (is_supported r k.chain.fixed (marked_of k.chain))) (nat_lt (top_turn k.chain.states) (top_turn w.states))
              (and-right (is_supported r k.chain.fixed w) (not (is_supported r k.chain.fixed (marked_of k.chain)) || nat_lt (top_turn k.chain.states) (top_turn w.states)) t)
              (ap not (held-supported g k is full))) in
              omega arith

  -- an entry that the node hasn't followed
  saw-adds-nothing : flat_map (stale r h) (saw r e m).kept ≡ flat_map (stale r h) m.kept
  saw-adds-nothing = accepted (is_accepted e.reply) refl (fixed_of e.op) refl
    where
      accepted : (b : Bool) → is_accepted e.reply ≡ b → (o : Option FixedParts) → fixed_of e.op ≡ o
          → flat_map (stale r h) (cond b (kept_seeing r m.view e.op o m.kept) m.kept) ≡ flat_map (stale r h) m.kept
      accepted false is o names = refl
      accepted true is None names = refl
      accepted true is (Some g) names = at (kept_of (r.named g) m.kept) refl
        where
          tells : Marked
          tells = shown_by e.op (view_of m.view.channels (r.named g)).shown

          shows : tells ≡ shown r (r.named g) past e
          shows =
              told-shown r past e m.view e.op g legal-here (known r key g past front legal-here.0 few).view is refl names
              ∙ sym (ap (λ (b : Bool). cond b (showing.shown_by r (r.named g) past e.op) nothing) turns)
            where
              turns : turning r (r.named g) e ≡ true
              turns = ap (λ (b : Bool). b && is_named r (r.named g) (fixed_of e.op)) is ∙ ap (is_named r (r.named g)) names ∙ bytes_eq_self (r.named g)

          at : (o : Option Kept) → kept_of (r.named g) m.kept ≡ o → flat_map (stale r h) (kept_at (adopting r tells) m.kept (place_of (r.named g) m.kept) o) ≡ flat_map (stale r h) m.kept
          at None found = refl
          at (Some k) found = flat_map-set (stale r h) m.kept (place_of (r.named g) m.kept) k (adopting r tells k) found (adopting-adds-nothing g k tells found shows)

-- entries that the node hasn't followed
over-mid : (r : Rules) (key : List ℕ) (h later mid past : List Entry) (front : List Told) → h ≡ later ++ (mid ++ past) → Legal r h → AreFew (mid ++ past)
    → ((y : Told) → In y front → is_watched y.deed ≡ false → y.seen ≤ length past)
    → flat_map (stale r h) (mind_at r key (mid ++ past) front).kept ≡ flat_map (stale r h) (mind_at r key past front).kept
over-mid r key h later [] past front split legal few before = refl
over-mid r key h later (e ∷ mid) past front split legal few before =
    ap (λ (x : Mind). flat_map (stale r h) x.kept) (mind-entry r key (mid ++ past) e front (λ y i w. (let a : y.seen ≤ length past = before y i w in let b : length past ≤ length (mid ++ past) = length-up mid past in omega arith)))
    ∙ saw-adds-nothing r key h later (mid ++ past) e front split legal few.1
    ∙ over-mid r key h (later ++ e ∷ []) mid past front (split ∙ append_assoc' later (e ∷ []) (mid ++ past)) legal few.1 before

-- a look at the end of the entries, by what a node keeps that followed only the past
pub looks-stay : (r : Rules) (key : List ℕ) (mid past : List Entry) (front : List Told) → Legal r (mid ++ past) → AreFew (mid ++ past)
    → ((y : Told) → In y front → is_watched y.deed ≡ false → y.seen ≤ length past)
    → looks r (mid ++ past) (flat_map held_chain (mind_at r key past front).kept) ≡ looks r (mid ++ past) (flat_map held_chain (mind_at r key (mid ++ past) front).kept)
looks-stay r key mid past front legal few before =
    looks-kept r (mid ++ past) (mind_at r key past front).kept
    ∙ sym (over-mid r key (mid ++ past) [] mid past front refl legal few before)
    ∙ sym (looks-kept r (mid ++ past) (mind_at r key (mid ++ past) front).kept)
