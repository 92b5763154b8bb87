-- What steps of a channel keep, and the first states that the participant signs there have, each state has that it
-- signs and the latest one that it holds.
use Rattle.std.proofs.Common.{◌≡◌, ℕ, ◌+◌, ◌<◌, ◌≤◌, Bool, true, false, ◌&&◌, not, List, [], ◌∷◌, ◌++◌, ◌⊎◌, inl, inr, length, refl, sym, ◌∙◌, ap, subst, arith}
use Rattle.std.specs.Prelude.{◌==◌, Option, Some, None, is_none}
use Rattle.std.specs.List.{slice_get, AllByRecursion}
use Rattle.std.specs.Str.{bytes_eq}
use Rattle.channel_values.specs.Parts.{FixedParts, StateParts, IsState}
use Rattle.channel_values.specs.declared.chain.Signed.{Signed}
use Rattle.channel_values.specs.Rows.{mover, last_of}
use Rattle.channel_values.specs.Rules.{people, newest}
use Rattle.channel_values.specs.Supported.{AreSteps}
use Rattle.call_history.proofs.Names.{same_bytes}
use Rattle.call_history.specs.History.{Legal}
use Rattle.call_history.specs.Marked.{marked_of, is_supported, next_after}
use Rattle.call_history.specs.declared.entry.Entry.{Entry}
use Rattle.call_history.specs.declared.event.Deed.{Deed}
use Rattle.call_history.specs.declared.event.Deed.TheVariants as deeds
use Rattle.channel_store.proofs.Good.{held_is}
use Rattle.channel_store.specs.Keeping.{is_held, is_ended, next_of, step_of, step_after}
use Rattle.channel_store.specs.Good.{IsGoodKept}
use Rattle.channel_store.specs.declared.kept.Kept.{Kept}
use Rattle.channel_safety.proofs.Chains.{top_at}
use Rattle.channel_safety.proofs.Lists.{Split, split_of, Suffix, suffix_of, In-append_right, In-append_cases, append_assoc'}
use Rattle.channel_safety.proofs.Tests.{some-eq, none-eq, and-left, and-right, eqb-true, is-none, clash}
use Rattle.channel_safety.proofs.Rowing.{legal-suffix}
use Rattle.channel_safety.specs.Good.{InTurn}
use Rattle.channel_safety.specs.Journals.{In, Line, is_watched, some_if, made_in}
use Rattle.channel_safety.specs.Occurring.{OccursFixed}
use Rattle.channel_safety.specs.Strings.{signed_of}
use Rattle.node_guarantees.proofs.RealHeld.{states_end}
use Rattle.channel_node.proofs.Bridging.{lines-append, In-lines, plays-at}
use Rattle.channel_node.proofs.Once.{played_journals_are_honest}
use Rattle.channel_node.specs.Minds.{Mind, facts_of}
use Rattle.channel_node.specs.Places.{Told, line_of, lines_of, mind_at, AreFew}
use Rattle.channel_node.specs.Playing as playing
use Rattle.channel_node.specs.Playing.{Signing, PlaysEvent, Plays, pending, Allowed}
use Rattle.channel_node.specs.Refusing.{is_open, stands_in, follows}
use Rattle.node_guarantees.proofs.Growing.{Grows}
use Rattle.node_guarantees.proofs.Placing.{grows-at}
use Rattle.node_guarantees.proofs.Telling.{all-kept}
use Rattle.stage_tables.specs.Stages.{stages}
use Rattle.share_laws.proofs.Finality.{opened-there}
use Rattle.fairness_laws.proofs.Closing.{rest-plays}
use Rattle.fairness_laws.specs.PlanSettings.{IsFair}
use Rattle.fairness_laws.proofs.Seat.Sitting.{last-state}
use Rattle.fairness_laws.specs.SeatSitting.{HeldEnds}
use Rattle.share_laws.proofs.Fronts.{last-line}
use Rattle.share_laws.specs.Places.{channels, IsPlace}
use Rattle.support_rules.specs.Real.{real}
use Rattle.node_guarantees.specs.ViewLaws.{IsKeptAt, AreKeptAt}
use Rattle.fairness_laws.proofs.Payment.Kept.{KeptAs, kept-as, SignsOf, signs-of}

pub made-deed : (c : List ℕ) (d : Deed) (n : Signed) → made_in c d ≡ Some n → d ≡ deeds.Signed c n.state n.signature
made-deed c (deeds.Signed name state signature) n e = go (bytes_eq name c) refl e
  where
    go : (b : Bool) → bytes_eq name c ≡ b → some_if b (record { state = state; signature = signature }) ≡ Some n → deeds.Signed name state signature ≡ deeds.Signed c n.state n.signature
    go true same e =
        ap (λ (x : List ℕ). deeds.Signed x state signature) (same_bytes name c same)
        ∙ ap (λ (x : Signed). deeds.Signed c x.state x.signature) (some-eq (record { state = state; signature = signature }) n e)
    go false same e = absurd (none-eq n e)
made-deed c (deeds.Handled bytes refusal) n e = absurd (none-eq n e)
made-deed c (deeds.Commanded step refusal) n e = absurd (none-eq n e)
made-deed c (deeds.SignedChallenge channel state who signature) n e = absurd (none-eq n e)
made-deed c (deeds.Called call) n e = absurd (none-eq n e)
made-deed c (deeds.Watched watcher calls) n e = absurd (none-eq n e)

-- of a young chain a turn of the first round comes next
pub young-next : (k : Kept) → IsGoodKept real k → is_held k ≡ false → next_of k < people k.chain.fixed
young-next k good none = go good
  where
    states : (xs : List StateParts) → length xs < people k.chain.fixed → ((t : StateParts) → slice_get xs 0 ≡ Some t → t.turn ≡ 0) → InTurn xs → next_after (newest xs) < people k.chain.fixed
    states [] few first turns = omega (arith, few)
    states (t ∷ xs) few first turns =
        let a : (last_of t xs).turn ≡ t.turn + length xs = top_at t xs turns in
        let b : t.turn ≡ 0 = first t refl in
        omega (arith, few, a, b)

    go : IsGoodKept real k → next_of k < people k.chain.fixed
    go (inl y) = states k.chain.states y.few y.first y.turns
    go (inr chain) = absurd (clash (is_held k) (held_is real k good ∙ chain) none)

module _ (s : Signing) (h : List Entry) (journal : List Told) (fair : IsFair s h journal) (f : FixedParts) where
  abbrev lines : List Line
  lines = lines_of s.key journal

  pub held-ends : (past : List Entry) (front : List Line) → IsPlace h lines past front → In f (channels front) → (k : Kept) → IsKeptAt real past front f k → is_held k ≡ true
      → HeldEnds s.key front f (marked_of k.chain)
  held-ends past front place i k kept e =
      let r = states_end s.key h lines fair.nodes.legal (played_journals_are_honest stages real s h journal fair.nodes.signs fair.nodes.legal fair.nodes.plays) fair.unforged fair.apart fair.nodes.valid
      past front place f i (marked_of k.chain) kept.chain
      (ap (λ (g : FixedParts). is_supported real g (marked_of k.chain)) (sym kept.fixed) ∙ (sym (held_is real k kept.good) ∙ e)) in
      record { last = r.0; is = r.1; ends = r.2 }

  -- what was opened before a place occurs in the journal
  occurs : (newer front : List Told) → journal ≡ newer ++ front → (g : FixedParts) → In g (channels (lines_of s.key front)) → OccursFixed h lines g
  occurs newer front e g i =
      let o = opened-there (lines_of s.key front) g i in
      inr (o.0, subst (In o.0) (sym (ap (lines_of s.key) e ∙ lines-append s.key newer front)) (In-append_right o.0 (lines_of s.key newer) (lines_of s.key front) o.1), o.2)

  module _ (opened : OccursFixed h lines f) (P : StateParts → Type 0)
      (step : (a b : StateParts) → IsState a → IsState b → real.step f a b ≡ None → P a → P b)
      (first : (x : Line) (n : Signed) → In x lines → made_in (real.named f) x.deed ≡ Some n → n.state.turn < people f → P n.state) where
    along : (a : StateParts) (rest : List StateParts) → IsState a → AllByRecursion IsState rest → AreSteps real f a rest → P a → P (last_of a rest)
    along a [] va vr steps p = p
    along a (b ∷ rest) va vr steps p = along b rest vr.0 vr.1 steps.1 (step a b va vr.0 steps.0 p)

    -- what is held ends so
    pub held-has : (past : List Entry) (front : List Line) → IsPlace h lines past front → In f (channels front) → (k : Kept) → IsKeptAt real past front f k → is_held k ≡ true
        → ((x : Line) (n : Signed) → In x front → made_in (real.named f) x.deed ≡ Some n → P n.state) → (t : StateParts) → newest k.chain.states ≡ Some t → IsState t × P t
    held-has past front place i k kept e made t is =
        let x = held-ends past front place i k kept e in
        let l = last-line (real.named f) front x.last x.is in
        let same : last_of x.last.state x.ends.rest ≡ t = some-eq (last_of x.last.state x.ends.rest) t (sym x.ends.ends ∙ is) in (
          subst IsState same (last-state x.last.state x.ends.rest x.ends.valid x.ends.states),
          subst P same (along x.last.state x.ends.rest x.ends.valid x.ends.states x.ends.steps (made l.0 x.last l.1 l.2)),
        )

    module _ (newer : List Told) (y : Told) (front : List Told) (e : journal ≡ newer ++ y ∷ front) (n : Signed) (made : made_in (real.named f) y.deed ≡ Some n)
        (before : (x : Line) (m : Signed) → In x (lines_of s.key front) → made_in (real.named f) x.deed ≡ Some m → P m.state) where
      deed : y.deed ≡ deeds.Signed (real.named f) n.state n.signature
      deed = made-deed (real.named f) y.deed n made

      unwatched : is_watched y.deed ≡ false
      unwatched = ap is_watched deed

      event : PlaysEvent stages real s h y front
      event = plays-at stages real s h newer y front (subst (Plays stages real s h) e fair.nodes.plays)

      in-lines : In (line_of s.key y) lines
      in-lines =
          subst (In (line_of s.key y)) (sym (ap (lines_of s.key) e ∙ lines-append s.key newer (y ∷ front))) (In-append_right (line_of s.key y) (lines_of s.key newer) (lines_of s.key (y ∷ front)) (inl refl))

      valid : IsState n.state
      valid = (fair.nodes.valid.signed (line_of s.key y) (real.named f) n.state in-lines (ap signed_of deed)).1

      module _ (later past : List Entry) (entries : h ≡ later ++ past) (len : length past ≡ y.seen) where
        abbrev m : Mind
        m = mind_at real s.key past front

        allowed : AreFew past × Allowed stages real s past m (playing.signings front) (pending front) y.deed y.command
        allowed = event.place later past entries len

        so : SignsOf (pending front) m (real.named f) n.state
        so =
            signs-of (pending front) m (real.named f) n.state
            (subst (λ (d : Deed). Allowed stages real s past m (playing.signings front) (pending front) d y.command) deed allowed.1).0

        grown : Grows real s.key front m
        grown =
            grows-at stages real s h front (rest-plays s h newer (y ∷ front) (subst (Plays stages real s h) e fair.nodes.plays)).1 past later entries
            (λ z i w. (let up : z.seen ≤ y.seen = event.rising z i w in omega (arith, up, len)))

        legal : Legal real past
        legal = legal-suffix real later past (subst (Legal real) entries fair.nodes.legal)

        kept-all : AreKeptAt real past (lines_of s.key front) (channels (lines_of s.key front)) m.kept
        kept-all = all-kept real s.key past front legal allowed.0 grown

        ka : KeptAs past (lines_of s.key front) (real.named f) so.k
        ka = kept-as past (lines_of s.key front) (real.named f) m.kept so.k kept-all so.found

        same : ka.fixed ≡ f
        same = fair.nodes.distinct.names ka.fixed f (occurs (newer ++ y ∷ []) front (e ∙ append_assoc' newer (y ∷ []) front) ka.fixed ka.there) opened ka.named

        kept : IsKeptAt real past (lines_of s.key front) f so.k
        kept = subst (λ (g : FixedParts). IsKeptAt real past (lines_of s.key front) g so.k) same ka.at

        there : In f (channels (lines_of s.key front))
        there = subst (λ (g : FixedParts). In g (channels (lines_of s.key front))) same ka.there

        place : IsPlace h lines past (lines_of s.key front)
        place = record {
          later = later;
          newer = lines_of s.key (newer ++ y ∷ []);
          entries = entries;
          lines = ap (lines_of s.key) (e ∙ append_assoc' newer (y ∷ []) front) ∙ lines-append s.key (newer ++ y ∷ []) front;
          before = λ x i w. low x (In-lines s.key x front i) w;
          after = λ x i w. high x (In-lines s.key x (newer ++ y ∷ []) i) w;
        }
          where
            low : (x : Line) → (z : Told) × (In z front) × (x ≡ line_of s.key z) → is_watched x.deed ≡ false → x.seen ≤ length past
            low x z w =
                let up : z.0.seen ≤ y.seen = event.rising z.0 z.1 (subst (λ (l : Line). is_watched l.deed ≡ false) z.2 w) in
                let is : x.seen ≡ z.0.seen = ap (λ (l : Line). l.seen) z.2 in
                omega (arith, up, is, len)

            rises : (z : Told) → In z newer ⊎ In z (y ∷ []) → is_watched z.deed ≡ false → y.seen ≤ z.seen
            rises z (inr (inl q)) w = let is : z.seen ≡ y.seen = ap (λ (x : Told). x.seen) q in omega (arith, is)
            rises z (inr (inr q)) w = absurd q
            rises z (inl i) w = over (split_of z newer i)
              where
                over : Split z newer → y.seen ≤ z.seen
                over x =
                    (plays-at stages real s h x.newer z (x.front ++ y ∷ front)
                    (subst (Plays stages real s h) (e ∙ (ap (λ (ts : List Told). ts ++ y ∷ front) x.is ∙ sym (append_assoc' x.newer (z ∷ x.front) (y ∷ front)))) fair.nodes.plays)).rising y
                    (In-append_right y x.front (y ∷ front) (inl refl)) unwatched

            high : (x : Line) → (z : Told) × (In z (newer ++ y ∷ [])) × (x ≡ line_of s.key z) → is_watched x.deed ≡ false → length past ≤ x.seen
            high x z w =
                let up : y.seen ≤ z.0.seen = rises z.0 (In-append_cases z.0 newer (y ∷ []) z.1) (subst (λ (l : Line). is_watched l.deed ≡ false) z.2 w) in
                let is : x.seen ≡ z.0.seen = ap (λ (l : Line). l.seen) z.2 in
                omega (arith, up, is, len)

        next : n.state.turn ≡ next_of so.k
        next =
            eqb-true n.state.turn (next_of so.k)
            (and-left (n.state.turn == next_of so.k) (mover (people so.k.chain.fixed) n.state.turn == so.k.me)
            (and-left ((n.state.turn == next_of so.k) && (mover (people so.k.chain.fixed) n.state.turn == so.k.me)) (is_open (stands_in (facts_of m) (real.named f)))
            (and-right (follows real so.k n.state) (((n.state.turn == next_of so.k) && (mover (people so.k.chain.fixed) n.state.turn == so.k.me)) && is_open (stands_in (facts_of m) (real.named f))) so.can)))

        no-fault : step_of real so.k n.state ≡ None
        no-fault =
            is-none (step_of real so.k n.state)
            (and-right (not (is_ended so.k)) (is_none (step_of real so.k n.state))
            (and-left (follows real so.k n.state) (((n.state.turn == next_of so.k) && (mover (people so.k.chain.fixed) n.state.turn == so.k.me)) && is_open (stands_in (facts_of m) (real.named f))) so.can))

        from-top : (e : is_held so.k ≡ true) (o : Option StateParts) → newest so.k.chain.states ≡ o → step_after real so.k n.state o ≡ None → P n.state
        from-top e None is step-is =
            let x = held-ends past (lines_of s.key front) place there so.k kept e in
            absurd (none-eq (last_of x.last.state x.ends.rest) (sym is ∙ x.ends.ends))
        from-top e (Some t) is step-is =
            let x = held-has past (lines_of s.key front) place there so.k kept e before t is in
            step t n.state x.0 valid (subst (λ (g : FixedParts). real.step g t n.state ≡ None) kept.fixed step-is) x.1

        one-made : P n.state
        one-made = go (is_held so.k) refl
          where
            go : (b : Bool) → is_held so.k ≡ b → P n.state
            go true e = from-top e (newest so.k.chain.states) refl no-fault
            go false e =
                first (line_of s.key y) n in-lines made
                (let low : next_of so.k < people so.k.chain.fixed = young-next so.k kept.good e in
                let same : people so.k.chain.fixed ≡ people f = ap people kept.fixed in
                omega (arith, low, same, next))

      made-here : P n.state
      made-here = go (suffix_of h y.seen event.within)
        where
          go : Suffix h y.seen → P n.state
          go x = one-made x.later x.past x.is x.len

    pub all-made : (newer front : List Told) → journal ≡ newer ++ front → (x : Line) (n : Signed) → In x (lines_of s.key front) → made_in (real.named f) x.deed ≡ Some n → P n.state
    all-made newer [] e x n i made = absurd i
    all-made newer (y ∷ front) e x n (inr i) made = all-made (newer ++ y ∷ []) front (e ∙ append_assoc' newer (y ∷ []) front) x n i made
    all-made newer (y ∷ front) e x n (inl q) made =
        made-here newer y front e n (subst (λ (l : Line). made_in (real.named f) l.deed ≡ Some n) q made) (all-made (newer ++ y ∷ []) front (e ∙ append_assoc' newer (y ∷ []) front))
