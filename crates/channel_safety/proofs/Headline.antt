-- An outcome becomes final by a conclude or as a challenge runs out, and in neither case is it older than what was
-- noted and shown.
use Rattle.std.proofs.Common.{◌≡◌, ℕ, ◌+◌, ◌%◌, ◌<◌, ◌≤◌, Bool, true, false, List, [], ◌∷◌, ◌++◌, ◌⊎◌, inl, inr, length, refl, sym, ◌∙◌, ap, subst, arith}
use Rattle.std.specs.Prelude.{nat_le, Option, Some, None}
use Rattle.channel_values.specs.Parts.{FixedParts, StateParts}
use Rattle.channel_values.specs.declared.chain.Chain.{Chain}
use Rattle.channel_values.specs.declared.chain.Signed.{Signed}
use Rattle.channel_values.specs.declared.value.AssetOutcome.{AssetOutcome}
use Rattle.call_history.specs.Mode.{mode_at, is_final}
use Rattle.call_history.specs.declared.standing.Standing.TheVariants.{Challenged, Final}
use Rattle.channel_values.specs.Rules.{Rules, people, outcome_or_none, top_turn, top_outcome, KeepsFinal}
use Rattle.call_history.specs.Rows.{fixed_of, turned}
use Rattle.call_history.specs.History.{is_accepted, time_set, now_of, is_named, turning, row, mode, Legal, settles, settled}
use Rattle.call_history.specs.Marked.{Marked, nothing, marked_of, chain_of, is_supported}
use Rattle.call_history.specs.Shown.{shown_by, shown}
use Rattle.call_history.specs.Calls.{make_challenge}
use Rattle.call_history.specs.declared.call.Call.TheVariants.{Checkpoint, Conclude}
use Rattle.call_history.specs.declared.call.Op.{Op}
use Rattle.call_history.specs.declared.call.Op.TheVariants as ops
use Rattle.call_history.specs.declared.row.Row.{Row}
use Rattle.call_history.specs.declared.entry.Entry.{Entry}
use Rattle.call_history.proofs.Names.{same_bytes, bytes_eq_self}
use Rattle.channel_safety.specs.Journals.{In, Line, made_in, noted_in, opens, is_watched}
use Rattle.channel_safety.specs.Held.{note, show, held}
use Rattle.channel_safety.specs.Premises.{Unforged, RunsOut, Looked, InTime}
use Rattle.channel_safety.specs.Occurring.{NoCollision, AreValid}
use Rattle.channel_safety.specs.Honest.{HonestLine, HonestIn, Honest}
use Rattle.channel_safety.specs.Safety.{IsChannelOf, IsNotOlder, SettlesWell, IsSafe}
use Rattle.channel_safety.proofs.Tests.{cond-false, cond-true, clash, le_or_lt, false-le, and-left, and-right, and-both, some-eq}
use Rattle.channel_safety.proofs.Lists.{Split, split_of, In-append_left, In-append_right, In-append_cases, Suffix, suffix_of, append_assoc', length-up, get-within, one-place}
use Rattle.channel_safety.proofs.Replies.{taken, given, conclude_ok, challenge_ok, checkpoint_taken}
use Rattle.channel_safety.proofs.Chains.{AllFinal, OwnState, own_state, IsClosed}
use Rattle.channel_safety.proofs.Rowing.{row-quiet, settled-quiet, now-rises, legal-suffix, time-below}
use Rattle.channel_safety.proofs.Places.{made-not_watched, made-noted, inert, over-entries, over-lines, held-at, held-drop, held-quiet, held-watched}
use Rattle.channel_safety.proofs.Final.{Concluded, Expired, Running, becomes_final, running}
use Rattle.channel_safety.proofs.Keeps.{HoldsNewer}
use Rattle.channel_safety.proofs.Safe.{Setting, MadeLine, honest-at, honest-suffix, rises, own_line, made-mover, noted-held, shown-held, closed-held, AllClosed, all_closed, noted_closed, chain_closed, valid-shown}

top-closed : (states : List StateParts) (outcome : List AssetOutcome) → IsClosed states outcome → top_outcome states ≡ outcome
top-closed states outcome c = ap outcome_or_none c.is ∙ c.same

trans-le : (a b c : ℕ) → a ≤ b → b ≤ c → a ≤ c
trans-le a b c p q = omega arith

still-challenged : (d : Option ℕ) (x now : ℕ) → d ≡ Some x → now < x → mode_at d now ≡ Challenged
still-challenged d x now e less = ap (λ (o : Option ℕ). mode_at o now) e ∙ cond-false (nat_le x now) Final Challenged (false-le x now less)

module _ (r : Rules) (key : List ℕ) (F : FixedParts) (h : List Entry) (journal : List Line) (on : Setting r key F h journal) where
  -- the fixed part of a turning call is the channel's
  pub fixed-is : (later past : List Entry) (e : Entry) (G : FixedParts) (op : Op) → h ≡ later ++ e ∷ past → turning r (r.named F) e ≡ true → e.op ≡ op → fixed_of op ≡ Some G → G ≡ F
  fixed-is later past e G op is turns same fixed =
      on.distinct.names G F
      (inl (e, subst (In e) (sym is) (In-append_right e later (e ∷ past) (inl refl)), has))
      on.occurs
      (same_bytes (r.named G) (r.named F) (subst (λ (x : Option FixedParts). is_named r (r.named F) x ≡ true) has (and-right (is_accepted e.reply) (is_named r (r.named F) (fixed_of e.op)) turns)))
    where
      has : fixed_of e.op ≡ Some G
      has = subst (λ (x : Op). fixed_of x ≡ Some G) (sym same) fixed

  newest-noted : (later past : List Entry) (least : ℕ) → h ≡ later ++ past → (n : HoldsNewer r F least (held r F past journal))
      → (x : Line) (s : Signed) → In x journal → x.seen ≤ length past → noted_in (r.named F) x.deed ≡ Some s → people F ≤ s.state.turn + 1 → s.state.turn ≤ top_turn n.latest.states
  newest-noted later past least is n x s i early noted high = below (noted-held r key F h journal on.honest later past is x s i early noted high)
    where
      below : HoldsNewer r F s.state.turn (held r F past journal) → s.state.turn ≤ top_turn n.latest.states
      below q = subst (λ (w : Marked). s.state.turn ≤ top_turn w.states) (some-eq q.latest n.latest (sym q.is ∙ n.is)) q.up

  newest-shown : (later past : List Entry) (least : ℕ) → h ≡ later ++ past → (n : HoldsNewer r F least (held r F past journal))
      → (l older : List Entry) (k : Entry) → past ≡ l ++ k ∷ older → is_supported r F (shown r (r.named F) older k) ≡ true → top_turn (shown r (r.named F) older k).states ≤ top_turn n.latest.states
  newest-shown later past least is n l older k split chain = below (shown-held r key F h journal on later past is l older k split chain)
    where
      below : HoldsNewer r F (top_turn (shown r (r.named F) older k).states) (held r F past journal) → top_turn (shown r (r.named F) older k).states ≤ top_turn n.latest.states
      below q = subst (λ (w : Marked). top_turn (shown r (r.named F) older k).states ≤ top_turn w.states) (some-eq q.latest n.latest (sym q.is ∙ n.is)) q.up

  concluded-safe : (later past : List Entry) (e : Entry) → h ≡ later ++ e ∷ past → Concluded r (r.named F) e → SettlesWell r F e past journal
  concluded-safe later past e is c =
      record {
        outcome = top_outcome c.chain.states;
        is =
            cond-true (turning r (r.named F) e) (settles e.op (settled r (r.named F) past)) (settled r (r.named F) past) c.turns
            ∙ ap (λ (x : Op). settles x (settled r (r.named F) past)) c.op;
        recorded =
            ap (λ (x : Row). x.outcome_digest) (cond-true (turning r (r.named F) e) (turned r (now_of past) e.op (row r (r.named F) past)) (row r (r.named F) past) c.turns)
            ∙ ap (λ (x : Op). (turned r (now_of past) x (row r (r.named F) past)).outcome_digest) c.op;
        not_older = go (own_state r on.keeps F on.me (shown r (r.named F) past e) on.small (valid-shown r (r.named F) h journal on.valid later past e is) (subst (λ (w : Marked). is_supported r F w ≡ true) (sym shows) chain));
      }
    where
      legal : Legal r (e ∷ past)
      legal = legal-suffix r later (e ∷ past) (subst (Legal r) is on.legal)

      ok : (is_supported r c.chain.fixed (marked_of c.chain) ≡ true) × AllFinal c.chain.states
      ok = conclude_ok r past c.chain (taken r past e (Conclude c.chain) legal c.op (and-left (is_accepted e.reply) (is_named r (r.named F) (fixed_of e.op)) c.turns))

      fixed : c.chain.fixed ≡ F
      fixed = fixed-is later past e c.chain.fixed (ops.Call (Conclude c.chain)) is c.turns c.op refl

      chain : is_supported r F (marked_of c.chain) ≡ true
      chain = subst (λ (G : FixedParts). is_supported r G (marked_of c.chain) ≡ true) fixed ok.0

      shows : shown r (r.named F) past e ≡ marked_of c.chain
      shows = cond-true (turning r (r.named F) e) (shown_by r (r.named F) past e.op) nothing c.turns ∙ ap (shown_by r (r.named F) past) c.op

      go : OwnState r F on.me (shown r (r.named F) past e) → IsNotOlder r F past journal (row r (r.named F) (e ∷ past)).turn (top_outcome c.chain.states)
      go own = with_line (own_line r key F h journal on later past e is own)
        where
          finals : AllFinal (shown r (r.named F) past e).states
          finals = subst (λ (w : Marked). AllFinal w.states) (sym shows) ok.1

          final : own.signed.state.is_final ≡ true
          final = own.final finals

          late : people F ≤ own.signed.state.turn + 1
          late = own.late finals

          same_outcome : own.signed.state.outcome ≡ top_outcome c.chain.states
          same_outcome = sym (top-closed (shown r (r.named F) past e).states own.signed.state.outcome (own.carries final)) ∙ ap (λ (w : Marked). top_outcome w.states) shows

          with_line : MadeLine r F journal (length past) own.signed.state → IsNotOlder r F past journal (row r (r.named F) (e ∷ past)).turn (top_outcome c.chain.states)
          with_line m =
              let hc = closed-held r key F h journal on (later ++ e ∷ []) past (is ∙ append_assoc' later (e ∷ []) past) m.line m.signed m.there m.early m.made high f in
              record {
                latest = hc.holds.latest;
                is = hc.holds.is;
                chain = hc.holds.chain;
                noted = newest-noted (later ++ e ∷ []) past m.signed.state.turn (is ∙ append_assoc' later (e ∷ []) past) hc.holds;
                shown_before = newest-shown (later ++ e ∷ []) past m.signed.state.turn (is ∙ append_assoc' later (e ∷ []) past) hc.holds;
                held_settled = inr (top-closed hc.holds.latest.states m.signed.state.outcome hc.closed ∙ made-outcome);
                noted_settled = λ x s i early noted high. noted-case (split_of m.line journal m.there) x s i noted (le_or_lt s.state.turn (row r (r.named F) (e ∷ past)).turn);
                shown_settled = λ l older k split sup. shown-case (split_of m.line journal m.there) l older k split sup (le_or_lt (top_turn (shown r (r.named F) older k).states) (row r (r.named F) (e ∷ past)).turn);
              }
            where
              f : m.signed.state.is_final ≡ true
              f = subst (λ (x : StateParts). x.is_final ≡ true) m.same final

              high : people F ≤ m.signed.state.turn + 1
              high = subst (λ (x : StateParts). people F ≤ x.turn + 1) m.same late

              made-outcome : m.signed.state.outcome ≡ top_outcome c.chain.states
              made-outcome = sym (ap (λ (x : StateParts). x.outcome) m.same) ∙ same_outcome

              row-turn : (row r (r.named F) (e ∷ past)).turn ≡ top_turn c.chain.states
              row-turn =
                  ap (λ (x : Row). x.turn) (cond-true (turning r (r.named F) e) (turned r (now_of past) e.op (row r (r.named F) past)) (row r (r.named F) past) c.turns)
                  ∙ ap (λ (x : Op). (turned r (now_of past) x (row r (r.named F) past)).turn) c.op

              no-later : m.signed.state.turn ≤ (row r (r.named F) (e ∷ past)).turn
              no-later =
                  let a : own.signed.state.turn ≤ top_turn c.chain.states = subst (λ (w : Marked). own.signed.state.turn ≤ top_turn w.states) shows own.high in
                  let b : own.signed.state.turn ≡ m.signed.state.turn = ap (λ (x : StateParts). x.turn) m.same in
                  omega (arith, row-turn)

              mover : m.signed.state.turn % people F ≡ on.me
              mover = subst (λ (x : StateParts). x.turn % people F ≡ on.me) m.same (made-mover r key F h journal on (later ++ e ∷ []) past (is ∙ append_assoc' later (e ∷ []) past) own.signed.state m)

              noted-case : Split m.line journal → (x : Line) (s : Signed) → In x journal → noted_in (r.named F) x.deed ≡ Some s
                  → (s.state.turn ≤ (row r (r.named F) (e ∷ past)).turn) ⊎ ((row r (r.named F) (e ∷ past)).turn < s.state.turn)
                  → (s.state.turn ≤ (row r (r.named F) (e ∷ past)).turn) ⊎ (s.state.outcome ≡ top_outcome c.chain.states)
              noted-case sp x s i noted (inl l) = inl l
              noted-case sp x s i noted (inr l) =
                  let lt : m.signed.state.turn < s.state.turn = omega (arith, no-later) in
                  inr ((noted_closed r key F h journal on m.line m.signed m.made high f sp.newer [] sp.front sp.is x s (subst (In x) sp.is i) noted lt).1 ∙ made-outcome)

              shown-case : Split m.line journal → (l older : List Entry) (k : Entry) → past ≡ l ++ k ∷ older → is_supported r F (shown r (r.named F) older k) ≡ true
                  → (top_turn (shown r (r.named F) older k).states ≤ (row r (r.named F) (e ∷ past)).turn) ⊎ ((row r (r.named F) (e ∷ past)).turn < top_turn (shown r (r.named F) older k).states)
                  → (top_turn (shown r (r.named F) older k).states ≤ (row r (r.named F) (e ∷ past)).turn) ⊎ (top_outcome (shown r (r.named F) older k).states ≡ top_outcome c.chain.states)
              shown-case sp l older k split sup (inl g) = inl g
              shown-case sp l older k split sup (inr g) =
                  let up : m.signed.state.turn ≤ top_turn (shown r (r.named F) older k).states = omega (arith, no-later) in
                  let at : h ≡ (later ++ e ∷ l) ++ k ∷ older = is ∙ (ap (λ (z : List Entry). later ++ e ∷ z) split ∙ append_assoc' later (e ∷ l) (k ∷ older)) in
                  inr (top-closed (shown r (r.named F) older k).states m.signed.state.outcome
                  (chain_closed r key F h journal on m.signed.state.turn m.signed.state.outcome journal (later ++ e ∷ l) older k at mover (λ x i w z. i)
                  (subst (AllClosed r F m.signed.state.turn m.signed.state.outcome) (sym sp.is) (all_closed r key F h journal on m.line m.signed m.made high f sp.newer [] sp.front sp.is)) sup up)
                  ∙ made-outcome)

  IsKnown : Option Marked → Type 0
  IsKnown st = (w : Marked) × (st ≡ Some w)

  -- a channel in which the participant signed is not opened again
  not-opened : (a : List Line) (y : Line) (b : List Line) (f : Line) (q : List Line) (s : Signed) → journal ≡ a ++ y ∷ (b ++ f ∷ q) → made_in (r.named F) f.deed ≡ Some s → opens r (r.named F) y ≡ true → ⊥
  unfolding IsKnown
  not-opened a y b f q s is made opening = at_y (suffix_of h y.seen hony.within)
    where
      hon0 : HonestIn r key F h (a ++ y ∷ (b ++ f ∷ q))
      hon0 = subst (HonestIn r key F h) is on.honest

      hony : HonestLine r key F h y (b ++ f ∷ q)
      hony = honest-at r key F h a y (b ++ f ∷ q) hon0

      honj : HonestIn r key F h (b ++ f ∷ q)
      honj = (honest-suffix r key F h a (y ∷ (b ++ f ∷ q)) hon0).1

      honf : HonestLine r key F h f q
      honf = honest-at r key F h b f q honj

      notf : is_watched f.deed ≡ false
      notf = made-not_watched (r.named F) f.deed s made

      f_first : f.seen ≤ y.seen
      f_first = hony.rising f (In-append_right f b (f ∷ q) (inl refl)) notf

      keeps : (x : Line) (st : Option Marked) → IsKnown st → IsKnown (note r F x st)
      keeps x st k = subst (λ (z : Option Marked). IsKnown (note r F x z)) (sym k.1) (_, refl)

      shows : (w : Marked) (st : Option Marked) → IsKnown st → IsKnown (show r F w st)
      shows w st k = subst (λ (z : Option Marked). IsKnown (show r F w z)) (sym k.1) (_, refl)

      at_y : Suffix h y.seen → ⊥
      at_y py = at_f (suffix_of py.past f.seen (subst (λ (n : ℕ). f.seen ≤ n) (sym py.len) f_first))
        where
          at_f : Suffix py.past f.seen → ⊥
          at_f pf =
              let hatf = honf.place (py.later ++ pf.later) pf.past (py.is ∙ (ap (λ (x : List Entry). py.later ++ x) pf.is ∙ append_assoc' py.later pf.later pf.past)) pf.len in
              let k0 : IsKnown (held r F pf.past q) = hatf.in_plan s made in
              let k1 : IsKnown (held r F pf.past (f ∷ q)) = subst IsKnown (sym (held-at r F pf.past f q pf.len)) (keeps f (held r F pf.past q) k0) in
              let k2 : IsKnown (held r F pf.past (b ++ f ∷ q)) =
              over-lines r F IsKnown b pf.past (f ∷ q) (λ x i. keeps x)
              (λ x i w. let u : f.seen ≤ x.seen = rises r key F h b f q honj notf x i in let v : length pf.past ≡ f.seen = pf.len in omega arith) k1 in
              let k3 : IsKnown (held r F (pf.later ++ pf.past) (b ++ f ∷ q)) =
              over-entries r F IsKnown pf.later pf.past (b ++ f ∷ q) (λ x i. keeps x) (λ l1 l2 k st e o. shows (shown r (r.named F) (l2 ++ pf.past) k) st o) k2 in
              let k4 : IsKnown (held r F py.past (b ++ f ∷ q)) = subst (λ (x : List Entry). IsKnown (held r F x (b ++ f ∷ q))) (sym pf.is) k3 in
              let n : held r F py.past (b ++ f ∷ q) ≡ None = (hony.place py.later py.past py.is py.len).opening opening in
              unknown (held r F py.past (b ++ f ∷ q)) k4.0 n k4.1
            where
              unknown : (st : Option Marked) (w : Marked) → st ≡ None → st ≡ Some w → ⊥
              unknown st w n k = cc

  expired-safe : (later past : List Entry) (e : Entry) → InTime r h journal → h ≡ later ++ e ∷ past → Expired r (r.named F) e past → SettlesWell r F e past journal
  expired-safe later past e in_time is x = run (running r (r.named F) past x.deadline legal x.before x.recorded)
    where
      is' : h ≡ (later ++ e ∷ []) ++ past
      is' = is ∙ append_assoc' later (e ∷ []) past

      legal : Legal r past
      legal = legal-suffix r (later ++ e ∷ []) past (subst (Legal r) is' on.legal)

      run : Running r (r.named F) past x.deadline → SettlesWell r F e past journal
      run m =
          record {
            outcome = top_outcome m.chain.states;
            is =
                cond-false (turning r (r.named F) e) (settles e.op (settled r (r.named F) past)) (settled r (r.named F) past) x.quiet
                ∙ (ap (settled r (r.named F)) m.split
                ∙ (settled-quiet r (r.named F) m.mid (m.entry ∷ m.older) m.quiet
                ∙ (cond-true (turning r (r.named F) m.entry) (settles m.entry.op (settled r (r.named F) m.older)) (settled r (r.named F) m.older) m.turns
                ∙ ap (λ (o : Op). settles o (settled r (r.named F) m.older)) m.op)));
            recorded =
                ap (λ (z : Row). z.outcome_digest) (row-e ∙ (row-past
                ∙ cond-true (turning r (r.named F) m.entry) (turned r (now_of m.older) m.entry.op (row r (r.named F) m.older)) (row r (r.named F) m.older) m.turns))
                ∙ ap (λ (o : Op). (turned r (now_of m.older) o (row r (r.named F) m.older)).outcome_digest) m.op;
            not_older = go (own_state r on.keeps F on.me (shown r (r.named F) m.older m.entry) on.small (valid-shown r (r.named F) h journal on.valid (later ++ e ∷ m.mid) m.older m.entry m-is) shown-chain);
          }
        where
          m-is : h ≡ (later ++ e ∷ m.mid) ++ m.entry ∷ m.older
          m-is = is ∙ (ap (λ (z : List Entry). later ++ e ∷ z) m.split ∙ append_assoc' later (e ∷ m.mid) (m.entry ∷ m.older))

          m-legal : Legal r (m.entry ∷ m.older)
          m-legal = legal-suffix r (later ++ e ∷ m.mid) (m.entry ∷ m.older) (subst (Legal r) m-is on.legal)

          m-fixed : m.chain.fixed ≡ F
          m-fixed = fixed-is (later ++ e ∷ m.mid) m.older m.entry m.chain.fixed (ops.Call (make_challenge m.chain m.who m.sig)) m-is m.turns m.op refl

          m-chain : is_supported r F (marked_of m.chain) ≡ true
          m-chain =
              subst (λ (G : FixedParts). is_supported r G (marked_of m.chain) ≡ true) m-fixed
              (challenge_ok r m.older m.chain m.who m.sig (taken r m.older m.entry (make_challenge m.chain m.who m.sig) m-legal m.op (and-left (is_accepted m.entry.reply) (is_named r (r.named F) (fixed_of m.entry.op)) m.turns))).supported

          shown-chain : is_supported r F (shown r (r.named F) m.older m.entry) ≡ true
          shown-chain =
              subst (λ (w : Marked). is_supported r F w ≡ true)
              (sym (cond-true (turning r (r.named F) m.entry) (shown_by r (r.named F) m.older m.entry.op) nothing m.turns ∙ ap (shown_by r (r.named F) m.older) m.op)) m-chain

          -- the row does not change until e
          row-past : row r (r.named F) past ≡ row r (r.named F) (m.entry ∷ m.older)
          row-past = ap (row r (r.named F)) m.split ∙ row-quiet r (r.named F) m.mid (m.entry ∷ m.older) m.quiet

          row-e : row r (r.named F) (e ∷ past) ≡ row r (r.named F) past
          row-e = cond-false (turning r (r.named F) e) (turned r (now_of past) e.op (row r (r.named F) past)) (row r (r.named F) past) x.quiet

          -- and it is challenged on the way
          on-way : (a b : List Entry) → m.mid ≡ a ++ b → (row r (r.named F) (b ++ m.entry ∷ m.older) ≡ row r (r.named F) past) × (mode r (r.named F) (b ++ m.entry ∷ m.older) ≡ Challenged)
          on-way a b split =
              let q : past ≡ a ++ (b ++ m.entry ∷ m.older) = m.split ∙ (ap (λ (z : List Entry). z ++ m.entry ∷ m.older) split ∙ sym (append_assoc' a b (m.entry ∷ m.older))) in
              let n : now_of (b ++ m.entry ∷ m.older) ≤ now_of past = subst (λ (z : List Entry). now_of (b ++ m.entry ∷ m.older) ≤ now_of z) (sym q) (now-rises r a (b ++ m.entry ∷ m.older) (subst (Legal r) q legal)) in
              let w : row r (r.named F) (b ++ m.entry ∷ m.older) ≡ row r (r.named F) past =
              row-quiet r (r.named F) b (m.entry ∷ m.older) (λ z i. m.quiet z (subst (In z) (sym split) (In-append_right z a b i))) ∙ sym row-past in
              let less : now_of past < x.deadline = x.before in
              (w, still-challenged (row r (r.named F) (b ++ m.entry ∷ m.older)).deadline x.deadline (now_of (b ++ m.entry ∷ m.older)) (ap (λ (z : Row). z.deadline) w ∙ x.recorded) (omega arith))

          go : OwnState r F on.me (shown r (r.named F) m.older m.entry) → IsNotOlder r F past journal (row r (r.named F) (e ∷ past)).turn (top_outcome m.chain.states)
          go own = with_line (own_line r key F h journal on (later ++ e ∷ m.mid) m.older m.entry m-is own)
            where
              with_line : MadeLine r F journal (length m.older) own.signed.state → IsNotOlder r F past journal (row r (r.named F) (e ∷ past)).turn (top_outcome m.chain.states)
              with_line f = decide (le_or_lt (top_turn hn.latest.states) (row r (r.named F) past).turn)
                where
                  early : f.line.seen ≤ length (m.mid ++ m.entry ∷ m.older)
                  early =
                      let a : f.line.seen ≤ length m.older = f.early in
                      let b : length (m.entry ∷ m.older) ≤ length (m.mid ++ m.entry ∷ m.older) = length-up m.mid (m.entry ∷ m.older) in
                      omega arith

                  hn : HoldsNewer r F (top_turn (shown r (r.named F) m.older m.entry).states) (held r F past journal)
                  hn = shown-held r key F h journal on (later ++ e ∷ []) past is' m.mid m.older m.entry m.split shown-chain

                  before-end : now_of (m.mid ++ m.entry ∷ m.older) < now_of m.older + m.chain.fixed.duration
                  before-end = subst (λ (z : List Entry). now_of z < now_of m.older + m.chain.fixed.duration) m.split (subst (λ (d : ℕ). now_of past < d) m.due x.before)

                  first : (q : Entry) (t : ℕ) → In q m.mid → time_set q.op q.reply ≡ Some t → t < now_of m.older + m.chain.fixed.duration
                  first q t i sets =
                      let a : t ≤ now_of (m.mid ++ m.entry ∷ m.older) = time-below r m.mid (m.entry ∷ m.older) q t (subst (Legal r) m.split legal) i sets in
                      omega (arith, before-end)

                  runs-out : RunsOut r (r.named F) e m.mid m.entry m.older
                  runs-out =
                      record {
                        chain = m.chain;
                        who = m.who;
                        signature = m.sig;
                        time = x.time;
                        challenge = m.op;
                        turns = m.turns;
                        quiet = m.quiet;
                        first = first;
                        ends = x.sets;
                        late = subst (λ (d : ℕ). d ≤ x.time) m.due x.after;
                      }

                  looked : Looked r (r.named F) journal m.mid m.entry m.older
                  looked =
                      in_time later m.mid m.older e m.entry F f.line f.signed (is ∙ ap (λ (z : List Entry). later ++ e ∷ z) m.split) runs-out
                      f.there (made-noted (r.named F) f.line.deed f.signed f.made) early

                  refuted : (row r (r.named F) past).turn < top_turn hn.latest.states → Looked r (r.named F) journal m.mid m.entry m.older → ⊥
                  refuted newer k = caught (k.entered (Checkpoint (chain_of F hn.latest)) call (bytes_eq_self (r.named F)))
                    where
                      to_place : past ≡ k.after ++ (k.before ++ m.entry ∷ m.older)
                      to_place = m.split ∙ (ap (λ (z : List Entry). z ++ m.entry ∷ m.older) k.between ∙ sym (append_assoc' k.after k.before (m.entry ∷ m.older)))

                      hon0 : HonestIn r key F h (k.newer ++ k.line ∷ k.front)
                      hon0 = subst (HonestIn r key F h) k.split on.honest

                      honw : HonestLine r key F h k.line k.front
                      honw = honest-at r key F h k.newer k.line k.front hon0

                      watched : is_watched k.line.deed ≡ true
                      watched = ap is_watched k.deed

                      len-past : length past ≡ length (m.mid ++ m.entry ∷ m.older)
                      len-past = ap (λ (z : List Entry). length z) m.split

                      f-in-front : In f.line k.front
                      f-in-front = cases (In-append_cases f.line k.newer (k.line ∷ k.front) (subst (In f.line) k.split f.there))
                        where
                          cases : In f.line k.newer ⊎ In f.line (k.line ∷ k.front) → In f.line k.front
                          cases (inl i) = let a : length (m.mid ++ m.entry ∷ m.older) < f.line.seen = k.noted_before f.line f.signed i (made-noted (r.named F) f.line.deed f.signed f.made) in absurd (omega (arith, early))
                          cases (inr (inl q)) = absurd (clash (is_watched k.line.deed) watched (ap (λ (z : Line). is_watched z.deed) (sym q) ∙ made-not_watched (r.named F) f.line.deed f.signed f.made))
                          cases (inr (inr i)) = i

                      -- nothing of the channel comes after the look
                      idle : (y : Line) → In y k.newer → (length past < y.seen) ⊎ ((st : Option Marked) → note r F y st ≡ st)
                      idle y i = go-open (opens r (r.named F) y) refl
                        where
                          go-noted : (o : Option Signed) → noted_in (r.named F) y.deed ≡ o → opens r (r.named F) y ≡ false → (length past < y.seen) ⊎ ((st : Option Marked) → note r F y st ≡ st)
                          go-noted (Some s) n o = let a : length (m.mid ++ m.entry ∷ m.older) < y.seen = k.noted_before y s i n in inl (omega (arith, len-past))
                          go-noted None n o = inr (inert r F y o n)

                          open-again : Split y k.newer → Split f.line k.front → opens r (r.named F) y ≡ true → ⊥
                          open-again sy sf o =
                              not-opened sy.newer y (sy.front ++ k.line ∷ sf.newer) f.line sf.front f.signed whole f.made o
                            where
                              whole : journal ≡ sy.newer ++ y ∷ ((sy.front ++ k.line ∷ sf.newer) ++ f.line ∷ sf.front)
                              whole =
                                  k.split
                                  ∙ (ap (λ (z : List Line). z ++ k.line ∷ k.front) sy.is
                                  ∙ (sym (append_assoc' sy.newer (y ∷ sy.front) (k.line ∷ k.front))
                                  ∙ ap (λ (z : List Line). sy.newer ++ y ∷ z) (ap (λ (z : List Line). sy.front ++ k.line ∷ z) sf.is ∙ append_assoc' sy.front (k.line ∷ sf.newer) (f.line ∷ sf.front))))

                          go-open : (b : Bool) → opens r (r.named F) y ≡ b → (length past < y.seen) ⊎ ((st : Option Marked) → note r F y st ≡ st)
                          go-open true o = absurd (open-again (split_of y k.newer i) (split_of f.line k.front f-in-front) o)
                          go-open false o = go-noted (noted_in (r.named F) y.deed) refl o

                      same-held : held r F past journal ≡ held r F (k.before ++ m.entry ∷ m.older) k.front
                      same-held =
                          ap (held r F past) k.split
                          ∙ (held-drop r F past k.newer (k.line ∷ k.front) idle
                          ∙ (held-watched r F past k.line k.front watched
                          ∙ (ap (λ (z : List Entry). held r F z k.front) to_place
                          ∙ held-quiet r F k.after (k.before ++ m.entry ∷ m.older) k.front (λ q i. m.quiet q (subst (In q) (sym k.between) (In-append_left q k.after k.before i)))
                          (λ y i w. subst (λ (n : ℕ). y.seen ≤ n) k.saw (honw.rising y i w)))))

                      place_is : h ≡ (later ++ e ∷ k.after) ++ (k.before ++ m.entry ∷ m.older)
                      place_is = is ∙ (ap (λ (z : List Entry). later ++ e ∷ z) to_place ∙ append_assoc' later (e ∷ k.after) (k.before ++ m.entry ∷ m.older))

                      at_place : (row r (r.named F) (k.before ++ m.entry ∷ m.older) ≡ row r (r.named F) past) × (mode r (r.named F) (k.before ++ m.entry ∷ m.older) ≡ Challenged)
                      at_place = on-way k.after k.before k.between

                      call : In (Checkpoint (chain_of F hn.latest)) k.calls
                      call =
                          (honw.place (later ++ e ∷ k.after) (k.before ++ m.entry ∷ m.older) place_is (sym k.saw)).looks k.watcher k.calls hn.latest k.deed (sym same-held ∙ hn.is) hn.chain at_place.1
                          (subst (λ (z : Row). z.turn < top_turn hn.latest.states) (sym at_place.0) newer)

                      caught : (q : Entry) × (In q k.after) × (q.op ≡ ops.Call (Checkpoint (chain_of F hn.latest))) → ⊥
                      caught q = by_split (split_of q.0 k.after q.1)
                        where
                          by_split : Split q.0 k.after → ⊥
                          by_split sq = clash (turning r (r.named F) q.0) (and-both (is_accepted q.0.reply) (is_named r (r.named F) (fixed_of q.0.op)) accepted-q named-q) (m.quiet q.0 (subst (In q.0) (sym k.between) (In-append_left q.0 k.after k.before q.1)))
                            where
                              mid-split : m.mid ≡ sq.newer ++ q.0 ∷ (sq.front ++ k.before)
                              mid-split = k.between ∙ (ap (λ (z : List Entry). z ++ k.before) sq.is ∙ sym (append_assoc' sq.newer (q.0 ∷ sq.front) k.before))

                              past-split : past ≡ sq.newer ++ q.0 ∷ ((sq.front ++ k.before) ++ m.entry ∷ m.older)
                              past-split = m.split ∙ (ap (λ (z : List Entry). z ++ m.entry ∷ m.older) mid-split ∙ sym (append_assoc' sq.newer (q.0 ∷ (sq.front ++ k.before)) (m.entry ∷ m.older)))

                              legal-q : Legal r (q.0 ∷ ((sq.front ++ k.before) ++ m.entry ∷ m.older))
                              legal-q = legal-suffix r sq.newer (q.0 ∷ ((sq.front ++ k.before) ++ m.entry ∷ m.older)) (subst (Legal r) past-split legal)

                              at-q : (row r (r.named F) ((sq.front ++ k.before) ++ m.entry ∷ m.older) ≡ row r (r.named F) past) × (mode r (r.named F) ((sq.front ++ k.before) ++ m.entry ∷ m.older) ≡ Challenged)
                              at-q = on-way (sq.newer ++ q.0 ∷ []) (sq.front ++ k.before) (mid-split ∙ append_assoc' sq.newer (q.0 ∷ []) (sq.front ++ k.before))

                              above : (row r (r.named F) ((sq.front ++ k.before) ++ m.entry ∷ m.older)).turn < top_turn hn.latest.states
                              above = subst (λ (z : Row). z.turn < top_turn hn.latest.states) (sym at-q.0) newer

                              accepted-q : is_accepted q.0.reply ≡ true
                              accepted-q =
                                  given r ((sq.front ++ k.before) ++ m.entry ∷ m.older) q.0 (Checkpoint (chain_of F hn.latest)) legal-q q.2
                                  (checkpoint_taken r ((sq.front ++ k.before) ++ m.entry ∷ m.older) (chain_of F hn.latest) (ap is_final at-q.1)
                                  hn.chain
                                  (false-le (top_turn hn.latest.states) (row r (r.named F) ((sq.front ++ k.before) ++ m.entry ∷ m.older)).turn above))

                              named-q : is_named r (r.named F) (fixed_of q.0.op) ≡ true
                              named-q = ap (λ (o : Op). is_named r (r.named F) (fixed_of o)) q.2 ∙ bytes_eq_self (r.named F)

                  decide : (top_turn hn.latest.states ≤ (row r (r.named F) past).turn) ⊎ ((row r (r.named F) past).turn < top_turn hn.latest.states) → IsNotOlder r F past journal (row r (r.named F) (e ∷ past)).turn (top_outcome m.chain.states)
                  decide (inl l) =
                      let top : top_turn hn.latest.states ≤ (row r (r.named F) (e ∷ past)).turn = subst (λ (z : Row). top_turn hn.latest.states ≤ z.turn) (sym row-e) l in
                      record {
                        latest = hn.latest;
                        is = hn.is;
                        chain = hn.chain;
                        noted = newest-noted (later ++ e ∷ []) past (top_turn (shown r (r.named F) m.older m.entry).states) is' hn;
                        shown_before = newest-shown (later ++ e ∷ []) past (top_turn (shown r (r.named F) m.older m.entry).states) is' hn;
                        held_settled = inl top;
                        noted_settled = λ x' s i early' noted high. inl (trans-le s.state.turn (top_turn hn.latest.states) (row r (r.named F) (e ∷ past)).turn (newest-noted (later ++ e ∷ []) past (top_turn (shown r (r.named F) m.older m.entry).states) is' hn x' s i early' noted high) top);
                        shown_settled = λ l' older k split sup. inl (trans-le (top_turn (shown r (r.named F) older k).states) (top_turn hn.latest.states) (row r (r.named F) (e ∷ past)).turn (newest-shown (later ++ e ∷ []) past (top_turn (shown r (r.named F) m.older m.entry).states) is' hn l' older k split sup) top);
                      }
                  decide (inr l) = absurd (refuted l looked)

-- ---- the theorem

-- the premises over one of the participant's channels
pub setting : (r : Rules) (key : List ℕ) (h : List Entry) (journal : List Line) → KeepsFinal r → Legal r h → Honest r key h journal → Unforged r key h journal → NoCollision r h journal → AreValid h journal
    → (F : FixedParts) (seen : ℕ) → IsChannelOf key F journal seen → Setting r key F h journal
setting r key h journal keeps legal honest unforged distinct valid F seen channel =
    record {
      keeps = keeps;
      legal = legal;
      honest = honest F channel.line channel.there channel.opens;
      unforged = unforged;
      distinct = distinct;
      valid = valid;
      occurs = inr (channel.line, channel.there, channel.opens);
      me = channel.me;
      small = get-within F.keys channel.me key channel.mine;
      mine = channel.mine;
      alone = λ turn mine. one-place F.keys key (turn % people F) channel.me (valid.fixed F (inr (channel.line, channel.there, channel.opens))).keys.apart mine channel.mine;
    }

pub setting-me : (r : Rules) (key : List ℕ) (h : List Entry) (journal : List Line) (keeps : KeepsFinal r) (legal : Legal r h) (honest : Honest r key h journal) (unforged : Unforged r key h journal) (distinct : NoCollision r h journal) (valid : AreValid h journal)
    (F : FixedParts) (seen : ℕ) (channel : IsChannelOf key F journal seen) → (setting r key h journal keeps legal honest unforged distinct valid F seen channel).me ≡ channel.me
unfolding setting
setting-me r key h journal keeps legal honest unforged distinct valid F seen channel = refl

pub safe : (r : Rules) (key : List ℕ) (h : List Entry) (journal : List Line) → KeepsFinal r → Legal r h → Honest r key h journal → Unforged r key h journal → NoCollision r h journal → AreValid h journal → InTime r h journal
    → IsSafe r key h journal
safe r key h journal keeps legal honest unforged distinct valid in_time later past e F is channel not_yet final = go (becomes_final r (r.named F) e past lasting not_yet final)
  where
    on : Setting r key F h journal
    on = setting r key h journal keeps legal honest unforged distinct valid F (length past) channel

    lasting : (chain : Chain) (who : ℕ) (sig : List ℕ) → turning r (r.named F) e ≡ true → e.op ≡ ops.Call (make_challenge chain who sig) → 0 < chain.fixed.duration
    lasting chain who sig turns op =
        subst (λ (G : FixedParts). 0 < G.duration) (sym (fixed-is r key F h journal on later past e chain.fixed (ops.Call (make_challenge chain who sig)) is turns op refl))
        (let started : 1 ≤ F.duration = (valid.fixed F (inr (channel.line, channel.there, channel.opens))).started in omega arith)

    go : Concluded r (r.named F) e ⊎ Expired r (r.named F) e past → SettlesWell r F e past journal
    go (inl c) = concluded-safe r key F h journal on later past e is c
    go (inr x) = expired-safe r key F h journal on later past e in_time is x
