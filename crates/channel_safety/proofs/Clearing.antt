-- Each challenge of a participant that is cleared raises the turn, and no turn is n past the last one that it signed:
-- so at most n - 1 are.
use Rattle.std.proofs.Common.{◌≡◌, ℕ, suc, ◌+◌, ◌<◌, ◌≤◌, ◌==◌, max, Bool, true, false, cond, ◌&&◌, not, List, [], ◌∷◌, ◌++◌, ◌⊎◌, inl, inr, length, refl, sym, ◌∙◌, ap, subst, arith}
use Rattle.std.specs.Prelude.{nat_le, Option, Some, None}
use Rattle.std.specs.List.{slice_get}
use Rattle.channel_values.specs.Parts.{FixedParts, StateParts}
use Rattle.channel_values.specs.declared.chain.Chain.{Chain}
use Rattle.channel_values.specs.declared.chain.Signed.{Signed}
use Rattle.call_history.specs.Mode.{mode_at, is_final, is_challenged}
use Rattle.call_history.specs.declared.standing.Standing.{Standing}
use Rattle.call_history.specs.declared.standing.Standing.TheVariants.{Open, Challenged, Final}
use Rattle.channel_values.specs.Messages.{message_of_state, message_of_challenge}
use Rattle.channel_values.specs.Rows.{last_of, last_turn}
use Rattle.channel_values.proofs.Challenges.{challenge_verified}
use Rattle.channel_values.specs.Rules.{Rules, people, newest, turn_of, top_turn, digest_of, top_digest, signs, signs_state, KeepsFinal}
use Rattle.channel_values.proofs.Turns.{last_turn_at_most, last_turn_mine}
use Rattle.call_history.specs.Rows.{fixed_of, is_stale, turned}
use Rattle.call_history.specs.History.{Legal, is_accepted, is_named, time_set, or_before, now_of, turning, row, mode}
use Rattle.call_history.specs.Marked.{Marked, nothing, marked_of, is_supported}
use Rattle.call_history.specs.Shown.{shown_by, shown}
use Rattle.call_history.specs.declared.call.Call.TheVariants.{Challenge, Respond, Refute, Checkpoint, Conclude}
use Rattle.call_history.specs.declared.call.Op.{Op}
use Rattle.call_history.specs.declared.call.Op.TheVariants as ops
use Rattle.call_history.specs.declared.row.Row.{Row}
use Rattle.call_history.specs.declared.entry.Entry.{Entry}
use Rattle.call_history.specs.declared.event.Deed.{Deed}
use Rattle.call_history.specs.declared.event.Deed.TheVariants as deeds
use Rattle.channel_safety.specs.Journals.{In, Line, made_in, is_challenge}
use Rattle.channel_safety.specs.Held.{held}
use Rattle.channel_safety.specs.Strings.{signed_of, string_of, signed_in, states_in, WasSignedBy}
use Rattle.channel_safety.specs.Premises.{Unforged}
use Rattle.channel_safety.specs.Occurring.{NoCollision, AreValid, in_call, in_line}
use Rattle.channel_safety.specs.Honest.{Honest, HonestLine, HonestIn, EndsWith}
use Rattle.channel_safety.specs.Cleared.{is_conclude, clears, cleared}
use Rattle.channel_safety.specs.Steps.{FewAreCleared}
use Rattle.channel_safety.proofs.Tests.{cond-false, cond-true, clash, le_or_lt, and-left, and-right, some-eq, none-eq, lt-false, le-false, le-true, true-le, eqb-true}
use Rattle.channel_safety.proofs.Lists.{Split, split_of, In-append_right, In-append_cases, Suffix, suffix_of, append_assoc'}
use Rattle.channel_safety.proofs.Rowing.{legal-suffix, now-rises}
use Rattle.channel_safety.proofs.Replies.{taken, challenge_ok, checkpoint_ok, respond_ok, Refutes, refute_ok}
use Rattle.channel_safety.proofs.Chains.{last_turn-low, newest-in, OwnState, own_state, parts}
use Rattle.channel_safety.proofs.Places.{made-not_watched, made-noted}
use Rattle.channel_safety.proofs.Keeps.{HoldsNewer}
use Rattle.channel_safety.proofs.Safe.{Setting, MadeLine, honest-at, honest-suffix, noted-held, made-line, by-key, own_line, valid-shown}
use Rattle.channel_safety.proofs.Headline.{fixed-is, setting, setting-me}
use Rattle.channel_safety.proofs.Open.{Opened, open_one, Answers, respond-shown}

-- ---- the last turn that was signed

pub turn_in : Option Signed → ℕ
turn_in None = 0
turn_in (Some s) = s.state.turn

-- the greatest turn that a participant signed in the channel, or 0
unfoldable pub top_made : List ℕ → List Line → ℕ
top_made c [] = 0
top_made c (x ∷ front) = max (turn_in (made_in c x.deed)) (top_made c front)

made-below : (c : List ℕ) (journal : List Line) (x : Line) (s : Signed) → In x journal → made_in c x.deed ≡ Some s → s.state.turn ≤ top_made c journal
unfolding turn_in top_made
made-below c [] x s i made = absurd i
made-below c (y ∷ journal) x s (inl e) made =
    let a : turn_in (made_in c y.deed) ≡ s.state.turn = ap turn_in (subst (λ (z : Line). made_in c z.deed ≡ Some s) e made) in
    omega arith
made-below c (y ∷ journal) x s (inr i) made = let a : s.state.turn ≤ top_made c journal = made-below c journal x s i made in omega arith

-- it is 0 or was signed
record MadeTop (c : List ℕ) (journal : List Line) : Type 0 where
  line : Line
  signed : Signed
  there : In line journal
  made : made_in c line.deed ≡ Some signed
  top : signed.state.turn ≡ top_made c journal

top-cases : (c : List ℕ) (journal : List Line) → (top_made c journal ≡ 0) ⊎ MadeTop c journal
unfolding turn_in top_made
top-cases c [] = inl refl
top-cases c (x ∷ front) = go (made_in c x.deed) refl (top-cases c front)
  where
    go : (o : Option Signed) → made_in c x.deed ≡ o → (top_made c front ≡ 0) ⊎ MadeTop c front → (max (turn_in (made_in c x.deed)) (top_made c front) ≡ 0) ⊎ MadeTop c (x ∷ front)
    go None e (inl z) = let a : turn_in (made_in c x.deed) ≡ 0 = ap turn_in e in inl (omega arith)
    go None e (inr m) =
        let a : turn_in (made_in c x.deed) ≡ 0 = ap turn_in e in
        let b : m.signed.state.turn ≡ top_made c front = m.top in
        inr (record { line = m.line; signed = m.signed; there = inr m.there; made = m.made; top = omega arith })
    go (Some s) e old = pick (le_or_lt (top_made c front) s.state.turn) old
      where
        a : turn_in (made_in c x.deed) ≡ s.state.turn
        a = ap turn_in e

        pick : (top_made c front ≤ s.state.turn) ⊎ (s.state.turn < top_made c front) → (top_made c front ≡ 0) ⊎ MadeTop c front → (max (turn_in (made_in c x.deed)) (top_made c front) ≡ 0) ⊎ MadeTop c (x ∷ front)
        pick (inl l) q = inr (record { line = x; signed = s; there = inl refl; made = e; top = omega (arith, a) })
        pick (inr l) (inl z) = absurd (omega arith)
        pick (inr l) (inr m) = let b : m.signed.state.turn ≡ top_made c front = m.top in inr (record { line = m.line; signed = m.signed; there = inr m.there; made = m.made; top = omega (arith, a) })

-- ---- a signed challenge

record SignedOne (r : Rules) (digest : List ℕ) (d : Deed) : Type 0 where
  channel : List ℕ
  state : StateParts
  who : ℕ
  signature : List ℕ
  deed : d ≡ deeds.SignedChallenge channel state who signature
  same : r.digest channel state ≡ digest

front-eq : (xs ys : List ℕ) (x y : ℕ) → xs ++ x ∷ [] ≡ ys ++ y ∷ [] → xs ≡ ys
front-eq [] [] x y e = refl
front-eq [] (b ∷ []) x y e = cc
front-eq [] (b ∷ c ∷ ys) x y e = cc
front-eq (a ∷ []) [] x y e = cc
front-eq (a ∷ c ∷ xs) [] x y e = cc
front-eq (a ∷ xs) (b ∷ ys) x y e = let f : xs ≡ ys = front-eq xs ys x y cc in let g : a ≡ b = cc in cc

signed-one : (r : Rules) (digest : List ℕ) (who : ℕ) (d : Deed) → string_of r d ≡ Some (message_of_challenge digest who) → SignedOne r digest d
unfolding message_of_state message_of_challenge
signed-one r digest who (deeds.Signed channel state signature) h = absurd cc
signed-one r digest who (deeds.SignedChallenge channel state j signature) h = record { channel = channel; state = state; who = j; signature = signature; deed = refl; same = front-eq (r.digest channel state) digest j who cc }
signed-one r digest who _ h = cc

-- ---- standings

fresh-up : (m : Standing) (turn top : ℕ) → is_stale m turn top ≡ false → turn ≤ top
fresh-up Open turn top h = lt-false top turn h
fresh-up Challenged turn top h = let l : turn < top = le-false top turn h in omega arith
fresh-up Final turn top h = lt-false top turn h

fresh-above : (m : Standing) (turn top : ℕ) → is_challenged m ≡ true → is_stale m turn top ≡ false → turn < top
fresh-above Open turn top c h = cc
fresh-above Challenged turn top c h = le-false top turn h
fresh-above Final turn top c h = cc

not_both : (m : Standing) → is_challenged m ≡ true → is_final m ≡ false
not_both Open h = refl
not_both Challenged h = refl
not_both Final h = cc

-- once past its deadline it stays so
final-stays : (d : Option ℕ) (now later : ℕ) → now ≤ later → is_final (mode_at d later) ≡ false → is_final (mode_at d now) ≡ false
final-stays None now later up h = refl
final-stays (Some d) now later up h = go (nat_le d now) refl
  where
    go : (b : Bool) → nat_le d now ≡ b → is_final (cond b Final Challenged) ≡ false
    go false e = refl
    go true e = absurd (over (nat_le d later) (true-le d later (le-later (nat_le d now) e)) h)
      where
        le-later : (b : Bool) → nat_le d now ≡ true → d ≤ later
        le-later b t = let l : d ≤ now = from-le d now t in omega arith
          where
            from-le : (x y : ℕ) → nat_le x y ≡ true → x ≤ y
            from-le x y k = le-true x y k

        over : (b : Bool) → b ≡ true → is_final (cond b Final Challenged) ≡ false → ⊥
        over true t k = cc
        over false t k = cc

past-now : (now : ℕ) → is_final (mode_at (Some now) now) ≡ true
past-now now = ap (λ (b : Bool). is_final (cond b Final Challenged)) (true-le now now (omega arith))

module _ (r : Rules) (key : List ℕ) (F : FixedParts) (h : List Entry) (journal : List Line) (on : Setting r key F h journal) where
  -- no supported chain that is shown is n turns past what the participant signed
  bounded : (later past : List Entry) (e : Entry) → h ≡ later ++ e ∷ past → is_supported r F (shown r (r.named F) past e) ≡ true
      → top_turn (shown r (r.named F) past e).states < top_made (r.named F) journal + people F
  bounded later past e is chain =
      go (own_state r on.keeps F on.me (shown r (r.named F) past e) on.small (valid-shown r (r.named F) h journal on.valid later past e is) chain) (parts r F (shown r (r.named F) past e) chain).high
    where
      go : OwnState r F on.me (shown r (r.named F) past e) → people F ≤ top_turn (shown r (r.named F) past e).states + 1 → top_turn (shown r (r.named F) past e).states < top_made (r.named F) journal + people F
      go own high = by (own_line r key F h journal on later past e is own)
        where
          by : MadeLine r F journal (length past) own.signed.state → top_turn (shown r (r.named F) past e).states < top_made (r.named F) journal + people F
          by m =
              let small : on.me < people F = on.small in
              let late : on.me ≤ top_turn (shown r (r.named F) past e).states = omega (arith, high) in
              let mine = last_turn_mine (people F) on.me (top_turn (shown r (r.named F) past e).states) on.small late in
              let a = own.latest (last_turn (people F) on.me (top_turn (shown r (r.named F) past e).states)) mine (last_turn_at_most (people F) on.me (top_turn (shown r (r.named F) past e).states)) in
              let b = last_turn-low (people F) (top_turn (shown r (r.named F) past e).states) on.me on.small late in
              let c : m.signed.state.turn ≤ top_made (r.named F) journal = made-below (r.named F) journal m.line m.signed m.there m.made in
              let d : own.signed.state.turn ≡ m.signed.state.turn = ap (λ (x : StateParts). x.turn) m.same in
              omega (arith, a, b, c, d)

  -- the participant's own challenge is no older than what it signed
  own-high : (past : List Entry) (m : Opened r key F h journal on past) → m.who ≡ on.me → top_made (r.named F) journal ≤ top_turn m.chain.states
  own-high past m mine = at_top m.chain.states refl (parts r F (marked_of m.chain) m.supported).some
    where
      at_top : (states : List StateParts) → m.chain.states ≡ states → 1 ≤ length states → top_made (r.named F) journal ≤ top_turn m.chain.states
      at_top [] q some = absurd (omega arith)
      at_top (a ∷ rest) q some = by_string (on.unforged.challenges m.later m.older m.entry m.chain m.who m.sig m.is m.op verified)
        where
          verified : r.verifies key (message_of_challenge (top_digest r m.chain.fixed m.chain.states) m.who) m.sig ≡ true
          verified =
              by-key r key F h journal on (message_of_challenge (top_digest r m.chain.fixed m.chain.states) m.who) m.sig
              (subst (λ (k : ℕ). signs r (slice_get F.keys k) (message_of_challenge (top_digest r m.chain.fixed m.chain.states) m.who) m.sig ≡ true) mine
              (subst (λ (G : FixedParts). signs r (slice_get F.keys m.who) (message_of_challenge (top_digest r G m.chain.states) m.who) m.sig ≡ true) (sym m.fixed)
              (challenge_verified r F (newest m.chain.states) m.who m.sig m.signed)))

          top-is : newest m.chain.states ≡ Some (last_of a rest)
          top-is = ap newest q

          by_string : WasSignedBy r journal (length m.older) (message_of_challenge (top_digest r m.chain.fixed m.chain.states) m.who) → top_made (r.named F) journal ≤ top_turn m.chain.states
          by_string w = by_deed (signed-one r (top_digest r m.chain.fixed m.chain.states) m.who w.signed.line.deed w.signed.is)
            where
              by_deed : SignedOne r (top_digest r m.chain.fixed m.chain.states) w.signed.line.deed → top_made (r.named F) journal ≤ top_turn m.chain.states
              by_deed g = at_line (split_of w.signed.line journal w.signed.there) (suffix_of h w.signed.line.seen (on-line (split_of w.signed.line journal w.signed.there)).within)
                where
                  on-line : (sp : Split w.signed.line journal) → HonestLine r key F h w.signed.line sp.front
                  on-line sp = honest-at r key F h sp.newer w.signed.line sp.front (subst (HonestIn r key F h) sp.is on.honest)

                  in_m : In m.entry h
                  in_m = subst (In m.entry) (sym m.is) (In-append_right m.entry m.later (m.entry ∷ m.older) (inl refl))

                  same : (r.named F ≡ g.channel) × (last_of a rest ≡ g.state)
                  same =
                      on.distinct.states (r.named F) g.channel (last_of a rest) g.state
                      (in_call m.entry m.chain.fixed in_m (ap fixed_of m.op) (ap r.named m.fixed)
                      (subst (λ (o : Op). In (last_of a rest) (states_in o)) (sym m.op) (subst (In (last_of a rest)) (sym q) (newest-in a rest))))
                      (in_line w.signed.line w.signed.there (ap signed_of g.deed))
                      (sym (ap (λ (G : FixedParts). top_digest r G m.chain.states) m.fixed ∙ ap (digest_of r F) top-is) ∙ sym g.same)

                  deed : w.signed.line.deed ≡ deeds.SignedChallenge (r.named F) g.state g.who g.signature
                  deed = g.deed ∙ ap (λ (c : List ℕ). deeds.SignedChallenge c g.state g.who g.signature) (sym same.0)

                  top-turn : top_turn m.chain.states ≡ g.state.turn
                  top-turn = ap turn_of top-is ∙ ap (λ (s : StateParts). s.turn) same.1

                  at_line : Split w.signed.line journal → Suffix h w.signed.line.seen → top_made (r.named F) journal ≤ top_turn m.chain.states
                  at_line sp p = decide (top-cases (r.named F) journal)
                    where
                      line : HonestLine r key F h w.signed.line sp.front
                      line = on-line sp

                      ends : EndsWith r F (held r F p.past sp.front) g.state
                      ends = (line.place p.later p.past p.is p.len).challenges g.state g.who g.signature deed

                      held-top : top_turn ends.chain.states ≡ g.state.turn
                      held-top = ap turn_of ends.ends

                      decide : (top_made (r.named F) journal ≡ 0) ⊎ MadeTop (r.named F) journal → top_made (r.named F) journal ≤ top_turn m.chain.states
                      decide (inl z) = omega (arith, z)
                      decide (inr y) = where_is (In-append_cases y.line sp.newer (w.signed.line ∷ sp.front) (subst (In y.line) sp.is y.there))
                        where
                          below : y.signed.state.turn ≤ g.state.turn → top_made (r.named F) journal ≤ top_turn m.chain.states
                          below l = let e : y.signed.state.turn ≡ top_made (r.named F) journal = y.top in omega (arith, top-turn)

                          after : Split y.line sp.newer → ⊥
                          after sy = by (suffix_of h y.line.seen hony.within)
                            where
                              whole : journal ≡ sy.newer ++ y.line ∷ (sy.front ++ w.signed.line ∷ sp.front)
                              whole = sp.is ∙ (ap (λ (z : List Line). z ++ w.signed.line ∷ sp.front) sy.is ∙ sym (append_assoc' sy.newer (y.line ∷ sy.front) (w.signed.line ∷ sp.front)))

                              hony : HonestLine r key F h y.line (sy.front ++ w.signed.line ∷ sp.front)
                              hony = honest-at r key F h sy.newer y.line (sy.front ++ w.signed.line ∷ sp.front) (subst (HonestIn r key F h) whole on.honest)

                              by : Suffix h y.line.seen → ⊥
                              by t =
                                  clash (is_challenge w.signed.line.deed) (ap is_challenge deed)
                                  ((hony.place t.later t.past t.is t.len).leaves y.signed y.made w.signed.line (In-append_right w.signed.line sy.front (w.signed.line ∷ sp.front) (inl refl)))

                          itself : y.line ≡ w.signed.line → ⊥
                          itself e = none-eq y.signed (sym (ap (λ (z : Line). made_in (r.named F) z.deed) e ∙ ap (made_in (r.named F)) deed) ∙ y.made)

                          before : In y.line sp.front → y.signed.state.turn ≤ g.state.turn
                          before i = sizes (le_or_lt (people F) (y.signed.state.turn + 1))
                            where
                              front-honest : HonestIn r key F h sp.front
                              front-honest = (honest-suffix r key F h sp.newer (w.signed.line ∷ sp.front) (subst (HonestIn r key F h) sp.is on.honest)).1

                              early : y.line.seen ≤ length p.past
                              early = subst (λ (k : ℕ). y.line.seen ≤ k) (sym p.len) (line.rising y.line i (made-not_watched (r.named F) y.line.deed y.signed y.made))

                              sizes : (people F ≤ y.signed.state.turn + 1) ⊎ (y.signed.state.turn + 1 < people F) → y.signed.state.turn ≤ g.state.turn
                              sizes (inl high) = newer (noted-held r key F h sp.front front-honest p.later p.past p.is y.line y.signed i early (made-noted (r.named F) y.line.deed y.signed y.made) high)
                                where
                                  newer : HoldsNewer r F y.signed.state.turn (held r F p.past sp.front) → y.signed.state.turn ≤ g.state.turn
                                  newer n =
                                      let up : y.signed.state.turn ≤ top_turn ends.chain.states = subst (λ (x : Marked). y.signed.state.turn ≤ top_turn x.states) (some-eq n.latest ends.chain (sym n.is ∙ ends.is)) n.up in
                                      omega (arith, held-top)
                              sizes (inr l) = let high : people F ≤ top_turn ends.chain.states + 1 = (parts r F ends.chain ends.chain_supported).high in omega (arith, held-top)

                          where_is : In y.line sp.newer ⊎ In y.line (w.signed.line ∷ sp.front) → top_made (r.named F) journal ≤ top_turn m.chain.states
                          where_is (inl i) = absurd (after (split_of y.line sp.newer i))
                          where_is (inr (inl e)) = absurd (itself e)
                          where_is (inr (inr i)) = below (before i)

  -- ---- what an accepted entry makes of the turn

  -- a challenge is cleared by a supported chain of a greater turn
  record ClearedBy (past : List Entry) (e : Entry) : Type 0 where
    above : (row r (r.named F) past).turn < (row r (r.named F) (e ∷ past)).turn
    chain : is_supported r F (shown r (r.named F) past e) ≡ true
    top : top_turn (shown r (r.named F) past e).states ≡ (row r (r.named F) (e ∷ past)).turn

  record Raised (past : List Entry) (e : Entry) : Type 0 where
    still : is_final (mode r (r.named F) past) ≡ false
    up : (row r (r.named F) past).turn ≤ (row r (r.named F) (e ∷ past)).turn
    clearing : is_challenged (mode r (r.named F) past) ≡ true → (row r (r.named F) past).challenger ≡ on.me → ClearedBy past e

  module _ (later past : List Entry) (e : Entry) (is : h ≡ later ++ e ∷ past) (turns : turning r (r.named F) e ≡ true) where
    legal : Legal r (e ∷ past)
    legal = legal-suffix r later (e ∷ past) (subst (Legal r) is on.legal)

    is' : h ≡ (later ++ e ∷ []) ++ past
    is' = is ∙ append_assoc' later (e ∷ []) past

    took : is_accepted e.reply ≡ true
    took = and-left (is_accepted e.reply) (is_named r (r.named F) (fixed_of e.op)) turns

    new-row : (op : Op) → e.op ≡ op → row r (r.named F) (e ∷ past) ≡ turned r (now_of past) op (row r (r.named F) past)
    new-row op same =
        cond-true (turning r (r.named F) e) (turned r (now_of past) e.op (row r (r.named F) past)) (row r (r.named F) past) turns
        ∙ ap (λ (o : Op). turned r (now_of past) o (row r (r.named F) past)) same

    shows : (op : Op) → e.op ≡ op → shown r (r.named F) past e ≡ shown_by r (r.named F) past op
    shows op same = cond-true (turning r (r.named F) e) (shown_by r (r.named F) past e.op) nothing turns ∙ ap (shown_by r (r.named F) past) same

    -- a chain that the op shows
    by-chain : (op : Op) (chain : Chain) → e.op ≡ op → chain.fixed ≡ F → shown_by r (r.named F) past op ≡ marked_of chain → (turned r (now_of past) op (row r (r.named F) past)).turn ≡ top_turn chain.states
        → is_supported r chain.fixed (marked_of chain) ≡ true → (row r (r.named F) past).turn < top_turn chain.states → ClearedBy past e
    by-chain op chain same fixed shows' turn sup lt =
        let t : (row r (r.named F) (e ∷ past)).turn ≡ top_turn chain.states = ap (λ (x : Row). x.turn) (new-row op same) ∙ turn in
        let s : shown r (r.named F) past e ≡ marked_of chain = shows op same ∙ shows' in
        record {
          above = omega (arith, t, lt);
          chain = subst (λ (w : Marked). is_supported r F w ≡ true) (sym s) (subst (λ (G : FixedParts). is_supported r G (marked_of chain) ≡ true) fixed sup);
          top = ap (λ (w : Marked). top_turn w.states) s ∙ sym t;
        }

    raised : (op : Op) → e.op ≡ op → is_conclude op ≡ false → Raised past e
    raised (ops.Call (Challenge k)) same nope =
        let fixed : k.chain.fixed ≡ F = fixed-is r key F h journal on later past e k.chain.fixed (ops.Call (Challenge k)) is turns same refl in
        let ok = challenge_ok r past k.chain k.challenger k.signature (taken r past e (Challenge k) legal same took) in
        let still : is_final (mode r (r.named F) past) ≡ false = subst (λ (G : FixedParts). is_final (mode r (r.named G) past) ≡ false) fixed ok.still in
        let fresh : is_stale (mode r (r.named F) past) (row r (r.named F) past).turn (top_turn k.chain.states) ≡ false =
        subst (λ (G : FixedParts). is_stale (mode r (r.named G) past) (row r (r.named G) past).turn (top_turn k.chain.states) ≡ false) fixed ok.fresh in
        let t : (row r (r.named F) (e ∷ past)).turn ≡ top_turn k.chain.states = ap (λ (x : Row). x.turn) (new-row (ops.Call (Challenge k)) same) in
        let up : (row r (r.named F) past).turn ≤ top_turn k.chain.states = fresh-up (mode r (r.named F) past) (row r (r.named F) past).turn (top_turn k.chain.states) fresh in
        record {
          still = still;
          up = omega (arith, t, up);
          clearing = λ opened mine. by-chain (ops.Call (Challenge k)) k.chain same fixed refl refl ok.supported (fresh-above (mode r (r.named F) past) (row r (r.named F) past).turn (top_turn k.chain.states) opened fresh);
        }
    raised (ops.Call (Respond k)) same nope =
        let fixed_is : k.fixed ≡ F = fixed-is r key F h journal on later past e k.fixed (ops.Call (Respond k)) is turns same refl in
        let ok = respond_ok r past k.fixed k.from k.next (taken r past e (Respond k) legal same took) in
        let opened : is_challenged (mode r (r.named F) past) ≡ true = subst (λ (G : FixedParts). is_challenged (mode r (r.named G) past) ≡ true) fixed_is ok.challenged in
        let t : (row r (r.named F) (e ∷ past)).turn ≡ (row r (r.named F) past).turn + 1 =
        ap (λ (x : Row). x.turn) (new-row (ops.Call (Respond k)) same) ∙ subst (λ (G : FixedParts). k.next.state.turn ≡ (row r (r.named G) past).turn + 1) fixed_is ok.turn in
        let a : Answers r key F h journal on past e = respond-shown r key F h journal on later past e k.fixed k.from k.next is same turns in
        record {
          still = not_both (mode r (r.named F) past) opened;
          up = omega (arith, t);
          clearing = λ o mine. record { above = omega (arith, t); chain = a.supported; top = a.turn ∙ sym t };
        }
    raised (ops.Call (Refute fixed next)) same nope =
        let fixed_is : fixed ≡ F = fixed-is r key F h journal on later past e fixed (ops.Call (Refute fixed next)) is turns same refl in
        let ok = subst (λ (G : FixedParts). Refutes r past G next) fixed_is (refute_ok r past fixed next (taken r past e (Refute fixed next) legal same took)) in
        let t : (row r (r.named F) (e ∷ past)).turn ≡ (row r (r.named F) past).turn = ap (λ (x : Row). x.turn) (new-row (ops.Call (Refute fixed next)) same) in
        record {
          still = not_both (mode r (r.named F) past) ok.challenged;
          up = omega (arith, t);
          clearing = λ opened mine. absurd (refuted fixed next same fixed_is ok mine (open_one r key F h journal on (later ++ e ∷ []) past is' opened));
        }
      where
        -- a refute of the participant's own challenge has a state that it signed after it
        refuted : (fixed : FixedParts) (next : Signed) → e.op ≡ ops.Call (Refute fixed next) → fixed ≡ F → Refutes r past F next → (row r (r.named F) past).challenger ≡ on.me → Opened r key F h journal on past → ⊥
        refuted fixed next same fixed_is ok mine m =
            let who : m.who ≡ on.me = sym (ap (λ (x : Row). x.challenger) m.row_is) ∙ mine in
            let low : top_made (r.named F) journal ≤ top_turn m.chain.states = own-high past m who in
            let at : (row r (r.named F) past).turn ≡ top_turn m.chain.states = ap (λ (x : Row). x.turn) m.row_is in
            let signed : r.verifies key (message_of_state (r.digest (r.named F) next.state)) next.signature ≡ true =
            by-key r key F h journal on (message_of_state (r.digest (r.named F) next.state)) next.signature
            (subst (λ (j : ℕ). signs_state r F j next.state next.signature ≡ true) (ok.mover_is ∙ mine) ok.well) in
            let l = made-line r key F h journal on later past e fixed next is (ap fixed_of same) fixed_is (subst (λ (o : Op). In next (signed_in o)) (sym same) (inl refl)) signed in
            let high : l.signed.state.turn ≤ top_made (r.named F) journal = made-below (r.named F) journal l.line l.signed l.there l.made in
            let eq : next.state.turn ≡ l.signed.state.turn = ap (λ (x : StateParts). x.turn) l.same in
            let newer : (row r (r.named F) past).turn < next.state.turn = ok.newer in
            omega (arith, low, at, high, eq, newer)
    raised (ops.Call (Checkpoint chain)) same nope =
        let fixed : chain.fixed ≡ F = fixed-is r key F h journal on later past e chain.fixed (ops.Call (Checkpoint chain)) is turns same refl in
        let ok = checkpoint_ok r past chain (taken r past e (Checkpoint chain) legal same took) in
        let lt : (row r (r.named F) past).turn < top_turn chain.states = subst (λ (G : FixedParts). (row r (r.named G) past).turn < top_turn chain.states) fixed ok.newer in
        let t : (row r (r.named F) (e ∷ past)).turn ≡ top_turn chain.states = ap (λ (x : Row). x.turn) (new-row (ops.Call (Checkpoint chain)) same) in
        record {
          still = subst (λ (G : FixedParts). is_final (mode r (r.named G) past) ≡ false) fixed ok.still;
          up = omega (arith, t, lt);
          clearing = λ opened mine. by-chain (ops.Call (Checkpoint chain)) chain same fixed refl refl ok.supported lt;
        }
    raised (ops.Call (Conclude chain)) same nope = cc
    raised _ same nope = let k = subst (λ (o : Op). is_named r (r.named F) (fixed_of o) ≡ true) same (and-right (is_accepted e.reply) (is_named r (r.named F) (fixed_of e.op)) turns) in cc

  -- ---- counting

  pub record Count (past : List Entry) : Type 0 where
    pub few : cleared r (r.named F) on.me past + 1 ≤ people F
    pub low : is_final (mode r (r.named F) past) ≡ false → (cleared r (r.named F) on.me past ≡ 0) ⊎ (top_made (r.named F) journal + cleared r (r.named F) on.me past ≤ (row r (r.named F) past).turn)

  -- an entry that clears nothing
  same-count : (past : List Entry) (e : Entry) → clears r (r.named F) on.me past e ≡ false → cleared r (r.named F) on.me (e ∷ past) ≡ cleared r (r.named F) on.me past
  same-count past e nope = cond-false (clears r (r.named F) on.me past e) (suc (cleared r (r.named F) on.me past)) (cleared r (r.named F) on.me past) nope

  pub count : (later past : List Entry) → h ≡ later ++ past → Count past
  count later [] is = record { few = (let small : on.me < people F = on.small in omega arith); low = λ f. inl refl }
  count later (e ∷ past) is = by_turn (turning r (r.named F) e) refl (count (later ++ e ∷ []) past (is ∙ append_assoc' later (e ∷ []) past))
    where
      by_turn : (b : Bool) → turning r (r.named F) e ≡ b → Count past → Count (e ∷ past)
      by_turn false quiet old =
          let n : cleared r (r.named F) on.me (e ∷ past) ≡ cleared r (r.named F) on.me past = same-count past e (ap (λ (b : Bool). (b && not (is_conclude e.op)) && (is_challenged (mode r (r.named F) past) && ((row r (r.named F) past).challenger == on.me))) quiet) in
          let w : row r (r.named F) (e ∷ past) ≡ row r (r.named F) past = cond-false (turning r (r.named F) e) (turned r (now_of past) e.op (row r (r.named F) past)) (row r (r.named F) past) quiet in
          let up : now_of past ≤ now_of (e ∷ past) = now-rises r (e ∷ []) past (legal-suffix r later (e ∷ past) (subst (Legal r) is on.legal)) in
          record {
            few = (let f : cleared r (r.named F) on.me past + 1 ≤ people F = old.few in omega (arith, n));
            low = λ f. keep n w (old.low (final-stays (row r (r.named F) past).deadline (now_of past) (now_of (e ∷ past)) up (subst (λ (x : Row). is_final (mode_at x.deadline (now_of (e ∷ past))) ≡ false) w f)));
          }
        where
          keep : cleared r (r.named F) on.me (e ∷ past) ≡ cleared r (r.named F) on.me past → row r (r.named F) (e ∷ past) ≡ row r (r.named F) past
              → (cleared r (r.named F) on.me past ≡ 0) ⊎ (top_made (r.named F) journal + cleared r (r.named F) on.me past ≤ (row r (r.named F) past).turn)
              → (cleared r (r.named F) on.me (e ∷ past) ≡ 0) ⊎ (top_made (r.named F) journal + cleared r (r.named F) on.me (e ∷ past) ≤ (row r (r.named F) (e ∷ past)).turn)
          keep n w (inl z) = inl (n ∙ z)
          keep n w (inr l) = let t : (row r (r.named F) (e ∷ past)).turn ≡ (row r (r.named F) past).turn = ap (λ (x : Row). x.turn) w in inr (omega (arith, n, l, t))
      by_turn true turns old = by_kind (is_conclude e.op) refl
        where
          -- a conclude makes the channel final and clears nothing
          concluded : (op : Op) → e.op ≡ op → is_conclude op ≡ true → is_final (mode r (r.named F) (e ∷ past)) ≡ true
          concluded (ops.Call (Conclude chain)) same so =
              subst (λ (x : Row). is_final (mode_at x.deadline (now_of (e ∷ past))) ≡ true) (sym (new-row later past e is turns (ops.Call (Conclude chain)) same))
              (subst (λ (t : ℕ). is_final (mode_at (Some (now_of past)) t) ≡ true) (sym (ap (λ (o : Op). or_before (time_set o e.reply) (now_of past)) same)) (past-now (now_of past)))
          concluded _ same so = cc

          counted : Raised past e → (b : Bool) → clears r (r.named F) on.me past e ≡ b → Count (e ∷ past)
          counted up false nope =
              let n : cleared r (r.named F) on.me (e ∷ past) ≡ cleared r (r.named F) on.me past = same-count past e nope in
              record {
                few = (let f : cleared r (r.named F) on.me past + 1 ≤ people F = old.few in omega (arith, n));
                low = λ f. keep n (old.low up.still);
              }
            where
              keep : cleared r (r.named F) on.me (e ∷ past) ≡ cleared r (r.named F) on.me past → (cleared r (r.named F) on.me past ≡ 0) ⊎ (top_made (r.named F) journal + cleared r (r.named F) on.me past ≤ (row r (r.named F) past).turn)
                  → (cleared r (r.named F) on.me (e ∷ past) ≡ 0) ⊎ (top_made (r.named F) journal + cleared r (r.named F) on.me (e ∷ past) ≤ (row r (r.named F) (e ∷ past)).turn)
              keep n (inl z) = inl (n ∙ z)
              keep n (inr l) = let u : (row r (r.named F) past).turn ≤ (row r (r.named F) (e ∷ past)).turn = up.up in inr (omega (arith, n, l))
          counted up true so = done (up.clearing opened mine) (open_one r key F h journal on (later ++ e ∷ []) past (is ∙ append_assoc' later (e ∷ []) past) opened) (old.low up.still)
            where
              tests : (is_challenged (mode r (r.named F) past) && ((row r (r.named F) past).challenger == on.me)) ≡ true
              tests = and-right (turning r (r.named F) e && not (is_conclude e.op)) (is_challenged (mode r (r.named F) past) && ((row r (r.named F) past).challenger == on.me)) so

              opened : is_challenged (mode r (r.named F) past) ≡ true
              opened = and-left (is_challenged (mode r (r.named F) past)) ((row r (r.named F) past).challenger == on.me) tests

              mine : (row r (r.named F) past).challenger ≡ on.me
              mine = eqb-true (row r (r.named F) past).challenger on.me (and-right (is_challenged (mode r (r.named F) past)) ((row r (r.named F) past).challenger == on.me) tests)

              one-more : cleared r (r.named F) on.me (e ∷ past) ≡ suc (cleared r (r.named F) on.me past)
              one-more = cond-true (clears r (r.named F) on.me past e) (suc (cleared r (r.named F) on.me past)) (cleared r (r.named F) on.me past) so

              done : ClearedBy past e → Opened r key F h journal on past → (cleared r (r.named F) on.me past ≡ 0) ⊎ (top_made (r.named F) journal + cleared r (r.named F) on.me past ≤ (row r (r.named F) past).turn) → Count (e ∷ past)
              done c m before =
                  let who : m.who ≡ on.me = sym (ap (λ (x : Row). x.challenger) m.row_is) ∙ mine in
                  let least : top_made (r.named F) journal ≤ top_turn m.chain.states = own-high past m who in
                  let at : (row r (r.named F) past).turn ≡ top_turn m.chain.states = ap (λ (x : Row). x.turn) m.row_is in
                  let base : top_made (r.named F) journal + cleared r (r.named F) on.me past ≤ (row r (r.named F) past).turn = either before least at in
                  let above : (row r (r.named F) past).turn < (row r (r.named F) (e ∷ past)).turn = c.above in
                  let end : top_turn (shown r (r.named F) past e).states < top_made (r.named F) journal + people F = bounded later past e is c.chain in
                  let top : top_turn (shown r (r.named F) past e).states ≡ (row r (r.named F) (e ∷ past)).turn = c.top in
                  record {
                    few = omega (arith, one-more);
                    low = λ f. inr (omega (arith, one-more));
                  }
                where
                  either : (cleared r (r.named F) on.me past ≡ 0) ⊎ (top_made (r.named F) journal + cleared r (r.named F) on.me past ≤ (row r (r.named F) past).turn)
                      → top_made (r.named F) journal ≤ top_turn m.chain.states → (row r (r.named F) past).turn ≡ top_turn m.chain.states → top_made (r.named F) journal + cleared r (r.named F) on.me past ≤ (row r (r.named F) past).turn
                  either (inl z) l q = omega arith
                  either (inr k) l q = k

          by_kind : (b : Bool) → is_conclude e.op ≡ b → Count (e ∷ past)
          by_kind true so =
              let n : cleared r (r.named F) on.me (e ∷ past) ≡ cleared r (r.named F) on.me past = same-count past e (no-clear (turning r (r.named F) e) (is_conclude e.op) so) in
              record {
                few = (let f : cleared r (r.named F) on.me past + 1 ≤ people F = old.few in omega (arith, n));
                low = λ f. absurd (clash (is_final (mode r (r.named F) (e ∷ past))) (concluded e.op refl so) f);
              }
            where
              no-clear : (a b : Bool) → b ≡ true → ((a && not b) && (is_challenged (mode r (r.named F) past) && ((row r (r.named F) past).challenger == on.me))) ≡ false
              no-clear true true h = refl
              no-clear false true h = refl
              no-clear a false h = cc
          by_kind false nope = counted (raised later past e is turns e.op refl nope) (clears r (r.named F) on.me past e) refl

pub few-cleared : (r : Rules) (key : List ℕ) (h : List Entry) (journal : List Line) → KeepsFinal r → Legal r h → Honest r key h journal → Unforged r key h journal → NoCollision r h journal → AreValid h journal → FewAreCleared r key h journal
few-cleared r key h journal keeps lawful honest unforged distinct valid F channel =
    subst (λ (me : ℕ). cleared r (r.named F) me h + 1 ≤ people F) (setting-me r key h journal keeps lawful honest unforged distinct valid F (length h) channel)
    (count r key F h journal (setting r key h journal keeps lawful honest unforged distinct valid F (length h) channel) [] h refl).few
