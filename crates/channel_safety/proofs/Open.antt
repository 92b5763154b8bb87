-- A challenge that is open: its chain is the one that the row is of, and what an accepted respond shows is supported.
use Rattle.std.proofs.Common.{◌≡◌, ℕ, ◌+◌, ◌<◌, ◌≤◌, Bool, true, false, cond, List, [], ◌∷◌, ◌++◌, inl, inr, length, refl, sym, ◌∙◌, ap, subst, arith}
use Rattle.std.specs.Prelude.{nat_le, Option, Some, None}
use Rattle.channel_values.specs.Parts.{FixedParts, StateParts}
use Rattle.channel_values.specs.declared.chain.Chain.{Chain}
use Rattle.channel_values.specs.declared.chain.Signed.{Signed}
use Rattle.call_history.specs.Mode.{mode_at, is_challenged}
use Rattle.call_history.specs.declared.standing.Standing.TheVariants.{Challenged, Final}
use Rattle.channel_values.specs.Rows.{last_of}
use Rattle.channel_values.specs.Rules.{Rules, newest, turn_of, top_turn, digest_of, top_digest, signs_challenge}
use Rattle.call_history.specs.Rows.{fixed_of, turned, after_challenge}
use Rattle.call_history.specs.History.{Legal, is_accepted, is_named, now_of, turning, row, mode}
use Rattle.call_history.specs.Marked.{Marked, nothing, marked_of, is_supported, answered}
use Rattle.call_history.specs.Shown.{challenge_in, challenged, shown_by, shown}
use Rattle.call_history.specs.Calls.{make_challenge, make_respond}
use Rattle.call_history.specs.declared.call.Op.{Op}
use Rattle.call_history.specs.declared.call.Op.TheVariants as ops
use Rattle.call_history.specs.declared.row.Row.{Row}
use Rattle.call_history.specs.declared.entry.Entry.{Entry}
use Rattle.channel_safety.specs.Journals.{In, Line}
use Rattle.channel_safety.specs.Strings.{states_in}
use Rattle.channel_safety.specs.Occurring.{in_call}
use Rattle.channel_safety.proofs.Tests.{cond-false, cond-true, and-left, le-false}
use Rattle.channel_safety.proofs.Lists.{In-append_right, append_assoc'}
use Rattle.channel_safety.proofs.Rowing.{row-quiet, legal-suffix}
use Rattle.channel_safety.proofs.Replies.{taken, Challenges, challenge_ok, Responds, respond_ok}
use Rattle.channel_safety.proofs.Chains.{newest-in, parts}
use Rattle.channel_safety.proofs.Final.{Running, running}
use Rattle.channel_safety.proofs.Answering.{Answered, answered-supported}
use Rattle.channel_safety.proofs.Safe.{Setting}
use Rattle.channel_safety.proofs.Headline.{fixed-is}

-- where a channel is challenged, its deadline is ahead
ahead : (d : Option ℕ) (now : ℕ) → is_challenged (mode_at d now) ≡ true → (x : ℕ) × (d ≡ Some x) × (now < x)
ahead None now h = cc
ahead (Some d) now h = go (nat_le d now) refl h
  where
    go : (b : Bool) → nat_le d now ≡ b → is_challenged (cond b Final Challenged) ≡ true → (x : ℕ) × (Some d ≡ Some x) × (now < x)
    go true e k = cc
    go false e k = (d, refl, le-false d now e)

challenged-quiet : (r : Rules) (c : List ℕ) (mid past : List Entry) → ((q : Entry) → In q mid → turning r c q ≡ false) → challenged r c (mid ++ past) ≡ challenged r c past
challenged-quiet r c [] past quiet = refl
challenged-quiet r c (e ∷ mid) past quiet =
    cond-false (turning r c e) (challenge_in e.op (challenged r c (mid ++ past))) (challenged r c (mid ++ past)) (quiet e (inl refl)) ∙ challenged-quiet r c mid past (λ q i. quiet q (inr i))

module _ (r : Rules) (key : List ℕ) (F : FixedParts) (h : List Entry) (journal : List Line) (on : Setting r key F h journal) where
  -- the challenge that is open
  pub record Opened (past : List Entry) : Type 0 where
    pub later : List Entry
    pub entry : Entry
    pub older : List Entry
    pub is : h ≡ later ++ entry ∷ older
    pub chain : Chain
    pub who : ℕ
    pub sig : List ℕ
    pub op : entry.op ≡ ops.Call (make_challenge chain who sig)
    pub fixed : chain.fixed ≡ F
    pub supported : is_supported r F (marked_of chain) ≡ true
    pub signed : signs_challenge r F chain.states who sig ≡ true
    pub row_is : row r (r.named F) past ≡ after_challenge r (now_of older) chain who
    pub chain_is : challenged r (r.named F) past ≡ marked_of chain

  pub open_one : (later past : List Entry) → h ≡ later ++ past → is_challenged (mode r (r.named F) past) ≡ true → Opened past
  open_one later past is still = by (ahead (row r (r.named F) past).deadline (now_of past) still)
    where
      legal : Legal r past
      legal = legal-suffix r later past (subst (Legal r) is on.legal)

      by : (x : ℕ) × ((row r (r.named F) past).deadline ≡ Some x) × (now_of past < x) → Opened past
      by x = go (running r (r.named F) past x.0 legal x.2 x.1)
        where
          go : Running r (r.named F) past x.0 → Opened past
          go m =
              record {
                later = later ++ m.mid;
                entry = m.entry;
                older = m.older;
                is = m-is;
                chain = m.chain;
                who = m.who;
                sig = m.sig;
                op = m.op;
                fixed = m-fixed;
                supported = subst (λ (G : FixedParts). is_supported r G (marked_of m.chain) ≡ true) m-fixed ok.supported;
                signed = subst (λ (G : FixedParts). signs_challenge r G m.chain.states m.who m.sig ≡ true) m-fixed ok.signed;
                row_is =
                    ap (row r (r.named F)) m.split
                    ∙ (row-quiet r (r.named F) m.mid (m.entry ∷ m.older) m.quiet
                    ∙ (cond-true (turning r (r.named F) m.entry) (turned r (now_of m.older) m.entry.op (row r (r.named F) m.older)) (row r (r.named F) m.older) m.turns
                    ∙ ap (λ (o : Op). turned r (now_of m.older) o (row r (r.named F) m.older)) m.op));
                chain_is =
                    ap (challenged r (r.named F)) m.split
                    ∙ (challenged-quiet r (r.named F) m.mid (m.entry ∷ m.older) m.quiet
                    ∙ (cond-true (turning r (r.named F) m.entry) (challenge_in m.entry.op (challenged r (r.named F) m.older)) (challenged r (r.named F) m.older) m.turns
                    ∙ ap (λ (o : Op). challenge_in o (challenged r (r.named F) m.older)) m.op));
              }
            where
              m-is : h ≡ (later ++ m.mid) ++ m.entry ∷ m.older
              m-is = is ∙ (ap (λ (z : List Entry). later ++ z) m.split ∙ append_assoc' later m.mid (m.entry ∷ m.older))

              m-legal : Legal r (m.entry ∷ m.older)
              m-legal = legal-suffix r (later ++ m.mid) (m.entry ∷ m.older) (subst (Legal r) m-is on.legal)

              m-fixed : m.chain.fixed ≡ F
              m-fixed = fixed-is r key F h journal on (later ++ m.mid) m.older m.entry m.chain.fixed (ops.Call (make_challenge m.chain m.who m.sig)) m-is m.turns m.op refl

              ok : Challenges r m.older m.chain m.who m.sig
              ok = challenge_ok r m.older m.chain m.who m.sig (taken r m.older m.entry (make_challenge m.chain m.who m.sig) m-legal m.op (and-left (is_accepted m.entry.reply) (is_named r (r.named F) (fixed_of m.entry.op)) m.turns))

  -- an accepted respond shows the challenged chain with its answer, which is supported, one turn on
  pub record Answers (past : List Entry) (e : Entry) : Type 0 where
    pub supported : is_supported r F (shown r (r.named F) past e) ≡ true
    pub turn : top_turn (shown r (r.named F) past e).states ≡ (row r (r.named F) past).turn + 1

  pub respond-shown : (later past : List Entry) (e : Entry) (fixed : FixedParts) (before : StateParts) (next : Signed) → h ≡ later ++ e ∷ past → e.op ≡ ops.Call (make_respond fixed before next) → turning r (r.named F) e ≡ true → Answers past e
  respond-shown later past e fixed before next is op turns = by_open (open_one (later ++ e ∷ []) past is' (subst (λ (G : FixedParts). is_challenged (mode r (r.named G) past) ≡ true) same-fixed ok.challenged))
    where
      is' : h ≡ (later ++ e ∷ []) ++ past
      is' = is ∙ append_assoc' later (e ∷ []) past

      legal : Legal r (e ∷ past)
      legal = legal-suffix r later (e ∷ past) (subst (Legal r) is on.legal)

      same-fixed : fixed ≡ F
      same-fixed = fixed-is r key F h journal on later past e fixed (ops.Call (make_respond fixed before next)) is turns op refl

      ok : Responds r past fixed before next
      ok = respond_ok r past fixed before next (taken r past e (make_respond fixed before next) legal op (and-left (is_accepted e.reply) (is_named r (r.named F) (fixed_of e.op)) turns))

      ok' : Responds r past F before next
      ok' = subst (λ (G : FixedParts). Responds r past G before next) same-fixed ok

      by_open : Opened past → Answers past e
      by_open m = at_top m.chain.states refl (parts r F (marked_of m.chain) m.supported).some
        where
          at_top : (states : List StateParts) → m.chain.states ≡ states → 1 ≤ length states → Answers past e
          at_top [] q some = absurd (omega arith)
          at_top (a ∷ rest) q some =
              record {
                supported = subst (λ (w : Marked). is_supported r F w ≡ true) (sym shows) done.chain;
                turn = ap (λ (w : Marked). top_turn w.states) shows ∙ (ap turn_of done.ends ∙ ok'.turn);
              }
            where
              top-is : newest m.chain.states ≡ Some (last_of a rest)
              top-is = ap newest q

              digest : (row r (r.named F) past).state_digest ≡ r.digest (r.named F) (last_of a rest)
              digest = ap (λ (x : Row). x.state_digest) m.row_is ∙ (ap (λ (G : FixedParts). top_digest r G m.chain.states) m.fixed ∙ ap (digest_of r F) top-is)

              in_m : In m.entry h
              in_m = subst (In m.entry) (sym m.is) (In-append_right m.entry m.later (m.entry ∷ m.older) (inl refl))

              in_e : In e h
              in_e = subst (In e) (sym is) (In-append_right e later (e ∷ past) (inl refl))

              same : before ≡ last_of a rest
              same =
                  (on.distinct.states (r.named F) (r.named F) before (last_of a rest)
                  (in_call e fixed in_e (ap fixed_of op) (ap r.named same-fixed) (subst (λ (o : Op). In before (states_in o)) (sym op) (inl refl)))
                  (in_call m.entry m.chain.fixed in_m (ap fixed_of m.op) (ap r.named m.fixed)
                  (subst (λ (o : Op). In (last_of a rest) (states_in o)) (sym m.op) (subst (In (last_of a rest)) (sym q) (newest-in a rest))))
                  (ok'.same ∙ digest)).1

              turn : next.state.turn ≡ (last_of a rest).turn + 1
              turn = ok'.turn ∙ (ap (λ (x : Row). x.turn + 1) m.row_is ∙ ap (λ (o : Option StateParts). turn_of o + 1) top-is)

              done : Answered r F next (marked_of m.chain)
              done = answered-supported r F next (last_of a rest) (marked_of m.chain) m.supported top-is turn (subst (λ (x : StateParts). r.step F x next.state ≡ None) same ok'.step) ok'.well

              shows : shown r (r.named F) past e ≡ answered F next (marked_of m.chain)
              shows =
                  cond-true (turning r (r.named F) e) (shown_by r (r.named F) past e.op) nothing turns
                  ∙ (ap (shown_by r (r.named F) past) op ∙ (ap (answered fixed next) m.chain_is ∙ ap (λ (G : FixedParts). answered G next (marked_of m.chain)) same-fixed))
