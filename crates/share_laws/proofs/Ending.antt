-- The supported chain with whose outcome a channel becomes final, and the steps that it has after the participant's
-- own state.
use Rattle.std.proofs.Common.{◌≡◌, ◌≢◌, ℕ, zero, suc, ◌+◌, ◌*◌, ◌<◌, ◌≤◌, true, List, [], ◌∷◌, ◌++◌, ◌⊎◌, inl, inr, length, refl, sym, ◌∙◌, ap, subst, arith}
use Rattle.std.specs.Prelude.{Option, Some}
use Rattle.std.specs.List.{slice_get, AllByRecursion}
use Rattle.channel_values.specs.Parts.{FixedParts, StateParts, IsState}
use Rattle.channel_values.specs.declared.chain.Mark.{Mark}
use Rattle.channel_values.specs.Rows.{mover, last_of, last_turn}
use Rattle.channel_values.proofs.Rows.{others_move}
use Rattle.channel_values.specs.Rules.{Rules, people, turn_of, outcome_or_none, top_turn, top_outcome, KeepsFinal}
use Rattle.channel_values.specs.Supported.{Rises, AreSteps}
use Rattle.channel_values.proofs.Turns.{last_turn_greatest}
use Rattle.call_history.specs.Rows.{turned, fixed_of}
use Rattle.call_history.specs.History.{Legal, is_accepted, is_named, now_of, turning, row, settles, settled}
use Rattle.call_history.specs.Marked.{Marked, nothing, marked_of, is_supported}
use Rattle.call_history.specs.Shown.{shown_by, shown}
use Rattle.call_history.specs.Calls.{make_challenge}
use Rattle.call_history.specs.declared.call.Call.TheVariants.{Conclude}
use Rattle.call_history.specs.declared.call.Op.{Op}
use Rattle.call_history.specs.declared.call.Op.TheVariants as ops
use Rattle.call_history.specs.declared.row.Row.{Row}
use Rattle.call_history.specs.declared.entry.Entry.{Entry}
use Rattle.channel_safety.specs.Good.{InTurn, InSteps}
use Rattle.channel_safety.specs.Journals.{Line}
use Rattle.channel_safety.specs.Steps.{StepsAfter}
use Rattle.channel_safety.proofs.Tests.{cond-false, cond-true, and-left, some-eq, none-eq}
use Rattle.channel_safety.proofs.Lists.{In-get, append_assoc', get-within, get-some, length-up}
use Rattle.channel_safety.proofs.Replies.{taken, conclude_ok, challenge_ok}
use Rattle.channel_safety.proofs.Chains.{AreStates, Stood, Parts, parts, turn_at, top_at, to_mark, final_at, all_final-at, late_at, OwnState}
use Rattle.channel_safety.proofs.Rowing.{row-quiet, settled-quiet, legal-suffix}
use Rattle.channel_safety.proofs.Final.{Concluded, Expired, Running, running}
use Rattle.channel_safety.proofs.Safe.{Setting}
use Rattle.channel_safety.proofs.Headline.{fixed-is}

pub record EndsBy (r : Rules) (F : FixedParts) (h : List Entry) (e : Entry) (past : List Entry) : Type 0 where
  pub later : List Entry
  pub entry : Entry
  pub older : List Entry
  pub is : h ≡ later ++ entry ∷ older
  pub early : length older ≤ length past
  pub chain : is_supported r F (shown r (r.named F) older entry) ≡ true
  pub outcome : settled r (r.named F) (e ∷ past) ≡ Some (top_outcome (shown r (r.named F) older entry).states)
  pub turn : (row r (r.named F) (e ∷ past)).turn ≡ top_turn (shown r (r.named F) older entry).states

module _ (r : Rules) (key : List ℕ) (F : FixedParts) (h : List Entry) (journal : List Line) (on : Setting r key F h journal) (later past : List Entry) (e : Entry) (is : h ≡ later ++ e ∷ past) where
  pub by_conclude : Concluded r (r.named F) e → EndsBy r F h e past
  by_conclude c =
      record {
        later = later;
        entry = e;
        older = past;
        is = is;
        early = omega arith;
        chain = subst (λ (w : Marked). is_supported r F w ≡ true) (sym shows) (subst (λ (G : FixedParts). is_supported r G (marked_of c.chain) ≡ true) fixed ok);
        outcome =
            cond-true (turning r (r.named F) e) (settles e.op (settled r (r.named F) past)) (settled r (r.named F) past) c.turns
            ∙ (ap (λ (x : Op). settles x (settled r (r.named F) past)) c.op
            ∙ ap (λ (w : Marked). Some (top_outcome w.states)) (sym shows));
        turn =
            ap (λ (x : Row). x.turn) (cond-true (turning r (r.named F) e) (turned r (now_of past) e.op (row r (r.named F) past)) (row r (r.named F) past) c.turns)
            ∙ (ap (λ (x : Op). (turned r (now_of past) x (row r (r.named F) past)).turn) c.op
            ∙ ap (λ (w : Marked). top_turn w.states) (sym shows));
      }
    where
      legal : Legal r (e ∷ past)
      legal = legal-suffix r later (e ∷ past) (subst (Legal r) is on.legal)

      ok : is_supported r c.chain.fixed (marked_of c.chain) ≡ true
      ok = (conclude_ok r past c.chain (taken r past e (Conclude c.chain) legal c.op (and-left (is_accepted e.reply) (is_named r (r.named F) (fixed_of e.op)) c.turns))).0

      fixed : c.chain.fixed ≡ F
      fixed = fixed-is r key F h journal on later past e c.chain.fixed (ops.Call (Conclude c.chain)) is c.turns c.op refl

      shows : shown r (r.named F) past e ≡ marked_of c.chain
      shows = cond-true (turning r (r.named F) e) (shown_by r (r.named F) past e.op) nothing c.turns ∙ ap (shown_by r (r.named F) past) c.op

  pub by_time : Expired r (r.named F) e past → EndsBy r F h e past
  by_time x = run (running r (r.named F) past x.deadline legal x.before x.recorded)
    where
      is' : h ≡ (later ++ e ∷ []) ++ past
      is' = is ∙ append_assoc' later (e ∷ []) past

      legal : Legal r past
      legal = legal-suffix r (later ++ e ∷ []) past (subst (Legal r) is' on.legal)

      run : Running r (r.named F) past x.deadline → EndsBy r F h e past
      run m =
          record {
            later = later ++ e ∷ m.mid;
            entry = m.entry;
            older = m.older;
            is = m-is;
            early = subst (λ (z : List Entry). length m.older ≤ length z) (sym m.split) (let a : length (m.entry ∷ m.older) ≤ length (m.mid ++ m.entry ∷ m.older) = length-up m.mid (m.entry ∷ m.older) in omega arith);
            chain = subst (λ (w : Marked). is_supported r F w ≡ true) (sym shows) (subst (λ (G : FixedParts). is_supported r G (marked_of m.chain) ≡ true) fixed ok);
            outcome =
                cond-false (turning r (r.named F) e) (settles e.op (settled r (r.named F) past)) (settled r (r.named F) past) x.quiet
                ∙ (ap (settled r (r.named F)) m.split
                ∙ (settled-quiet r (r.named F) m.mid (m.entry ∷ m.older) m.quiet
                ∙ (cond-true (turning r (r.named F) m.entry) (settles m.entry.op (settled r (r.named F) m.older)) (settled r (r.named F) m.older) m.turns
                ∙ (ap (λ (o : Op). settles o (settled r (r.named F) m.older)) m.op
                ∙ ap (λ (w : Marked). Some (top_outcome w.states)) (sym shows)))));
            turn =
                ap (λ (z : Row). z.turn) (cond-false (turning r (r.named F) e) (turned r (now_of past) e.op (row r (r.named F) past)) (row r (r.named F) past) x.quiet
                ∙ (ap (row r (r.named F)) m.split
                ∙ (row-quiet r (r.named F) m.mid (m.entry ∷ m.older) m.quiet
                ∙ cond-true (turning r (r.named F) m.entry) (turned r (now_of m.older) m.entry.op (row r (r.named F) m.older)) (row r (r.named F) m.older) m.turns)))
                ∙ (ap (λ (o : Op). (turned r (now_of m.older) o (row r (r.named F) m.older)).turn) m.op
                ∙ ap (λ (w : Marked). top_turn w.states) (sym shows));
          }
        where
          m-is : h ≡ (later ++ e ∷ m.mid) ++ m.entry ∷ m.older
          m-is = is ∙ (ap (λ (z : List Entry). later ++ e ∷ z) m.split ∙ append_assoc' later (e ∷ m.mid) (m.entry ∷ m.older))

          m-legal : Legal r (m.entry ∷ m.older)
          m-legal = legal-suffix r (later ++ e ∷ m.mid) (m.entry ∷ m.older) (subst (Legal r) m-is on.legal)

          fixed : m.chain.fixed ≡ F
          fixed = fixed-is r key F h journal on (later ++ e ∷ m.mid) m.older m.entry m.chain.fixed (ops.Call (make_challenge m.chain m.who m.sig)) m-is m.turns m.op refl

          ok : is_supported r m.chain.fixed (marked_of m.chain) ≡ true
          ok = (challenge_ok r m.older m.chain m.who m.sig (taken r m.older m.entry (make_challenge m.chain m.who m.sig) m-legal m.op (and-left (is_accepted m.entry.reply) (is_named r (r.named F) (fixed_of m.entry.op)) m.turns))).supported

          shows : shown r (r.named F) m.older m.entry ≡ marked_of m.chain
          shows = cond-true (turning r (r.named F) m.entry) (shown_by r (r.named F) m.older m.entry.op) nothing m.turns ∙ ap (shown_by r (r.named F) m.older) m.op

-- ---- the steps after the participant's own state, all of them states

pub record OwnSteps (r : Rules) (F : FixedParts) (me : ℕ) (w : Marked) : Type 0 where
  pub own : OwnState r F me w
  pub valid : IsState own.signed.state
  pub rest : List StateParts
  pub states : AllByRecursion IsState rest
  pub turns : Rises own.signed.state rest
  pub steps : AreSteps r F own.signed.state rest
  pub few : length rest < people F
  pub others : AllByRecursion (λ t. mover (people F) t.turn ≢ me) rest
  pub ends : top_outcome w.states ≡ (last_of own.signed.state rest).outcome

pub record After (r : Rules) (F : FixedParts) (states : List StateParts) (s : StateParts) : Type 0 where
  pub after : StepsAfter r F states s
  pub all : AllByRecursion IsState after.rest

all-states : (xs : List StateParts) → AreStates xs → AllByRecursion IsState xs
all-states [] h = tt
all-states (x ∷ xs) h = (h x (inl refl), all-states xs (λ y i. h y (inr i)))

after_at : (r : Rules) (F : FixedParts) (s : StateParts) (rest : List StateParts) (i : ℕ) (x : StateParts) → Rises s rest → AreSteps r F s rest → slice_get (s ∷ rest) i ≡ Some x →
    length rest < people F → AreStates (s ∷ rest) → After r F (s ∷ rest) x
after_at r F s rest zero x turns steps e few valid =
    subst (λ (y : StateParts). After r F (s ∷ rest) y) (some-eq s x e)
    (record { after = record { rest = rest; turns = turns; steps = steps; ends = refl; few = few }; all = all-states rest (λ y i. valid y (inr i)) })
after_at r F s [] (suc i) x turns steps e few valid = absurd (none-eq x e)
after_at r F s (t ∷ rest) (suc i) x turns steps e few valid =
    let a = after_at r F t rest i x turns.1 steps.1 e (omega arith) (λ y j. valid y (inr j)) in
    record { after = record { rest = a.after.rest; turns = a.after.turns; steps = a.after.steps; ends = a.after.ends; few = a.after.few }; all = a.all }

pub own_steps : (r : Rules) → KeepsFinal r → (F : FixedParts) (me : ℕ) (w : Marked) → me < people F → AreStates w.states → is_supported r F w ≡ true → OwnSteps r F me w
own_steps r keeps F me w small valid h = at_mark (parts r F w h)
  where
    on_state : (states : List StateParts) → AreStates states → (m : Mark) → slice_get w.marks me ≡ Some m → Stood r F (top_turn states) me m (slice_get states m.place)
        → InTurn states → InSteps r F states → people F ≤ top_turn states + 1 → length states ≤ people F → OwnSteps r F me (record { states = states; marks = w.marks })
    on_state [] valid m e s turns steps up few = absurd (none-eq s.state s.is)
    on_state (a ∷ rest) valid m e s turns steps up few =
        let at : s.state.turn ≡ a.turn + m.place = turn_at a rest m.place s.state turns s.is in
        let top : (last_of a rest).turn ≡ a.turn + length rest = top_at a rest turns in
        let within : m.place < length (a ∷ rest) = get-within (a ∷ rest) m.place s.state s.is in
        let from : last_turn (people F) me (last_of a rest).turn ≤ s.state.turn = s.from in
        let x : After r F (a ∷ rest) s.state = after_at r F a rest m.place s.state turns steps s.is (omega (arith, few)) valid in
        record {
          own = record {
            signed = record { state = s.state; signature = m.signature };
            there = to_mark (a ∷ rest) w.marks me m s.state e s.is;
            well = s.well;
            latest = λ turn mover high. (let g : turn ≤ last_turn (people F) me (last_of a rest).turn = last_turn_greatest (people F) me (last_of a rest).turn turn high mover in omega (arith, from));
            high = omega (arith, at, top, within);
            carries = λ f. final_at r keeps F a rest m.place s.state valid steps s.is f;
            after = x.after;
            final = λ f. all_final-at (a ∷ rest) m.place s.state f s.is;
            late = λ f. not_early (late_at r keeps F a rest m.place s.state turns steps f s.is);
          };
          valid = state-at (a ∷ rest) m.place valid s.is;
          rest = x.after.rest;
          states = x.all;
          turns = x.after.turns;
          steps = x.after.steps;
          few = x.after.few;
          others =
              others_move (people F) me (last_of a rest).turn s.state x.after.rest x.after.turns
              (let top : (last_of a rest).turn ≡ (last_of s.state x.after.rest).turn = ap turn_of x.after.ends in omega (arith, top)) from;
          ends = ap (λ (o : Option StateParts). outcome_or_none o) x.after.ends;
        }
      where
        not_early : (s.state.turn ≡ (last_of a rest).turn) ⊎ (2 * people F ≤ s.state.turn + 1) → people F ≤ s.state.turn + 1
        not_early (inl e) = omega (arith, up)
        not_early (inr l) = omega arith

        state-at : (states : List StateParts) (i : ℕ) → AreStates states → slice_get states i ≡ Some s.state → IsState s.state
        state-at states i v g = v s.state (In-get states i s.state g)

    at_mark : Parts r F w → OwnSteps r F me w
    at_mark p = go (get-some w.marks me (let n : length w.marks ≡ people F = p.marks in omega arith))
      where
        go : (m : Mark) × (slice_get w.marks me ≡ Some m) → OwnSteps r F me w
        go m = on_state w.states valid m.0 m.1 (p.stand me m.0 m.1) p.turns p.steps p.high p.few
