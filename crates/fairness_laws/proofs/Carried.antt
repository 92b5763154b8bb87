-- Over the places of a history and a journal, by what the participant signed of the chains that are shown.
use Rattle.std.proofs.Common.{◌≡◌, ℕ, suc, ◌+◌, ◌*◌, ◌<◌, ◌≤◌, ◌==◌, Bool, true, false, cond, ◌&&◌, ◌⊎◌, List, [], ◌∷◌, ◌++◌, inl, inr, length, refl, sym, ◌∙◌, ap, subst, arith}
use Rattle.std.specs.Prelude.{Option, Some, None}
use Rattle.channel_values.specs.Parts.{FixedParts, StateParts}
use Rattle.channel_values.specs.declared.chain.Signed.{Signed}
use Rattle.channel_values.specs.declared.value.AssetOutcome.{AssetOutcome}
use Rattle.channel_values.specs.Rows.{last_of}
use Rattle.channel_values.specs.Rules.{people, newest, is_signed_well}
use Rattle.channel_values.specs.Supported.{Rises}
use Rattle.call_history.specs.Marked.{Marked, nothing, is_supported, answered, next_after, is_step, extends, extended, is_newer}
use Rattle.call_history.specs.Shown.{shown}
use Rattle.call_history.specs.declared.entry.Entry.{Entry}
use Rattle.channel_safety.specs.Held.{note, show, held}
use Rattle.channel_safety.specs.Good.{IsGood}
use Rattle.channel_safety.specs.Journals.{In, Line, opens, noted_in}
use Rattle.support_rules.specs.Real.{real}
use Rattle.support_rules.proofs.Finals.{real_keeps_final}
use Rattle.support_rules.specs.Steps.{step_fault}
use Rattle.channel_safety.proofs.Tests.{some-eq, none-eq, and-left, and-right, eqb-true, is-none, le_or_lt}
use Rattle.channel_safety.proofs.Chains.{OwnState, own_state, top_at}
use Rattle.channel_safety.proofs.ChainsGrow.{noted-good, nothing-young}
use Rattle.channel_safety.proofs.Lists.{append_assoc', In-append_right}
use Rattle.channel_safety.proofs.Headline.{setting}
use Rattle.channel_safety.proofs.Places.{slot-lasts, made-noted}
use Rattle.channel_safety.proofs.Safe.{Setting, MadeLine, Placed, placed, valid-shown, own_line}
use Rattle.fairness_laws.specs.Roots.{is_repeated}
use Rattle.fairness_laws.specs.Carried.{OpensWith, IsRepeatedIfAny, SetUpsAreCarried}
use Rattle.fairness_laws.proofs.Carrying.{once, from-first}

module _ (f : FixedParts) (opening : List AssetOutcome) where
  abbrev Repeats : Marked → Type 0
  Repeats w = (t : StateParts) → newest w.states ≡ Some t → t.turn < 2 * people f → is_repeated opening t ≡ true

  -- what is held is good and repeats the opening outcome
  abbrev Sets : Option Marked → Type 0
  Sets None = Unit {0}
  Sets (Some w) = IsGood real f w × Repeats w

  -- one more state
  module _ (one : 1 ≤ people f) where
    extended-sets : (s : Signed) (w : Marked) → (s.state.turn < people f → is_repeated opening s.state ≡ true) → Sets (Some w) → Sets (Some (extended real f (Some s) w))
    extended-sets s w first good = test (extends real f s w) refl
      where
        step : extends real f s w ≡ true → s.state.turn < 2 * people f → is_repeated opening s.state ≡ true
        step e up = by (newest w.states) refl
          where
            next : s.state.turn ≡ next_after (newest w.states)
            next = eqb-true s.state.turn (next_after (newest w.states)) (and-left (s.state.turn == next_after (newest w.states)) (is_signed_well real f s && is_step real f s.state (newest w.states)) e)

            follows : is_step real f s.state (newest w.states) ≡ true
            follows = and-right (is_signed_well real f s) (is_step real f s.state (newest w.states)) (and-right (s.state.turn == next_after (newest w.states)) (is_signed_well real f s && is_step real f s.state (newest w.states)) e)

            less : (a b c : ℕ) → a ≡ b + 1 → a < c → b < c
            less a b c p q = omega arith

            none : (a b : ℕ) → a ≡ 0 → 1 ≤ b → a < b
            none a b p q = omega arith

            by : (o : Option StateParts) → newest w.states ≡ o → is_repeated opening s.state ≡ true
            by None is = first (none s.state.turn (people f) (next ∙ ap next_after is) one)
            by (Some t) is =
                once f opening t s.state (is-none (step_fault f t s.state) (sym (ap (is_step real f s.state) is) ∙ follows)) up
                (good.1 t is (less s.state.turn t.turn (2 * people f) (next ∙ ap next_after is) up))

        test : (b : Bool) → extends real f s w ≡ b → Sets (Some (cond b (answered f s w) w))
        test false e = good
        test true e =
            let n = noted-good real f s w good.0 e in
            (n.good, λ t is up. subst (λ (x : StateParts). is_repeated opening x ≡ true) (newest-is n.ends is) (step e (subst (λ (x : StateParts). x.turn < 2 * people f) (sym (newest-is n.ends is)) up)))
          where
            newest-is : {t : StateParts} → newest (answered f s w).states ≡ Some s.state → newest (answered f s w).states ≡ Some t → s.state ≡ t
            newest-is {t} p q = some-eq s.state t (sym p ∙ q)

    noted-sets : (x : Line) (st : Option Marked) → ((s : Signed) → noted_in (real.named f) x.deed ≡ Some s → s.state.turn < people f → is_repeated opening s.state ≡ true) → Sets st → Sets (note real f x st)
    noted-sets x None first good = go (opens real (real.named f) x)
      where
        go : (b : Bool) → Sets (cond b (Some nothing) None)
        go true = (inl (nothing-young real f one), λ t is up. absurd (none-eq t is))
        go false = tt
    noted-sets x (Some w) first good = go (noted_in (real.named f) x.deed) refl
      where
        go : (o : Option Signed) → noted_in (real.named f) x.deed ≡ o → Sets (Some (extended real f o w))
        go None e = good
        go (Some s) e = extended-sets s w (first s e) good

  shown-sets : (chain : Marked) (st : Option Marked) → (is_supported real f chain ≡ true → Repeats chain) → Sets st → Sets (show real f chain st)
  shown-sets chain None carried good = tt
  shown-sets chain (Some w) carried good = go (is_newer real f chain w) refl
    where
      go : (b : Bool) → is_newer real f chain w ≡ b → Sets (Some (cond b chain w))
      go true e = let sup = and-left (is_supported real f chain) _ e in (inr sup, carried sup)
      go false e = good

-- ---- over the places

module _ (key : List ℕ) (F : FixedParts) (h : List Entry) (journal : List Line) (on : Setting real key F h journal) (opening : List AssetOutcome) (first : OpensWith F opening journal) where
  one : 1 ≤ people F
  one = let small : on.me < people F = on.small in omega arith

  -- at a place, for each beginning of the journal
  AtPlace : List Entry → Type 0
  AtPlace past = (newer front : List Line) → journal ≡ newer ++ front → Sets F opening (held real F past front)

  -- at this place and at all before it
  Before : List Entry → Type 0
  Before past = (later older : List Entry) → past ≡ later ++ older → AtPlace older

  notes : (newer front : List Line) → journal ≡ newer ++ front → (x : Line) → In x front → (st : Option Marked) → Sets F opening st → Sets F opening (note real F x st)
  notes newer front is x i st good = noted-sets F opening one x st (λ s n low. first x s (subst (In x) (sym is) (In-append_right x newer front i)) n low) good

  -- a shown chain, by the state of it that the participant signed
  shows : (later past : List Entry) (e : Entry) → h ≡ later ++ e ∷ past → Before past → is_supported real F (shown real (real.named F) past e) ≡ true → Repeats F opening (shown real (real.named F) past e)
  unfolding Before AtPlace
  shows later past e is before sup t newest-is up = with_line (own_line real key F h journal on later past e is own)
    where
      own : OwnState real F on.me (shown real (real.named F) past e)
      own = own_state real on.keeps F on.me (shown real (real.named F) past e) on.small (valid-shown real (real.named F) h journal on.valid later past e is) sup

      with_line : MadeLine real F journal (length past) own.signed.state → is_repeated opening t ≡ true
      with_line m =
          let after = own.after in
          let ends : last_of own.signed.state after.rest ≡ t = some-eq (last_of own.signed.state after.rest) t (sym after.ends ∙ newest-is) in
          let top : (last_of own.signed.state after.rest).turn < 2 * people F = subst (λ (x : StateParts). x.turn < 2 * people F) (sym ends) up in
          subst (λ (x : StateParts). is_repeated opening x ≡ true) ends
          (from-first F opening own.signed.state after.rest after.turns after.steps top
          (subst (λ (x : StateParts). is_repeated opening x ≡ true) (sym m.same) (mine (signed-low after.rest after.turns top) (le_or_lt (people F) m.signed.state.turn))))
        where
          noted : noted_in (real.named F) m.line.deed ≡ Some m.signed
          noted = made-noted (real.named F) m.line.deed m.signed m.made

          signed-low : (rest : List StateParts) → Rises own.signed.state rest → (last_of own.signed.state rest).turn < 2 * people F → m.signed.state.turn < 2 * people F
          signed-low rest turns top =
              let a : (last_of own.signed.state rest).turn ≡ own.signed.state.turn + length rest = top_at own.signed.state rest turns in
              let b : own.signed.state.turn ≡ m.signed.state.turn = ap (λ (x : StateParts). x.turn) m.same in
              omega arith

          at : Placed real key F h journal on.honest past m.line → people F ≤ m.signed.state.turn → m.signed.state.turn < 2 * people F → is_repeated opening m.signed.state ≡ true
          at p large small =
              let w = p.hon.holds m.signed noted (more (people F) m.signed.state.turn large) in
              let sets = before p.later p.seen p.split p.newer (m.line ∷ p.front) p.is in
              (subst (Sets F opening) w.is sets).1 m.signed.state w.ends small
            where
              more : (a b : ℕ) → a ≤ b → a ≤ b + 1
              more a b p = omega arith

          mine : m.signed.state.turn < 2 * people F → (people F ≤ m.signed.state.turn) ⊎ (m.signed.state.turn < people F) → is_repeated opening m.signed.state ≡ true
          mine small (inl large) = at (placed real key F h journal on.honest (later ++ e ∷ []) past (is ∙ append_assoc' later (e ∷ []) past) m.line m.there m.early) large small
          mine small (inr low) = first m.line m.signed m.there noted low

  at-all : (later past : List Entry) → h ≡ later ++ past → Before past
  unfolding Before AtPlace
  at-all later [] is [] older split newer front at =
      subst (λ (z : List Entry). Sets F opening (held real F z front)) split
      (slot-lasts real F (Sets F opening) 0 front (λ x i. notes newer front at x i) None tt)
  at-all later [] is (k ∷ l) older split newer front at = absurd cc
  at-all later (e ∷ past) is l older split newer front at =
      choose l split (at-all (later ++ e ∷ []) past (is ∙ append_assoc' later (e ∷ []) past))
    where
      choose : (l : List Entry) → e ∷ past ≡ l ++ older → Before past → Sets F opening (held real F older front)
      choose [] q before =
          subst (λ (z : List Entry). Sets F opening (held real F z front)) q
          (slot-lasts real F (Sets F opening) (suc (length past)) front (λ x i. notes newer front at x i) (show real F (shown real (real.named F) past e) (held real F past front))
          (shown-sets F opening (shown real (real.named F) past e) (held real F past front) (shows later past e is before) (before [] past refl newer front at)))
      choose (k ∷ l) q before = before l older (tails q) newer front at
        where
          tails : {a b : Entry} {xs ys : List Entry} → a ∷ xs ≡ b ∷ ys → xs ≡ ys
          tails p = cc

pub set_ups_are_carried : SetUpsAreCarried
unfolding Before AtPlace
set_ups_are_carried key h journal legal honest unforged distinct valid f opening seen channel first later past newer front is at =
    repeated (held real f past front)
    (at-all key f h journal (setting real key h journal real_keeps_final legal honest unforged distinct valid f seen channel) opening first later past is [] past refl newer front at)
  where
    repeated : (o : Option Marked) → Sets f opening o → IsRepeatedIfAny f opening o
    repeated None s = tt
    repeated (Some w) s = s.1
