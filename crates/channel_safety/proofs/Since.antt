-- A mark of an honest participant stands on a state of its own turn, so a shown chain has every step after the last
-- state that it signed.
use Rattle.std.proofs.Common.{◌≡◌, ℕ, ◌%◌, ◌<◌, ◌≤◌, true, List, [], ◌∷◌, ◌++◌, inl, inr, length, refl, sym, ◌∙◌, ap, subst, arith}
use Rattle.std.specs.Prelude.{Some}
use Rattle.channel_values.specs.Parts.{FixedParts, StateParts}
use Rattle.channel_values.specs.declared.chain.Signed.{Signed}
use Rattle.channel_values.specs.Rules.{Rules, people, top_turn, KeepsFinal}
use Rattle.call_history.specs.History.{Legal}
use Rattle.call_history.specs.Marked.{is_supported}
use Rattle.call_history.specs.Shown.{shown}
use Rattle.call_history.specs.declared.entry.Entry.{Entry}
use Rattle.channel_safety.specs.Journals.{In, Line, made_in}
use Rattle.channel_safety.specs.Premises.{Unforged}
use Rattle.channel_safety.specs.Occurring.{NoCollision, AreValid}
use Rattle.channel_safety.specs.Honest.{Honest, HonestIn}
use Rattle.channel_safety.specs.Steps.{StepsAfter, IsLast, HasStepsAfterLast}
use Rattle.channel_safety.proofs.Tests.{some-eq}
use Rattle.channel_safety.proofs.Lists.{Suffix, suffix_of, append_assoc'}
use Rattle.channel_safety.proofs.Chains.{OwnState, own_state}
use Rattle.channel_safety.proofs.Safe.{Setting, MadeLine, own_line, made-mover, valid-shown}
use Rattle.channel_safety.proofs.Headline.{setting}

-- two states that the participant signed at one turn are one
made-unique : (r : Rules) (key : List ℕ) (F : FixedParts) (h : List Entry) (journal : List Line) → HonestIn r key F h journal → (x y : Line) (s t : Signed) → In x journal → In y journal
    → made_in (r.named F) x.deed ≡ Some s → made_in (r.named F) y.deed ≡ Some t → s.state.turn ≡ t.state.turn → s ≡ t
made-unique r key F h [] hon x y s t i j ms mt same = absurd i
made-unique r key F h (z ∷ front) hon x y s t (inl e) (inl f) ms mt same = some-eq s t (sym ms ∙ (ap (λ (w : Line). made_in (r.named F) w.deed) (e ∙ sym f) ∙ mt))
made-unique r key F h (z ∷ front) hon x y s t (inr i) (inr j) ms mt same = made-unique r key F h front hon.1 x y s t i j ms mt same
made-unique r key F h (z ∷ front) hon x y s t (inl e) (inr j) ms mt same = above (suffix_of h z.seen hon.0.within)
  where
    above : Suffix h z.seen → s ≡ t
    above p =
        let a : t.state.turn < s.state.turn = (hon.0.place p.later p.past p.is p.len).above s (subst (λ (w : Line). made_in (r.named F) w.deed ≡ Some s) e ms) y t j mt in
        absurd (omega arith)
made-unique r key F h (z ∷ front) hon x y s t (inr i) (inl f) ms mt same = above (suffix_of h z.seen hon.0.within)
  where
    above : Suffix h z.seen → s ≡ t
    above p =
        let a : s.state.turn < t.state.turn = (hon.0.place p.later p.past p.is p.len).above t (subst (λ (w : Line). made_in (r.named F) w.deed ≡ Some t) f mt) x s i ms in
        absurd (omega arith)

steps_after : (r : Rules) (key : List ℕ) (F : FixedParts) (h : List Entry) (journal : List Line) → (on : Setting r key F h journal) → (later past : List Entry) (e : Entry) (t : Signed) → h ≡ later ++ e ∷ past
    → is_supported r F (shown r (r.named F) past e) ≡ true → IsLast r F past journal t → t.state.turn ≤ top_turn (shown r (r.named F) past e).states → StepsAfter r F (shown r (r.named F) past e).states t.state
steps_after r key F h journal on later past e t is chain last up =
    go (own_state r on.keeps F on.me (shown r (r.named F) past e) on.small (valid-shown r (r.named F) h journal on.valid later past e is) chain)
  where
    go : OwnState r F on.me (shown r (r.named F) past e) → StepsAfter r F (shown r (r.named F) past e).states t.state
    go own = with_line (own_line r key F h journal on later past e is own)
      where
        with_line : MadeLine r F journal (length past) own.signed.state → StepsAfter r F (shown r (r.named F) past e).states t.state
        with_line m = subst (λ (x : StateParts). StepsAfter r F (shown r (r.named F) past e).states x) (m.same ∙ ap (λ (x : Signed). x.state) one) own.after
          where
            is' : h ≡ (later ++ e ∷ []) ++ past
            is' = is ∙ append_assoc' later (e ∷ []) past

            mover : t.state.turn % people F ≡ on.me
            mover = made-mover r key F h journal on (later ++ e ∷ []) past is' t.state (record { line = last.line; signed = t; there = last.there; early = last.early; made = last.made; same = refl })

            low : t.state.turn ≤ own.signed.state.turn
            low = own.latest t.state.turn mover up

            high : m.signed.state.turn ≤ t.state.turn
            high = last.greatest m.line m.signed m.there m.early m.made

            both : (a b c : ℕ) → a ≤ b → b ≡ c → c ≤ a → c ≡ a
            both a b c p q x = omega arith

            one : m.signed ≡ t
            one = made-unique r key F h journal on.honest m.line last.line m.signed t m.there last.there m.made last.made (both t.state.turn own.signed.state.turn m.signed.state.turn low (ap (λ (x : StateParts). x.turn) m.same) high)

pub has_steps : (r : Rules) (key : List ℕ) (h : List Entry) (journal : List Line) → KeepsFinal r → Legal r h → Honest r key h journal → Unforged r key h journal → NoCollision r h journal → AreValid h journal → HasStepsAfterLast r key h journal
has_steps r key h journal keeps legal honest unforged distinct valid later past e F t is channel chain last up =
    steps_after r key F h journal (setting r key h journal keeps legal honest unforged distinct valid F (length past) channel) later past e t is chain last up
