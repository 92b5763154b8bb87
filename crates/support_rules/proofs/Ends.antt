-- What a supported chain ends with, for one whose mark stands on a state of its own turn.
use Rattle.std.proofs.Common.{◌≡◌, ℕ, zero, suc, List, [], ◌∷◌, drop, Some, sym, ap, subst, ◌∙◌, arith}
use Rattle.std.specs.List.{AllByRecursion, slice_get}
use Rattle.channel_values.specs.declared.value.AssetOutcome.{AssetOutcome}
use Rattle.channel_values.specs.Parts.{StateParts, IsState}
use Rattle.channel_values.specs.Rows.{mover, last_of, last_turn}
use Rattle.channel_values.specs.Rules.{people, turn_of, outcome_or_none, top_outcome}
use Rattle.channel_values.proofs.Rows.{others_move, support_tells}
use Rattle.support_rules.specs.Real.{real}
use Rattle.support_rules.specs.May.{OneOf, Ends, may, SupportKeepsMay}
use Rattle.support_rules.proofs.Kept.{steps_keep}

same_some : {A : Type 0} (x y : A) → Some x ≡ Some y → x ≡ y
same_some x y e = cc

valid_at : (states : List StateParts) (place : ℕ) (s : StateParts) → AllByRecursion IsState states → slice_get states place ≡ Some s → IsState s × AllByRecursion IsState (drop (suc place) states)
valid_at [] place s h e = absurd cc
valid_at (x ∷ xs) zero s h e = (subst (λ (q : StateParts). IsState q) (same_some x s e) h.0, h.1)
valid_at (x ∷ xs) (suc place) s h e = valid_at xs place s h.1 e

pub support_keeps : SupportKeepsMay
support_keeps chain fits valid verified turn h j me mark there s at own =
    let supported = support_tells real chain verified turn h in
    let from = (supported.each j mark there).1 in
    let it : from.state ≡ s = same_some from.state s (sym from.there ∙ at) in
    let v = valid_at chain.states mark.place from.state valid from.there in
    let top : (last_of from.state (drop (suc mark.place) chain.states)).turn ≡ turn = ap turn_of (sym from.last) ∙ supported.top in
    let others = others_move (people chain.fixed) j turn from.state (drop (suc mark.place) chain.states) from.rises (omega arith) from.late in
    let kept = steps_keep chain.fixed fits j me from.state v.0 (drop (suc mark.place) chain.states) v.1 from.steps from.few others in
    let ends : (last_of from.state (drop (suc mark.place) chain.states)).outcome ≡ top_outcome chain.states = ap outcome_or_none (sym from.last) in
    let kept2 = subst (λ (p : List AssetOutcome). OneOf (λ o. Ends chain.fixed j o p) (may chain.fixed from.state)) ends kept in
    subst (λ (q : StateParts). (q.turn ≡ last_turn (people chain.fixed) j turn) × OneOf (λ o. Ends chain.fixed j o (top_outcome chain.states)) (may chain.fixed q)) it
    (from.own (ap (λ (q : StateParts). mover (people chain.fixed) q.turn) it ∙ own), kept2)
