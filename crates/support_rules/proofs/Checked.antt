-- Truth values that are right at each place are those of the marks.
use Rattle.std.proofs.Common.{◌≡◌, ℕ, suc, ◌+◌, ◌<◌, Bool, List, [], ◌∷◌, length, get_or, refl, ◌∙◌, ap, arith}
use Rattle.std.specs.List.{slice_get}
use Rattle.channel_values.specs.Parts.{FixedParts, StateParts}
use Rattle.channel_values.specs.declared.chain.Chain.{Chain}
use Rattle.channel_values.specs.declared.chain.Mark.{Mark}
use Rattle.channel_values.specs.Rules.{Rules}
use Rattle.channel_values.specs.Support.{is_marked_well, verified_marks, verified_from}

verified_is : (r : Rules) (f : FixedParts) (states : List StateParts) (j : ℕ) (marks : List Mark) (bs : List Bool) → length bs ≡ length marks
    → ((i : ℕ) (d : Bool) (m : Mark) → i < length marks → get_or bs i d ≡ is_marked_well r f (j + i) (get_or marks i m).signature (slice_get states (get_or marks i m).place))
    → bs ≡ verified_from r f states j marks
verified_is r f states j [] [] l each = refl
verified_is r f states j [] (b ∷ bs) l each = absurd (omega arith)
verified_is r f states j (mark ∷ marks) [] l each = absurd (omega arith)
verified_is r f states j (mark ∷ marks) (b ∷ bs) l each =
    let here : b ≡ is_marked_well r f j mark.signature (slice_get states mark.place) =
    each 0 b mark (omega arith) ∙ ap (λ (k : ℕ). is_marked_well r f k mark.signature (slice_get states mark.place)) (omega arith) in
    let rest : bs ≡ verified_from r f states (j + 1) marks =
    verified_is r f states (j + 1) marks bs (omega arith)
    (λ i d m lt. each (suc i) d m (omega arith) ∙ ap (λ (k : ℕ). is_marked_well r f k (get_or marks i m).signature (slice_get states (get_or marks i m).place)) (omega arith)) in
    ap (λ (x : Bool). x ∷ bs) here ∙ ap (λ (l : List Bool). is_marked_well r f j mark.signature (slice_get states mark.place) ∷ l) rest

pub verified_all : (r : Rules) (chain : Chain) (marks : List Mark) (bs : List Bool) → marks ≡ chain.marks → length bs ≡ length marks
    → ((i : ℕ) (d : Bool) (m : Mark) → i < length marks → get_or bs i d ≡ is_marked_well r chain.fixed i (get_or marks i m).signature (slice_get chain.states (get_or marks i m).place))
    → bs ≡ verified_marks r chain
verified_all r chain marks bs same l each =
    verified_is r chain.fixed chain.states 0 marks bs l
    (λ i d m lt. each i d m lt ∙ ap (λ (k : ℕ). is_marked_well r chain.fixed k (get_or marks i m).signature (slice_get chain.states (get_or marks i m).place)) (omega arith))
    ∙ ap (λ (ms : List Mark). verified_from r chain.fixed chain.states 0 ms) same
