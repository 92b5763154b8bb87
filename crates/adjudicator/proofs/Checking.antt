-- How many truth values a chain's marks have.
use Rattle.std.proofs.Common.{◌≡◌, ℕ, suc, ◌+◌, List, [], ◌∷◌, length, Bool, refl, ◌∙◌, ap, arith, length-append}
use Rattle.channel_values.specs.Parts.{FixedParts, StateParts}
use Rattle.channel_values.specs.declared.chain.Chain.{Chain}
use Rattle.channel_values.specs.declared.chain.Mark.{Mark}
use Rattle.channel_values.specs.Rules.{Rules, signs_challenge}
use Rattle.channel_values.specs.Support.{verified_marks, verified_from}
use Rattle.adjudicator.specs.Values.{challenge_values}

length-verified_from : (r : Rules) (f : FixedParts) (states : List StateParts) (j : ℕ) (marks : List Mark) → length (verified_from r f states j marks) ≡ length marks
length-verified_from r f states j [] = refl
length-verified_from r f states j (mark ∷ marks) = ap suc (length-verified_from r f states (j + 1) marks)

-- as many values as marks
pub as_many : (r : Rules) (chain : Chain) (verified : List Bool) → verified ≡ verified_marks r chain → length verified ≡ length chain.marks
as_many r chain verified is = ap length is ∙ length-verified_from r chain.fixed chain.states 0 chain.marks

-- and the challenger's
pub one_more : (r : Rules) (chain : Chain) (who : ℕ) (signature : List ℕ) (verified : List Bool) → verified ≡ challenge_values r chain who signature → length verified ≡ length chain.marks + 1
one_more r chain who signature verified is =
    let marks = verified_marks r chain in
    let all = ap length is in
    let more = length-append marks (signs_challenge r chain.fixed chain.states who signature ∷ []) in
    omega (arith, all, more, length-verified_from r chain.fixed chain.states 0 chain.marks)
