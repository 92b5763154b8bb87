-- Truth values of the signatures of a call that turns a row, in their order.
use Rattle.std.specs.Prelude.{ℕ, Bool, List, [], ◌∷◌, ◌++◌}
use Rattle.channel_values.specs.Parts.{FixedParts}
use Rattle.channel_values.specs.declared.chain.Chain.{Chain}
use Rattle.channel_values.specs.declared.chain.Signed.{Signed}
use Rattle.channel_values.specs.Rules.{Rules, is_signed_well, signs_challenge}
use Rattle.channel_values.specs.Support.{verified_marks}

-- of a challenge: those of the chain's marks, and last that of the challenger's signature
abbrev pub challenge_values : Rules → Chain → ℕ → List ℕ → List Bool
challenge_values r chain who signature =
    verified_marks r chain ++ signs_challenge r chain.fixed chain.states who signature ∷ []

-- of a respond and a refute: that of the mover's signature
abbrev pub answer_values : Rules → FixedParts → Signed → List Bool
answer_values r f next = is_signed_well r f next ∷ []
