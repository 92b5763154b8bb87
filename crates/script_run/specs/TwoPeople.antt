-- Two people with a direct payment channel.
use Rattle.std.specs.Prelude.{ℕ, List, [], ◌∷◌}
use Rattle.channel_values.specs.Parts.{FixedParts, fixed_with}
use Rattle.channel_values.specs.Rules.{Rules}

-- The two keys, in the channel's order; what distinguishes the channel from others of the two; and what each has at
-- first.
pub record Pair : Type 0 where
  pub key_a : List ℕ
  pub key_b : List ℕ
  pub nonce : ℕ
  pub duration : ℕ
  pub asset : ℕ
  pub a : ℕ
  pub b : ℕ

abbrev pub fixed : Pair → FixedParts
fixed p = fixed_with (p.key_a ∷ p.key_b ∷ []) p.nonce 1 p.duration

abbrev pub name : Rules → Pair → List ℕ
name r p = r.named (fixed p)
