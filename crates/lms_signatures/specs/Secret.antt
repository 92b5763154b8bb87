-- What a seed makes: the private elements, the one-time keys and the nodes of the tree (RFC 8554, sections 4.2,
-- 4.3 and 5.3, and Appendix A).
use Rattle.std.specs.Prelude.{ℕ, zero, suc, ◌+◌, ◌-◌, ◌*◌, ◌^◌, ◌==◌, if◌then◌else◌, List, [], ◌∷◌, ◌++◌}
use Rattle.sha2.specs.Sha256.{sha256}
use Rattle.lms_signatures.specs.declared.types.OtsType.{OtsType}
use Rattle.lms_signatures.specs.declared.types.OtsType.TheVariants.{W4}
use Rattle.lms_signatures.specs.declared.types.LmsType.{LmsType}
use Rattle.lms_signatures.specs.declared.types.LmsType.TheVariants.{H5, H10, H15}
use Rattle.lms_signatures.specs.Types.{u8str, u16str, u32str, width, height}
use Rattle.lms_signatures.specs.Ots.{chain, ends_hash}
use Rattle.lms_signatures.specs.Tree.{leaf, interior}

pub record Secret : Type 0 where
  pub ots : OtsType
  pub lms : LmsType
  pub seed : List ℕ
  pub id : List ℕ

-- the LMS type of a height: 5, 10, and 15 for all others
abbrev pub lms_of : ℕ → LmsType
lms_of h = if h == 5 then H5 else if h == 10 then H10 else H15

-- the secret of a seed and an identifier, with LM-OTS type 3 and a tree of height 5, 10 or 15
abbrev pub secret_of : List ℕ → List ℕ → ℕ → Secret
secret_of seed id h = record { ots = W4; lms = lms_of h; seed = seed; id = id }

-- x_q[i] (Appendix A)
unfoldable pub private_element : Secret → ℕ → ℕ → List ℕ
private_element s q i = sha256 (s.id ++ u32str q ++ u16str i ++ u8str 0xff ++ s.seed)

-- C of an index: this project's own
unfoldable pub randomizer : Secret → ℕ → List ℕ
randomizer s q = sha256 (s.seed ++ 0x43 ∷ [] ++ u32str q)

-- the string that stands n steps along chain i
abbrev pub along : Secret → ℕ → ℕ → ℕ → List ℕ
along s q n i = chain s.id q i 0 n (private_element s q i)

-- K of an index (4.3)
unfoldable pub ots_public : Secret → ℕ → List ℕ
ots_public s q = ends_hash s.ots s.id q (λ i. along s q (2 ^ width s.ots - 1) i)

-- the number of leaves
abbrev pub leaf_count : Secret → ℕ
leaf_count s = 2 ^ height s.lms

-- T[r], which stands some levels above the leaves (5.3)
unfoldable pub node : Secret → ℕ → ℕ → List ℕ
node s zero r = leaf s.id r (ots_public s (r - leaf_count s))
node s (suc level) r = interior s.id r (node s level (2 * r)) (node s level (2 * r + 1))
