-- What a signer keeps of its secret.
use Rattle.std.specs.Prelude.{◌≡◌, ℕ, ◌+◌, ◌-◌, ◌*◌, ◌≤◌, ◌<◌, List, [], length}
use Rattle.std.specs.List.{slice_index_or}
use Rattle.lms_signatures.specs.Types.{height}
use Rattle.lms_signatures.specs.Tree.{leaf, interior}
use Rattle.lms_signatures.specs.Secret.{Secret, secret_of, ots_public, leaf_count}

-- the list has T[r] at each r from 1 on, by the equations of section 5.3
pub record IsTree (s : Secret) (tree : List (List ℕ)) : Type 0 where
  pub long : length tree ≡ 2 * leaf_count s
  pub leaves : (r : ℕ) → leaf_count s ≤ r → r < 2 * leaf_count s
      → slice_index_or tree r [] ≡ leaf s.id r (ots_public s (r - leaf_count s))
  pub interiors : (r : ℕ) → 1 ≤ r → r < leaf_count s
      → slice_index_or tree r [] ≡ interior s.id r (slice_index_or tree (2 * r) []) (slice_index_or tree (2 * r + 1) [])

-- the secret is of the types that are signed with, its nodes are kept, and no index is used past the leaves
pub record IsSigner (s : Secret) (nodes : List (List ℕ)) (count : ℕ) : Type 0 where
  pub types : s ≡ secret_of s.seed s.id (height s.lms)
  pub id : length s.id ≡ 16
  pub tree : IsTree s nodes
  pub used : count ≤ leaf_count s
