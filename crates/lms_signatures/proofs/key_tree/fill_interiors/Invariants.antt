use Rattle.std.proofs.Common.{◌≡◌, ℕ, ◌+◌, ◌*◌, ◌<◌, ◌≤◌, [], length, slice_index_or}
use Rattle.lms_signatures.specs.Tree.{interior}
use Rattle.lms_signatures.proofs.key_tree.fill_interiors.Given as goal

abbrev pub invariant-loop-i : goal.invariant-loop-i
invariant-loop-i l = record {
  long : length l.tree ≡ length l.initial.tree;
  leaves : (r : ℕ) → l.count ≤ r → slice_index_or l.tree r [] ≡ slice_index_or l.initial.tree r [];
  interiors : (r : ℕ) → l.count < r + l.i → r < l.count → slice_index_or l.tree r [] ≡ interior l.seed.id r (slice_index_or l.tree (2 * r) []) (slice_index_or l.tree (2 * r + 1) []);
}
