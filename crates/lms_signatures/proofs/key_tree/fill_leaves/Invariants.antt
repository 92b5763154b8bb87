use Rattle.std.proofs.Common.{◌≡◌, ℕ, ◌+◌, ◌-◌, ◌<◌, ◌≤◌, [], slice_index_or}
use Rattle.lms_signatures.specs.Tree.{leaf}
use Rattle.lms_signatures.specs.Secret.{ots_public}
use Rattle.lms_signatures.proofs.key_tree.fill_leaves.Given as goal

abbrev pub invariant-loop-q : goal.invariant-loop-q
invariant-loop-q l = (r : ℕ) → l.count ≤ r → r < l.count + l.q → slice_index_or l.tree r [] ≡ leaf l.seed.id r (ots_public l.seed (r - l.count))
