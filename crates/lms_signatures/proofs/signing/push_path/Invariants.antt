use Rattle.std.proofs.Common.{◌≡◌, ℕ, ◌+◌, ◌*◌, ◌/◌, ◌^◌, ◌<◌, ◌≤◌, ◌++◌}
use Rattle.lms_signatures.specs.Types.{height}
use Rattle.lms_signatures.specs.Ots.{joined}
use Rattle.lms_signatures.specs.Secret.{node, leaf_count}
use Rattle.lms_signatures.specs.Made.{sibling}
use Rattle.lms_signatures.proofs.signing.push_path.Given as goal

abbrev pub invariant-loop-i : goal.invariant-loop-i
invariant-loop-i l = record {
  number : l.node ≡ (leaf_count l.seed + l.q) / 2 ^ l.i;
  low : (k : ℕ) → l.i + k ≡ height l.seed.lms → 2 ^ k ≤ l.node;
  high : (k : ℕ) → l.i + k ≡ height l.seed.lms → l.node < 2 * 2 ^ k;
  small : l.node < 2 * leaf_count l.seed;
  path : l.out.items ≡ l.fn.out.items ++ joined (λ i. node l.seed i (sibling ((leaf_count l.seed + l.q) / 2 ^ i))) l.i;
}
