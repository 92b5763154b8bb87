use Rattle.std.proofs.Common.{◌≡◌, ℕ, suc, ◌/◌, ◌^◌, ◌+◌, ◌-◌, [], slice_index_or, sym, ap, ◌∙◌, arith}
use Rattle.lms_signatures.specs.Types.{height}
use Rattle.lms_signatures.proofs.Steps.{joined_none, joined_written, half_more}
use Rattle.lms_signatures.specs.Secret.{leaf_count, node}
use Rattle.lms_signatures.specs.Made.{sibling}
use Rattle.lms_signatures.proofs.Trees.{tree_sibling, half_low, half_high}
use Rattle.lms_signatures.proofs.signing.push_path.Goals as goal

pub loop-i-init : goal.loop-i-init
loop-i-init c = record {
  number = omega (arith, c.leaf_count.ensures.value);
  low = λ k e. let k_is : k ≡ height c.args.seed.now.lms = omega arith in rw k_is (omega (arith, c.leaf_count.ensures.value));
  high = λ k e. let k_is : k ≡ height c.args.seed.now.lms = omega arith in rw k_is (omega (arith, c.leaf_count.ensures.value, c.requires.index));
  small = omega (arith, c.leaf_count.ensures.value, c.requires.index);
  path = sym (joined_none _ _);
}

pub loop-i-preserved : goal.loop-i-preserved
loop-i-preserved c =
    let h_is : c.height-i-end.result ≡ height c.args.seed.now.lms = c.height-i-end.ensures ∙ ap height c.lms.ensures in
    let k : ℕ = height c.args.seed.now.lms - (c.loop-i.i + 1) in
    let k_is : c.loop-i.i + suc k ≡ height c.args.seed.now.lms = omega (arith, h_is, c.loop-i-test.true) in
    let low = c.loop-i.invariant.low (suc k) k_is in
    let high = c.loop-i.invariant.high (suc k) k_is in
    let y : slice_index_or c.args.tree.now c.sibling.result [] ≡ node c.args.seed.now c.loop-i.i (sibling ((leaf_count c.args.seed.now + c.args.q) / 2 ^ c.loop-i.i)) =
    rw (← c.loop-i.invariant.number, c.sibling.ensures) (tree_sibling c.args.seed.now c.args.tree.now c.requires.tree c.loop-i.i k c.loop-i.node k_is low high) in
    record {
      number = ap (λ (n : ℕ). n / 2) c.loop-i.invariant.number ∙ half_more _ _;
      low = λ k e. half_low c.loop-i.node k (c.loop-i.invariant.low (suc k) (omega arith));
      high = λ k e. half_high c.loop-i.node k (c.loop-i.invariant.high (suc k) (omega arith));
      small = omega (arith, c.loop-i.invariant.small);
      path = joined_written _ _ _ _ _ _ c.loop-i.invariant.path y c.in_ok-extend_from_slice.ensures.items;
    }
