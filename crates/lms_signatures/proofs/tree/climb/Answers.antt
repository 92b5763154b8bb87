use Rattle.std.proofs.Common.{◌/◌, ◌∙◌, ap, sym, arith}
use Rattle.lms_signatures.proofs.Steps.{climb_none, climb_more, half_more}
use Rattle.lms_signatures.proofs.tree.climb.Goals as goal

pub loop-i-init : goal.loop-i-init
loop-i-init c = record { tmp = sym (climb_none _ _ _ _); node = omega arith }

pub loop-i-preserved : goal.loop-i-preserved
loop-i-preserved c = record {
  tmp = rw (climb_more, ← c.loop-i.invariant.tmp, ← c.loop-i.invariant.node, ← c.string_at.ensures) c.parent-tmp.ensures;
  node = ap (λ n. n / 2) c.loop-i.invariant.node ∙ half_more _ _;
}
