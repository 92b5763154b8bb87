use Rattle.std.proofs.Common.{◌-◌, [], arith, ◌∙◌}
use Rattle.std.proofs.lemmas.List.{get_or-set_other, length-set}
use Rattle.lms_signatures.proofs.Trees.{interiors_more}
use Rattle.lms_signatures.proofs.key_tree.fill_interiors.Goals as goal

pub loop-i-preserved : goal.loop-i-preserved
loop-i-preserved c = record {
  long = length-set _ _ _ ∙ c.loop-i.invariant.long;
  leaves = λ r low. get_or-set_other c.loop-i.tree (c.leaf_count-count.result - c.loop-i.i) r c.interior.result [] (omega arith) ∙ c.loop-i.invariant.leaves r low;
  interiors = interiors_more _ _ _ _ _ c.loop-i.auto.i c.loop-i-test.true (omega arith) (rw (← c.id.ensures) c.interior.ensures) c.loop-i.invariant.interiors;
}
