use Rattle.std.proofs.Common.{◌≡◌, ◌==◌, ◌∷◌, ◌++◌, ◌-◌, ◌+◌, [], List, ℕ, false, length, take, drop, get_or, sym, ◌∙◌, ap, subst, arith}
use Rattle.std.proofs.lemmas.Bool.Decides.{nat_tests}
use Rattle.std.proofs.lemmas.List.{take_more, take_all, take_rest}
use Rattle.lasting_lines.specs.Batches.{parts}
use Rattle.lasting_lines.proofs.Parts.{IsWhole, whole-push, split-at, parts-one, parts-first}
use Rattle.lasting_lines.proofs.batches.split_batch.Goals as goal

pub returns-then-batch-i-eq30-clause-parts : goal.returns-then-batch-i-eq30-clause-parts
returns-then-batch-i-eq30-clause-parts c =
    let rest = take (length c.args.batch.now - (c.loop-i.i + 1)) (drop (c.loop-i.i + 1) c.args.batch.now) in
    let is : get_or c.args.batch.now c.loop-i.i 0 ≡ 30 = grind (arith, nat_tests) in
    let whole : c.args.batch.now ≡ take c.loop-i.i c.args.batch.now ++ 30 ∷ rest =
    split-at c.args.batch.now c.loop-i.i 30 (omega arith) is
    ∙ ap (λ (l : List ℕ). take c.loop-i.i c.args.batch.now ++ 30 ∷ l) (sym (take_rest c.args.batch.now (c.loop-i.i + 1))) in
    ap parts whole ∙ parts-first [] (take c.loop-i.i c.args.batch.now) rest c.loop-i.invariant.none

pub loop-i-preserved : goal.loop-i-preserved
loop-i-preserved c =
    let other : (get_or c.args.batch.now c.loop-i.i 0 == 30) ≡ false = grind (arith, nat_tests) in
    record {
      inside = omega arith;
      none =
          subst IsWhole (sym (take_more c.args.batch.now c.loop-i.i 0 (omega arith)))
          (whole-push (take c.loop-i.i c.args.batch.now) (get_or c.args.batch.now c.loop-i.i 0) c.loop-i.invariant.none other);
    }

pub returns-clause-parts : goal.returns-clause-parts
returns-clause-parts c =
    let all : take c.loop-i.i c.args.batch.now ≡ c.args.batch.now = take_all c.loop-i.i c.args.batch.now (omega arith) in
    parts-one [] c.args.batch.now (subst IsWhole all c.loop-i.invariant.none)
