use Rattle.std.proofs.Common.{List, refl, arith}
use Rattle.std.proofs.lemmas.List.{length-set}
use Rattle.std.proofs.Math.ListN.{set}
use Rattle.lms_signatures.specs.Runs.{run_at, EndsAlike}
use Rattle.lms_signatures.specs.declared.runs.Run.{Run}
use Rattle.lms_signatures.proofs.Beside.{alike_set, at_place}
use Rattle.lms_signatures.proofs.runs.advance.Goals as goal

pub returns-clause-alike : goal.returns-clause-alike
returns-clause-alike c =
    let id = c.args.id.now in
    let q = c.args.index in
    let step = c.four_steps-strings.ensures in
    let xs : List Run = c.args.runs.now in
    let a = c.from-a in
    let b = c.from-b in
    let e = c.from-c in
    let d = c.from-d in
    let x1 = set xs a.result c.moved.result in
    let x2 = set x1 b.result c.moved-2.result in
    let x3 = set x2 e.result c.moved-3.result in
    let l1 = length-set xs a.result c.moved.result in
    let l2 = length-set x1 b.result c.moved-2.result in
    let l3 = length-set x2 e.result c.moved-3.result in
    let a1 : EndsAlike id q xs x1 = alike_set id q xs xs a.result _ (omega (arith, a.ensures, c.requires 0 (omega arith))) (λ i. refl)
    (c.moved.ensures id q a.result (at_place id q _ _ (run_at xs a.result) _ a.ensures (step 0 (omega arith)))) in
    let a2 : EndsAlike id q xs x2 = alike_set id q xs x1 b.result _ (omega (arith, b.ensures, c.requires 1 (omega arith), l1)) a1
    (c.moved-2.ensures id q b.result (at_place id q _ _ (run_at xs b.result) _ b.ensures (step 1 (omega arith)))) in
    let a3 : EndsAlike id q xs x3 = alike_set id q xs x2 e.result _ (omega (arith, e.ensures, c.requires 2 (omega arith), l1, l2)) a2
    (c.moved-3.ensures id q e.result (at_place id q _ _ (run_at xs e.result) _ e.ensures (step 2 (omega arith)))) in
    alike_set id q xs x3 d.result _ (omega (arith, d.ensures, c.requires 3 (omega arith), l1, l2, l3)) a3
    (c.moved-4.ensures id q d.result (at_place id q _ _ (run_at xs d.result) _ d.ensures (step 3 (omega arith))))
