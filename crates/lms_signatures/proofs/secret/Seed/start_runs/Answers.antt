use Rattle.std.proofs.Common.{◌≡◌, ℕ, ◌+◌, ◌-◌, ◌*◌, ◌^◌, ◌≤◌, length, ap, ◌∙◌, arith}
use Rattle.std.proofs.lemmas.List.{length-set}
use Rattle.std.proofs.Math.ListN.{set}
use Rattle.lms_signatures.specs.declared.types.OtsType.{OtsType}
use Rattle.lms_signatures.specs.Types.{chain_count, width}
use Rattle.lms_signatures.specs.Starts.{private_run}
use Rattle.lms_signatures.proofs.Filling.{Filled, filled_next, some_chain, started}
use Rattle.lms_signatures.proofs.secret.Seed.start_runs.Goals as goal

pub loop-g-preserved : goal.loop-g-preserved
loop-g-preserved c =
    let s = c.args.self.now in
    let q = c.args.q in
    let g = c.loop-g.g in
    let top : ℕ = 2 ^ width s.ots - 1 in
    let count : ℕ = chain_count s.ots in
    let f = private_run s q top in
    let counted : c.chain_count-last.result ≡ count = c.chain_count-last.ensures ∙ ap chain_count c.ots-ots.ensures in
    let to : c.max_digit-to.result ≡ top = c.max_digit-to.ensures ∙ ap (λ (o : OtsType). 2 ^ width o - 1) c.ots-ots.ensures in
    let low : 4 * g ≤ c.chain_count-last.result - 1 = omega (arith, c.loop-g-test.true) in
    let some : 1 ≤ c.chain_count-last.result = omega (arith, counted, some_chain s.ots) in
    let step = c.four_steps-strings.ensures in
    let is = started s q top in
    let xs = c.loop-g.runs in
    let a = c.from in
    let b = c.from-in-loop-g in
    let e = c.from-in-loop-g-2 in
    let d = c.from-in-loop-g-3 in
    let x1 = set xs a.result c.first_run.result in
    let x2 = set x1 b.result c.first_run-in-loop-g.result in
    let x3 = set x2 e.result c.first_run-in-loop-g-2.result in
    let x4 = set x3 d.result c.first_run-in-loop-g-3.result in
    let l0 : length xs ≡ count = c.loop-g.invariant.long in
    let l1 : length x1 ≡ count = length-set xs a.result c.first_run.result ∙ l0 in
    let l2 : length x2 ≡ count = length-set x1 b.result c.first_run-in-loop-g.result ∙ l1 in
    let l3 : length x3 ≡ count = length-set x2 e.result c.first_run-in-loop-g-2.result ∙ l2 in
    let l4 : length x4 ≡ count = length-set x3 d.result c.first_run-in-loop-g-3.result ∙ l3 in
    let f1 : Filled f count x1 (4 * g + 1) = filled_next f count (4 * g) a.result xs _ (omega (arith, a.ensures, low, some, counted, l0)) (λ h. omega (arith, a.ensures))
    (is _ _ _ _ _ _ _ c.first_run.ensures to c.id.ensures c.seed.ensures a.ensures (step 0 (omega arith))) c.loop-g.invariant.done in
    let f2 : Filled f count x2 (4 * g + 1 + 1) = filled_next f count (4 * g + 1) b.result x1 _ (omega (arith, b.ensures, c.at_most-b.ensures.low, some, counted, l1))
    (λ h. omega (arith, b.ensures, c.at_most-b.ensures.same (omega (arith, h, counted))))
    (is _ _ _ _ _ _ _ c.first_run-in-loop-g.ensures to c.id.ensures c.seed.ensures b.ensures (step 1 (omega arith))) f1 in
    let f3 : Filled f count x3 (4 * g + 1 + 1 + 1) = filled_next f count (4 * g + 1 + 1) e.result x2 _ (omega (arith, e.ensures, c.at_most-c.ensures.low, some, counted, l2))
    (λ h. omega (arith, e.ensures, c.at_most-c.ensures.same (omega (arith, h, counted))))
    (is _ _ _ _ _ _ _ c.first_run-in-loop-g-2.ensures to c.id.ensures c.seed.ensures e.ensures (step 2 (omega arith))) f2 in
    let f4 : Filled f count x4 (4 * g + 1 + 1 + 1 + 1) = filled_next f count (4 * g + 1 + 1 + 1) d.result x3 _ (omega (arith, d.ensures, c.at_most-d.ensures.low, some, counted, l3))
    (λ h. omega (arith, d.ensures, c.at_most-d.ensures.same (omega (arith, h, counted))))
    (is _ _ _ _ _ _ _ c.first_run-in-loop-g-3.ensures to c.id.ensures c.seed.ensures d.ensures (step 3 (omega arith))) f3 in
    record { long = l4; done = λ k below few. f4 k (omega (arith, below)) few }
