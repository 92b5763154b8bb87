use Rattle.std.proofs.Common.{◌≡◌, ℕ, ap, ◌∙◌}
use Rattle.lms_signatures.specs.Runs.{run_at, end_of}
use Rattle.lms_signatures.proofs.Steps.{joined_none, joined_more}
use Rattle.lms_signatures.proofs.runs.hash_of_ends.Goals as goal

pub loop-i-init : goal.loop-i-init
loop-i-init c = rw joined_none c.opening-hasher.ensures

pub loop-i-preserved : goal.loop-i-preserved
loop-i-preserved c =
    let e : c.end_of.result ≡ end_of c.args.id.now c.args.index c.loop-i.i (run_at c.args.runs.now c.loop-i.i) =
    c.end_of.ensures ∙ ap (λ (n : ℕ). end_of c.args.id.now c.args.index c.loop-i.i (run_at c.args.runs.now n)) c.from.ensures in
    rw (joined_more, ← e) (c.update.ensures _ c.loop-i.invariant)
