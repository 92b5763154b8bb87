use Rattle.std.proofs.Common.{◌≤◌, ◌<◌, ◌^◌, sym, ◌∙◌, arith}
use Rattle.std.proofs.Math.Pow.{pow_mono}
use Rattle.std.proofs.lemmas.Bool.{lt-ltb, le-leb}
use Rattle.script_steps.proofs.context.is_below_power.Goals as goal

pub returns-then-h-ge64 : goal.returns-then-h-ge64
returns-then-h-ge64 c =
    let p : 64 ≤ c.args.h = omega arith in
    let q : 2 ^ 64 ≤ 2 ^ c.args.h = pow_mono p in
    let r : c.args.count < 2 ^ c.args.h = omega arith in
    le-leb 64 c.args.h p ∙ sym (lt-ltb c.args.count (2 ^ c.args.h) r)
