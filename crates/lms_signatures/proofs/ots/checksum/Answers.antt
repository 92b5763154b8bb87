use Rattle.std.proofs.Common.{◌≡◌, ◌≤◌, ◌*◌, ◌-◌, ◌/◌, ◌^◌, arith}
use Rattle.lms_signatures.specs.Types.{width}
use Rattle.lms_signatures.specs.Ots.{coef_gap}
use Rattle.lms_signatures.proofs.Steps.{checksum_fits}
use Rattle.lms_signatures.proofs.ots.checksum.Goals as goal

pub returns : goal.returns
returns c =
    let i_is : c.loop-i.i ≡ 256 / width c.args.ots = omega arith in
    let gap : c.loop-i.sum ≡ coef_gap c.args.s.now (width c.args.ots) (256 / width c.args.ots) = rw (← i_is) c.loop-i.invariant.gap in
    let small : c.loop-i.sum ≤ (2 ^ width c.args.ots - 1) * (256 / width c.args.ots) = rw (← i_is, ← c.max_digit.ensures, ← c.from-max_digit.ensures) c.loop-i.invariant.small in
    rw c.checksum_shift.ensures (checksum_fits c.args.ots c.args.s.now c.loop-i.sum gap small)
