use Rattle.std.proofs.Common.{◌≡◌, ◌==◌, false, take, get_or, sym, subst, arith}
use Rattle.std.proofs.lemmas.Bool.Decides.{nat_tests}
use Rattle.std.proofs.lemmas.List.{take_more}
use Rattle.lasting_lines.specs.Batches.{IsPart}
use Rattle.lasting_lines.proofs.Parts.{part-push}
use Rattle.lasting_lines.proofs.rows.split_line.Goals as goal

pub loop-i-preserved : goal.loop-i-preserved
loop-i-preserved c =
    let feed : (get_or c.args.bytes.now c.loop-i.i 0 == 10) ≡ false = grind (arith, nat_tests) in
    let separator : (get_or c.args.bytes.now c.loop-i.i 0 == 30) ≡ false = grind (arith, nat_tests) in
    record {
      inside = omega arith;
      none =
          subst IsPart (sym (take_more c.args.bytes.now c.loop-i.i 0 (omega arith)))
          (part-push (take c.loop-i.i c.args.bytes.now) (get_or c.args.bytes.now c.loop-i.i 0) c.loop-i.invariant.none feed separator);
    }
