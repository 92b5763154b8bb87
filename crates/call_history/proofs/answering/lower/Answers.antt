use Rattle.std.proofs.Common.{◌<◌, length, arith}
use Rattle.std.proofs.lemmas.Grind.{common_steps}
use Rattle.call_history.proofs.LoweredMarks.{lower_step}
use Rattle.call_history.proofs.answering.lower.Goals as goal

pub loop-i-preserved : goal.loop-i-preserved
loop-i-preserved c =
    let within : c.loop-i.i < length c.args.marks.now.items = grind (arith, common_steps) in
    lower_step c.args.count c.args.marks.now.items c.loop-i.marks.items c.loop-i.i c.index.result.now c.index_mut.result.now c.loop-i.invariant within c.index.ensures c.index_mut.ensures.value
