use Rattle.std.proofs.Common.{sym, refl, arith}
use Rattle.sha2.proofs.Schedule256.{rounds_first}
use Rattle.lms_signatures.specs.Lanes.{lane, words}
use Rattle.lms_signatures.proofs.LaneLemmas.{lane_word}
use Rattle.lms_signatures.proofs.lanes.first_step.Goals as goal

pub returns : goal.returns
returns c = λ j b h lt window held.
    rounds_first b h (words j c.args.w.now) (lane j c.args.v) c.args.t _ _ _ c.requires window held refl
    (sym (lane_word c.args.w.now j c.args.t (omega arith))) (c.round.ensures j lt)
