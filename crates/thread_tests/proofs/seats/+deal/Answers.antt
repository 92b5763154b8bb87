use Rattle.std.proofs.Common.{arith}
use Rattle.thread_tests.proofs.Dealt.{halves, deals_both}
use Rattle.thread_tests.proofs.seats.+deal.Goals as goal

pub returns : goal.returns
returns t c =
    let h = halves c.args.seat c.in_ok-other.other c.halve.new.seat c.in_ok-other.ensures.even c.in_ok-other.ensures.ok.1 c.in_ok-other.ensures.ok.2 in
    deals_both _ _ _ _ _ _ _ _ _ h.0 h.1 h.2 (omega arith) c.in_ok-deal.ensures c.in_ok-deal-2.ensures
