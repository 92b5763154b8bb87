use Rattle.std.proofs.Common.{◌∙◌, sym, arith}
use Rattle.thread_tests.proofs.Dealt.{halves, all_dealt, are_of-at, same_parts}
use Rattle.thread_tests.proofs.seats.round.Goals as goal

pub enter_all-requires-after_bounds : goal.enter_all-requires-after_bounds
enter_all-requires-after_bounds g c lifetimes within i d lt =
    let h = halves c.args.seat.now c.in_ok-half.half c.halve.new.seat c.in_ok-half.ensures.even c.in_ok-half.ensures.ok.1 c.in_ok-half.ensures.ok.2 in
    are_of-at _ _ i d (all_dealt _ _ _ _ _ c.new-seats.ensures.items (h.1 ∙ c.requires.book) c.in_ok-deal.ensures).0 (omega (arith, c.deal.new.seats.ok.0))

pub gather-requires-clause-seats : goal.gather-requires-clause-seats
gather-requires-clause-seats g c =
    (same_parts _ c.deal.new.seats.items c.in_ok-seats.seats.items (sym c.in_ok-seats.seats.ok.0 ∙ c.in_ok-seats.ensures.len ∙ c.deal.new.seats.ok.0) (λ i d lt. c.in_ok-seats.ensures.each i d (omega (arith, c.deal.new.seats.ok.0)))).0

pub returns-clause-part : goal.returns-clause-part
returns-clause-part g c =
    let h = halves c.args.seat.now c.in_ok-half.half c.halve.new.seat c.in_ok-half.ensures.even c.in_ok-half.ensures.ok.1 c.in_ok-half.ensures.ok.2 in
    let d = all_dealt _ _ _ _ _ c.new-seats.ensures.items (h.1 ∙ c.requires.book) c.in_ok-deal.ensures in
    let s = same_parts _ c.deal.new.seats.items c.in_ok-seats.seats.items (sym c.in_ok-seats.seats.ok.0 ∙ c.in_ok-seats.ensures.len ∙ c.deal.new.seats.ok.0) (λ i e lt. c.in_ok-seats.ensures.each i e (omega (arith, c.deal.new.seats.ok.0))) in
    omega (arith, c.gather.ensures.part, h.2, d.1, s.1)
