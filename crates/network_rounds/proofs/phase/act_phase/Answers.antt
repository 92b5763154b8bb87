use Rattle.std.proofs.Common.{sym, ◌∙◌, arith}
use Rattle.std.proofs.lemmas.Bool.{eqb-true}
use Rattle.network_rounds.specs.Workers.{Acts, CanAct}
use Rattle.network_rounds.specs.Views.{worker_of}
use Rattle.network_rounds.proofs.Dealt.{gathers_none}
use Rattle.network_rounds.proofs.Phasing.{phase_of, no_phase, all_ready, if_first, some_of, empty_is}
use Rattle.network_rounds.proofs.phase.act_phase.Goals as goal

pub returns-then-is_empty-clause-phase : goal.returns-then-is_empty-clause-phase
returns-then-is_empty-clause-phase g c =
    no_phase _ (Acts g.P.Party.ways c.args.post.now) _ _ (empty_is c.args.workers.items (omega (arith, eqb-true _ 0 (sym c.is_empty.ensures ∙ c.if-is_empty.true), c.args.workers.ok.0))) (gathers_none _)

pub act_all-requires-after_bounds : goal.act_all-requires-after_bounds
act_all-requires-after_bounds g c κs within =
    all_ready (worker_of (λ b. (goal.Actor-dyn g (b.vtable, b.value)).tells b.value) (λ b. (goal.Actor-dyn g (b.vtable, b.value)).told b.value))
    (Acts g.P.Party.ways c.args.post.now) (CanAct g.P.Party.ways) c.args.book.now c.args.seat.now _ _ _ _ c.requires.book c.in_ok-other.ensures.0 c.new-jobs.ensures.items c.in_ok-deal.ensures c.requires.can

pub collect-requires-clause-results : goal.collect-requires-clause-results
collect-requires-clause-results g c i d lt =
    some_of c.deal.new.jobs.items i (omega (arith, lt, c.in_ok-results.ensures.len, c.deal.new.jobs.ok.0))
    (λ j. if_first _ _ _ (c.in_ok-results.ensures.each i j d (omega (arith, lt, c.in_ok-results.ensures.len))))

pub returns-clause-phase : goal.returns-clause-phase
returns-clause-phase g c =
    phase_of _ (Acts g.P.Party.ways c.args.post.now) c.args.book.now _ _ _ _ _ _ _ _ _ c.in_ok-other.ensures.0 c.in_ok-other.ensures.1 c.in_ok-other.ensures.2 c.in_ok-other.ensures.3 c.new-jobs.ensures.items c.in_ok-deal.ensures
    (omega (arith, c.in_ok-results.ensures.len, c.deal.new.jobs.ok.0, c.in_ok-results.results.ok.0)) (λ i x e lt. c.in_ok-results.ensures.each i x e (omega (arith, lt, c.deal.new.jobs.ok.0)))
    c.in_ok-workers.ensures.collects
