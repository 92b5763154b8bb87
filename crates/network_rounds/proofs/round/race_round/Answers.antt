use Rattle.std.proofs.Common.{sym, ap, subst, ◌∙◌}
use Rattle.network_rounds.specs.Workers.{CanAct, CanWatch}
use Rattle.network_rounds.proofs.Crewing.{runs_of}
use Rattle.network_rounds.proofs.Readying.{Each, at-each, workers-can, watchers-can}
use Rattle.network_rounds.proofs.round.race_round.Goals as goal

pub act_phase-requires-clause-can : goal.act_phase-requires-clause-can
act_phase-requires-clause-can g c κs within =
    let can = workers-can g.P.Party.ways c.args.seat.now.seen c.args.crew.now.nodes.items _ c.requires.followed in
    at-each (CanAct g.P.Party.ways c.args.seat.now.seen) _ c.in_ok-workers.workers.items
    (subst (Each (CanAct g.P.Party.ways c.args.seat.now.seen)) (sym (c.in_ok-workers.ensures.workers _ _)) can)

pub watch_phase-requires-clause-can : goal.watch_phase-requires-clause-can
watch_phase-requires-clause-can g c κs within =
    let can = workers-can g.P.Party.ways c.args.seat.now.seen c.args.crew.now.nodes.items _ c.requires.followed in
    at-each (CanWatch c.act_phase.new.seat.seen) _ c.in_ok-acted.acted.items
    (watchers-can g.P.Party.ways _ _ _ _ _ c.in_ok-acted.ensures.phase (subst (Each (CanAct g.P.Party.ways c.args.seat.now.seen)) (sym (c.in_ok-workers.ensures.workers _ _)) can))

pub returns-clause-runs : goal.returns-clause-runs
returns-clause-runs g c =
    runs_of g.P.Party.ways _ _ c.args.crew.now c.give_back.new.crew _ c.in_ok-workers.workers.items c.in_ok-acted.acted.items c.in_ok-looked.looked.items _ _ _ c.in_ok-workers.ensures.workers
    (c.as_slice.ensures.value ∙ (ap (λ (v : _). v.items) c.replace-post.ensures.value ∙ c.in_ok-workers.ensures.post))
    c.in_ok-acted.ensures.phase c.in_ok-looked.ensures.phase c.in_ok-give_back.ensures
