use Rattle.std.proofs.Common.{◌≡◌, ◌+◌, ◌∙◌}
use Rattle.script_run.specs.Load.{drawn}
use Rattle.script_run.proofs.Draws.{next_drawn, pushed}
use Rattle.script_run.proofs.payments.push_payments.Goals as goal

pub loop-place-preserved : goal.loop-place-preserved
loop-place-preserved c =
    let number : c.next-number.result ≡ drawn c.args.seed (c.loop-place.place + 1) =
    c.next-number.ensures ∙ next_drawn c.args.seed c.loop-place.place c.loop-place.number c.loop-place.invariant.1 in (
      pushed c.args.seed c.loop-place.place c.next-number.result _ _ _ _ _ _ c.loop-place.invariant.0 number (c.in_ok-label.ensures ∙ c.payer.ensures)
          c.in_ok-label-2.ensures c.in_ok-push.ensures.ok c.in_ok-push-2.ensures.ok,
      number,
    )
