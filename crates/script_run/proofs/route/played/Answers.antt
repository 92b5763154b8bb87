-- A hop that was played ends with its report and text.
use Rattle.std.proofs.Common.{◌∙◌}
use Rattle.node_guarantees.specs.Ways.{ways}
use Rattle.script_run.proofs.RouteEnds.{ends_played}
use Rattle.script_run.proofs.route.played.Goals as goal

pub returns-in_ok-text-in-Ok-clause-ends : goal.returns-in_ok-text-in-Ok-clause-ends
returns-in_ok-text-in-Ok-clause-ends c words asks =
    ends_played ways words c.args.ending c.args.count c.in_ok-report-in-Ok.report c.as_slice-steps.result.now
    c.in_ok-text-in-Ok.text.items asks c.in-Ok.ensures.apart (c.as_slice-steps.ensures ∙ c.in-Ok.ensures.steps)
    c.in_ok-report-in-Ok.ensures.played c.in_ok-text-in-Ok.ensures
