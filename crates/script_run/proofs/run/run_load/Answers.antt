-- A load that was played runs to its report.
use Rattle.std.proofs.Common.{◌∙◌}
use Rattle.script_run.proofs.Counts.{wanted_load}
use Rattle.script_run.proofs.Loaded.{loads_run}
use Rattle.script_run.proofs.run.run_load.Goals as goal

pub returns-in_ok-report-in-Ok-clause-ends : goal.returns-in_ok-report-in-Ok-clause-ends
returns-in_ok-report-in-Ok-clause-ends g c cast given asks unread =
    loads_run g.P.Party.ways cast given c.args.seed c.args.count
    c.in_ok-report-in-Ok.report c.as_slice.result.now (wanted_load given.words c.args.seed c.args.count asks c.in-Ok.ensures.two) unread
    (c.as_slice.ensures ∙ c.in-Ok.ensures.steps)
    c.in_ok-report-in-Ok.ensures.played
