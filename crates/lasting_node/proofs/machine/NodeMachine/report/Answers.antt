use Rattle.std.proofs.Common.{rules}
use Rattle.std.proofs.lemmas.Result.{IfOk-weaker}
use Rattle.lasting_node.proofs.Told.{report_of}
use Rattle.lasting_node.proofs.machine.NodeMachine.report.Goals as goal

pub returns : goal.returns
returns c =
    IfOk-weaker c.report_text.result _ _
    (λ text is. report_of c.args.self.now c.entries-history.result.now c.in_ok-journal.journal
    c.in_ok-unforged.unforged c.in_ok-distinct.distinct c.in_ok-in_time.in_time _ text.items
    c.entries-history.ensures.same c.in_ok-journal.ensures c.exit_shares.ensures
    c.in_ok-unforged.ensures c.in_ok-distinct.ensures c.in_ok-in_time.ensures is)
    c.report_text.ensures
