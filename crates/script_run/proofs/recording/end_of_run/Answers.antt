-- A report comes with a play alone.
use Rattle.std.proofs.Common.{rules, Result, subst}
use Rattle.std.specs.Prelude.{IfOk}
use Rattle.channel_values.specs.declared.fault.NoMemory.{NoMemory}
use Rattle.node_guarantees.specs.Ways.{ways}
use Rattle.script_run.specs.Run as runs
use Rattle.script_run.specs.declared.run.Ended.{Ended}
use Rattle.script_run.proofs.RecordEnds.{played_end}
use Rattle.script_run.proofs.recording.end_of_run.Goals as goal

pub returns-in-Some : goal.returns-in-Some
returns-in-Some c cast g words asked ends =
    let e : runs.EndsAs ways cast (record g { words = words }) c.in_ok-ended.ended.status c.in_ok-ended.ended.report =
    subst (λ (x : Result Ended NoMemory). IfOk x (λ ended. runs.EndsAs ways cast (record g { words = words }) ended.status ended.report)) c.in_ok-ended.was ends in
    c.recorded.ensures cast g (played_end ways cast g words c.in_ok-ended.ended.status c.in_ok-ended.ended.report _ asked (search rules) e)
