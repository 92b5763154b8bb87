use Rattle.std.proofs.Common.{◌≡◌, take}
use Rattle.call_history.specs.History.{flows_of}
use Rattle.report_text.proofs.flows.flows_of.Given as goal

abbrev pub invariant-loop-entry : goal.invariant-loop-entry
invariant-loop-entry l = l.flows.items ≡ flows_of (take l.entry-index l.history)
