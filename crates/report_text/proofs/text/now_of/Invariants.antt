use Rattle.std.proofs.Common.{◌≡◌, take}
use Rattle.call_history.specs.History.{now_of, newest_first}
use Rattle.report_text.proofs.text.now_of.Given as goal

abbrev pub invariant-loop-entry : goal.invariant-loop-entry
invariant-loop-entry l = l.now ≡ now_of (newest_first (take l.entry-index l.history))
