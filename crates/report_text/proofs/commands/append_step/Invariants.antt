use Rattle.std.proofs.Common.{◌≡◌, ◌++◌, take, string_bytes}
use Rattle.report_text.specs.People.{lines_of_step}
use Rattle.report_text.proofs.commands.append_step.Given as goal

abbrev pub invariant-loop-refused : goal.invariant-loop-refused
invariant-loop-refused l = string_bytes l.text ≡ string_bytes l.fn.text ++ lines_of_step l.labels (take l.refused-index l.all) l.step
