use Rattle.std.proofs.Common.{◌≡◌, ◌++◌, string_bytes}
use Rattle.std.specs.Prelude.{flat_map}
use Rattle.report_text.specs.People.{lines_of_step, command_lines}
use Rattle.report_text.proofs.commands.append_steps.Given as goal

abbrev pub invariant-loop-step : goal.invariant-loop-step
invariant-loop-step l = string_bytes l.text ++ flat_map (lines_of_step l.labels l.all) l.step-iterator ≡ string_bytes l.fn.text ++ command_lines l.labels l.all
