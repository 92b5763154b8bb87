use Rattle.std.proofs.Common.{◌≡◌, take}
use Rattle.report_text.specs.People.{refused_steps}
use Rattle.report_text.proofs.commands.refused_steps.Given as goal

abbrev pub invariant-loop-refused : goal.invariant-loop-refused
invariant-loop-refused l = l.steps.keys ≡ refused_steps (take l.refused-index l.all)
