-- Steps but for the routes of their virtual channels.
use Rattle.std.specs.Prelude.{List, map}
use Rattle.network.specs.declared.command.Route.TheVariants.{Plain}
use Rattle.script_steps.specs.declared.step.Step.{Step}
use Rattle.script_steps.specs.declared.step.Step.TheVariants as steps

-- the step with the plain route
abbrev pub plain : Step → Step
plain (steps.OpenVirtual k) = steps.OpenVirtual (record k { route = Plain })
plain step = step

abbrev pub plainly : List Step → List Step
plainly steps = map plain steps
