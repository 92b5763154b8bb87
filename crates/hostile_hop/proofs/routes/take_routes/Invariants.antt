use Rattle.std.proofs.Common.{◌≡◌}
use Rattle.hostile_hop.specs.Routes.{plainly}
use Rattle.hostile_hop.proofs.routes.take_routes.Given as goal

abbrev pub invariant-loop-step : goal.invariant-loop-step
invariant-loop-step l = plainly l.steps ≡ plainly l.initial.steps
