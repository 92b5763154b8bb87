use Rattle.std.proofs.Common.{◌≡◌, ◌==◌, ◌++◌, map, take, drop}
use Rattle.funding_plans.specs.declared.plan.Goal.{Goal}
use Rattle.channel_node.specs.Minds.{close_if}
use Rattle.node_knowledge.proofs.closing.close.Given as goal

abbrev pub invariant-loop-goal : goal.invariant-loop-goal
invariant-loop-goal l = l.goals ≡ map (λ (g : Goal). close_if l.lets (g.part == l.place) g) (take l.goal-index l.initial.goals) ++ drop l.goal-index l.initial.goals
