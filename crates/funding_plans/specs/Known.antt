-- What the rules of a participant read.
use Rattle.std.specs.Prelude.{ℕ, List}
use Rattle.call_history.specs.declared.held_chain.HeldChain.{HeldChain}
use Rattle.call_history.specs.declared.held_chain.Known.{Known}
use Rattle.call_history.specs.declared.held_chain.Place.{Place}
use Rattle.call_history.specs.declared.view.WorldView.{WorldView}
use Rattle.funding_plans.specs.declared.plan.Goal.{Goal}
use Rattle.funding_plans.specs.declared.plan.Plan.{Plan}

pub record FactsOf : Type 0 where
  pub me : List ℕ
  pub plan : Plan
  pub view : WorldView
  pub places : List Place
  pub chains : List HeldChain
  pub known : List Known
  pub goals : List Goal
