-- The stages of a plan, whatever their tables are.
use Rattle.std.specs.Prelude.{ℕ, Bool, List, Option}
use Rattle.channel_values.specs.Parts.{StateParts}
use Rattle.call_history.specs.declared.call.Call.{Call}
use Rattle.funding_plans.specs.Known.{FactsOf}
use Rattle.funding_plans.specs.declared.plan.Part.{Part}
use Rattle.network.specs.declared.command.Command.{Command}
use Rattle.network.specs.declared.command.Release.{Release}

-- What the tables say, by what a participant's facts are.
pub record Tables : Type 0 where
  -- the stage of a part, and whether something is still to be done for its last command
  pub stage : FactsOf → Part → ℕ
  pub is_unfinished : FactsOf → Part → Bool
  -- the part that is asked about a channel; the state that it wants there, and whether one is taken from others
  pub asked : FactsOf → List ℕ → Option Part
  pub wanted : FactsOf → List ℕ → Option StateParts
  pub accepts : FactsOf → List ℕ → StateParts → Bool
  -- the calls of all parts
  pub calls : FactsOf → List Call
  -- the calls of an exit, none while a channel with a held chain isn't final; and whether the participant can still
  -- get more of an asset than it was paid
  pub exits : FactsOf → List Call
  pub is_owed : FactsOf → Bool
  -- the fixed parts, people and amounts of a command that opens fit the facts
  pub fits : FactsOf → Command → Bool
  -- the participant may let go of a part this way
  pub releases : FactsOf → Release → Part → Bool
