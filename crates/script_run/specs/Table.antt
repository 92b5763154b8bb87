-- The tables that these laws are about: those of the network's node.
use Rattle.std.specs.Prelude.{◌==◌, ℕ, Bool, List}
use Rattle.funding_plans.specs.Known.{FactsOf}
use Rattle.funding_plans.specs.Parts.{running}
use Rattle.funding_plans.specs.declared.plan.Part.TheVariants.{Root}
use Rattle.channel_node.specs.Tables.{Tables}
use Rattle.stage_tables.specs.Stages as network

abbrev pub stages : Tables
stages = network.stages

-- a channel that holds its own funds runs
abbrev pub is_running : FactsOf → List ℕ → Bool
is_running f channel = stages.stage f (Root channel) == running (Root channel)
