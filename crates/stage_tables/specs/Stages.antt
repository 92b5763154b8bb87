-- The tables of a node.
use Rattle.std.specs.Prelude.{Bool, List}
use Rattle.std.specs.List.{flat_map}
use Rattle.call_history.specs.declared.call.Call.{Call}
use Rattle.funding_plans.specs.Known.{FactsOf}
use Rattle.ledger_channel.specs.Stages.{called_of, settles_of, abandons_of}
use Rattle.channel_node.specs.Tables.{Tables}
use Rattle.stage_tables.specs.Asked.{stage_of, is_unfinished, asked_in, wanted_in, takes_in}
use Rattle.stage_tables.specs.Exiting.{exits_in, is_owed_in}
use Rattle.stage_tables.specs.Fitting.{fits}
use Rattle.funding_plans.specs.declared.plan.Part.{Part}
use Rattle.network.specs.declared.command.Release.{Release}
use Rattle.network.specs.declared.command.Release.TheVariants.{Settle, Abandon}

-- the calls of all parts: those that hold their own funds call, and no other
abbrev pub calls_in : FactsOf → List Call
calls_in f = flat_map (called_of f) f.plan.parts

-- whether a part may be let go of
abbrev pub releases_in : FactsOf → Release → Part → Bool
releases_in f Settle part = settles_of f part
releases_in f Abandon part = abandons_of f part

-- The stages of a plan as they are.
abbrev pub stages : Tables
stages =
    record {
      stage = stage_of;
      is_unfinished = is_unfinished;
      asked = asked_in;
      wanted = wanted_in;
      accepts = takes_in;
      calls = calls_in;
      exits = exits_in;
      is_owed = is_owed_in;
      fits = fits;
      releases = releases_in;
    }
