-- The refusals of a message by what noting its state says.
use Rattle.std.specs.Prelude.{List, ℕ, not, Option}
use Rattle.channel_values.specs.Parts.{StateParts}
use Rattle.channel_values.specs.Words.{fault_if, ◌⊳◌}
use Rattle.call_history.specs.declared.event.NodeRefusal.{NodeRefusal}
use Rattle.call_history.specs.declared.event.NodeRefusal.TheVariants.{UnknownChannel, NotNext, BadSignature, NotAStep, NotWanted}
use Rattle.channel_store.specs.declared.fault.NoteFault.{NoteFault}
use Rattle.channel_store.specs.declared.fault.NoteFault.TheVariants as faults
use Rattle.funding_plans.specs.Known.{FactsOf}
use Rattle.channel_node.specs.Minds.{Mind, facts_of}
use Rattle.channel_node.specs.Refusing.{has_left, stage_of}
use Rattle.channel_node.specs.Tables.{Tables}

-- noting answers that memory ran out only where it does more than check
abbrev pub told : NoteFault → NodeRefusal
told faults.Unknown = UnknownChannel
told (faults.NotNext turn) = NotNext turn
told faults.BadSignature = BadSignature
told (faults.BadStep fault) = NotAStep
told faults.NoMemory = NotAStep

-- the part that is asked doesn't take it
abbrev pub not_accepted : Tables → FactsOf → List ℕ → StateParts → Option NodeRefusal
not_accepted t f channel s = fault_if (not (t.accepts f channel s)) (NotWanted (stage_of t f (t.asked f channel)))

-- the last lines: the node left, or that part doesn't take it
abbrev pub not_taken : Tables → Mind → List ℕ → StateParts → Option NodeRefusal
not_taken t m channel s = has_left m ⊳ not_accepted t (facts_of m) channel s
