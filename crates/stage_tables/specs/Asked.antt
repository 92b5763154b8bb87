-- The stage of a part of any kind, and which part is asked about a channel.
use Rattle.std.specs.Prelude.{ℕ, Bool, false, not, ◌&&◌, ◌==◌, nat_lt, List, [], ◌∷◌, Option, Some, None, if◌then◌else◌}
use Rattle.std.specs.Option.{option_or}
use Rattle.channel_values.specs.Parts.{StateParts}
use Rattle.call_history.specs.Flows.{is_among}
use Rattle.funding_plans.specs.Known.{FactsOf}
use Rattle.funding_plans.specs.Parts.{own_channel, joined_of, ledgers_of, running, closed}
use Rattle.funding_plans.specs.declared.plan.Goal.{Goal}
use Rattle.funding_plans.specs.declared.plan.Part.{Part}
use Rattle.funding_plans.specs.declared.plan.Part.TheVariants.{Root, OnLedger, End, Middle}
use Rattle.funding_plans.specs.Gathered.{goal_in}
use Rattle.ledger_channel.specs.Stages as ledgers
use Rattle.virtual_channel.specs.Stages as virtuals

abbrev pub stage_of : FactsOf → Part → ℕ
stage_of f (Root name) = ledgers.stage_of f (Root name)
stage_of f (OnLedger ledger name) = ledgers.stage_of f (OnLedger ledger name)
stage_of f (End v) = virtuals.stage_of f (End v)
stage_of f (Middle v) = virtuals.stage_of f (Middle v)

abbrev pub is_closing : Option Goal → Bool
is_closing None = false
is_closing (Some g) = g.closing

-- a part is unfinished until it runs, and from Close until it is closed
abbrev pub is_unfinished_at : Part → Bool → ℕ → Bool
is_unfinished_at part closing stage = if closing then not (stage == closed part) else nat_lt stage (running part)

abbrev pub is_unfinished : FactsOf → Part → Bool
is_unfinished f part = is_unfinished_at part (is_closing (goal_in f (own_channel part))) (stage_of f part)

-- the first unfinished part that stands on a ledger
abbrev pub unfinished_on : FactsOf → List ℕ → List Part → Option Part
unfinished_on f name [] = None
unfinished_on f name (p ∷ ps) = if is_among name (ledgers_of p) && is_unfinished f p then Some p else unfinished_on f name ps

-- the part that has the channel
abbrev pub part_with : List ℕ → List Part → Option Part
part_with name [] = None
part_with name (p ∷ ps) = if is_among name (joined_of p) then Some p else part_with name ps

-- The part that is asked about a channel: the unfinished one that stands on it, and else its own.
abbrev pub asked_in : FactsOf → List ℕ → Option Part
asked_in f name = option_or (unfinished_on f name f.plan.parts) (part_with name f.plan.parts)

-- ---- what that part wants and takes

abbrev pub wanted_of : FactsOf → List ℕ → Option Part → Option StateParts
wanted_of f name None = None
wanted_of f name (Some (Root root)) = ledgers.wanted_of f (Root root) name
wanted_of f name (Some (OnLedger ledger channel)) = ledgers.wanted_of f (OnLedger ledger channel) name
wanted_of f name (Some (End v)) = virtuals.wanted_of f (End v) name
wanted_of f name (Some (Middle v)) = virtuals.wanted_of f (Middle v) name

abbrev pub wanted_in : FactsOf → List ℕ → Option StateParts
wanted_in f name = wanted_of f name (asked_in f name)

abbrev pub takes_of : FactsOf → List ℕ → StateParts → Option Part → Bool
takes_of f name s None = false
takes_of f name s (Some (Root root)) = ledgers.takes_of f (Root root) name s
takes_of f name s (Some (OnLedger ledger channel)) = ledgers.takes_of f (OnLedger ledger channel) name s
takes_of f name s (Some (End v)) = virtuals.takes_of f (End v) name s
takes_of f name s (Some (Middle v)) = virtuals.takes_of f (Middle v) name s

abbrev pub takes_in : FactsOf → List ℕ → StateParts → Bool
takes_in f name s = takes_of f name s (asked_in f name)
