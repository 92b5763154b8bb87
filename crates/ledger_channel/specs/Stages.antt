-- What a participant's facts make of a channel that holds its own funds, or that a ledger funds. That is its stage,
-- what the stage wants and calls, and what is taken from others.
use Rattle.std.specs.Prelude.{ℕ, ◌==◌, Bool, false, ◌&&◌, List, [], ◌∷◌, Option, Some, None}
use Rattle.std.specs.Str.{bytes_eq}
use Rattle.channel_values.specs.declared.chain.Chain.{Chain}
use Rattle.channel_values.specs.declared.value.AssetOutcome.{AssetOutcome}
use Rattle.channel_values.specs.Parts.{StateParts}
use Rattle.call_history.specs.declared.standing.Standing.{Standing}
use Rattle.call_history.specs.declared.standing.Standing.TheVariants.{Open}
use Rattle.call_history.specs.Mode.{mode_at}
use Rattle.call_history.specs.declared.call.Call.{Call}
use Rattle.call_history.specs.declared.held_chain.HeldChain.{HeldChain}
use Rattle.call_history.specs.declared.view.ChannelView.{ChannelView}
use Rattle.funding_plans.specs.Known.{FactsOf}
use Rattle.funding_plans.specs.declared.plan.Goal.{Goal}
use Rattle.funding_plans.specs.declared.plan.Part.{Part}
use Rattle.funding_plans.specs.declared.plan.Part.TheVariants.{Root, OnLedger}
use Rattle.funding_plans.specs.Seats.{Seat}
use Rattle.funding_plans.specs.Rows.{stage_in, wanted_in, called_in}
use Rattle.funding_plans.specs.Gathered.{chain_in, view_in, goal_in, seat_in, child_for}
use Rattle.funding_plans.specs.declared.child.Child.{Child}
use Rattle.ledger_channel.specs.Roots.{Direct, root_rows, root_takes, root_settles, root_abandons}
use Rattle.ledger_channel.specs.OnLedgers.{Funded, on_ledger_rows, on_ledger_takes}

-- ---- a channel that holds its own funds

abbrev pub standing_in : ℕ → Option ChannelView → Standing
standing_in now None = Open
standing_in now (Some v) = mode_at v.deadline now

abbrev pub held_in : Option ChannelView → List (ℕ × ℕ)
held_in None = []
held_in (Some v) = v.held

abbrev pub settled_in : Option ChannelView → Option (List AssetOutcome)
settled_in None = None
settled_in (Some v) = v.settled

abbrev pub rest_in : Option ChannelView → Option (List AssetOutcome)
rest_in None = None
rest_in (Some v) = v.rest

abbrev pub pays_in : Option HeldChain → Bool
pays_in None = false
pays_in (Some h) = h.chain.fixed.app == 1

abbrev pub chain_of : Option HeldChain → Option Chain
chain_of None = None
chain_of (Some h) = Some h.chain

abbrev pub direct_with : FactsOf → Seat → Goal → Option HeldChain → Option ChannelView → Direct
direct_with f c g h v = record {
  channel = c;
  who = f.me;
  closing = g.closing;
  over = g.over;
  pays = pays_in h;
  standing = standing_in f.view.now v;
  held = held_in v;
  settled = settled_in v;
  rest = rest_in v;
  chain = chain_of h;
}

abbrev pub direct_of : FactsOf → List ℕ → Option Seat → Option Goal → Option Direct
direct_of f name (Some c) (Some g) = Some (direct_with f c g (chain_in name f.chains) (view_in name f.view.channels))
direct_of f name _ _ = None

abbrev pub direct_in : FactsOf → List ℕ → Option Direct
direct_in f name = direct_of f name (seat_in f name) (goal_in f name)

-- ---- a channel that a ledger funds

-- one asset is set aside for it, that of its opening outcome
abbrev pub child_of : List ℕ → List (List ℕ) → Goal → List AssetOutcome → Option Child
child_of name people g [] = None
child_of name people g (o ∷ os) = child_for o.asset name g.amounts people

abbrev pub funded_with : Seat → Seat → Goal → Option Child → Option Funded
funded_with c ledger g None = None
funded_with c ledger g (Some child) = Some (record { channel = c; ledger = ledger; child = child; closing = g.closing })

abbrev pub funded_of : List ℕ → Option Seat → Option Seat → Option Goal → Option Funded
funded_of name (Some c) (Some ledger) (Some g) = funded_with c ledger g (child_of name ledger.people g g.opening)
funded_of name _ _ _ = None

abbrev pub funded_in : FactsOf → List ℕ → List ℕ → Option Funded
funded_in f ledger name = funded_of name (seat_in f name) (seat_in f ledger) (goal_in f name)

-- ---- either

abbrev pub stage_of_root : Option Direct → ℕ
stage_of_root None = 0
stage_of_root (Some d) = stage_in (root_rows d)

abbrev pub stage_on_ledger : Option Funded → ℕ
stage_on_ledger None = 0
stage_on_ledger (Some p) = stage_in (on_ledger_rows p)

abbrev pub stage_of : FactsOf → Part → ℕ
stage_of f (Root name) = stage_of_root (direct_in f name)
stage_of f (OnLedger ledger name) = stage_on_ledger (funded_in f ledger name)
stage_of f _ = 0

abbrev pub wanted_of_root : List ℕ → Option Direct → Option StateParts
wanted_of_root channel None = None
wanted_of_root channel (Some d) = wanted_in channel (root_rows d)

abbrev pub wanted_on_ledger : List ℕ → Option Funded → Option StateParts
wanted_on_ledger channel None = None
wanted_on_ledger channel (Some p) = wanted_in channel (on_ledger_rows p)

-- what the stage wants in a channel
abbrev pub wanted_of : FactsOf → Part → List ℕ → Option StateParts
wanted_of f (Root name) channel = wanted_of_root channel (direct_in f name)
wanted_of f (OnLedger ledger name) channel = wanted_on_ledger channel (funded_in f ledger name)
wanted_of f _ channel = None

abbrev pub called_of_root : Option Direct → List Call
called_of_root None = []
called_of_root (Some d) = called_in (root_rows d)

-- what the stage calls
abbrev pub called_of : FactsOf → Part → List Call
called_of f (Root name) = called_of_root (direct_in f name)
called_of f _ = []

abbrev pub taken_of_root : List ℕ → StateParts → Option Direct → Bool
taken_of_root channel s None = false
taken_of_root channel s (Some d) = bytes_eq d.channel.name channel && root_takes d s

abbrev pub taken_on_ledger : List ℕ → StateParts → Option Funded → Bool
taken_on_ledger channel s None = false
taken_on_ledger channel s (Some p) = on_ledger_takes p channel s

-- whether a state of a channel is taken from another
abbrev pub takes_of : FactsOf → Part → List ℕ → StateParts → Bool
takes_of f (Root name) channel s = taken_of_root channel s (direct_in f name)
takes_of f (OnLedger ledger name) channel s = taken_on_ledger channel s (funded_in f ledger name)
takes_of f _ channel s = false

abbrev pub settles_of_root : Option Direct → Bool
settles_of_root None = false
settles_of_root (Some d) = root_settles d

abbrev pub abandons_of_root : Option Direct → Bool
abandons_of_root None = false
abandons_of_root (Some d) = root_abandons d

-- whether the participant may let go of it: of a channel that holds its own funds that is final, or that opens
abbrev pub settles_of : FactsOf → Part → Bool
settles_of f (Root name) = settles_of_root (direct_in f name)
settles_of f _ = false

abbrev pub abandons_of : FactsOf → Part → Bool
abandons_of f (Root name) = abandons_of_root (direct_in f name)
abandons_of f _ = false
