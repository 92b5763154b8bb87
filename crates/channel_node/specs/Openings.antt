-- What the commands that open add to a plan.
use Rattle.std.specs.Prelude.{ℕ, ◌+◌, ◌==◌, Bool, not, ◌&&◌, nat_lt, true, false, List, [], ◌∷◌, length, filter, slice_index_or, Option, Some, None, if◌then◌else◌}
use Rattle.std.specs.List.{position_or_len}
use Rattle.std.specs.Str.{bytes_eq}
use Rattle.channel_values.specs.Parts.{FixedParts}
use Rattle.channel_values.specs.declared.value.AssetOutcome.{AssetOutcome}
use Rattle.channel_values.specs.declared.value.Dest.TheVariants.{Person}
use Rattle.channel_values.specs.declared.value.Shape.TheVariants.{Allocation}
use Rattle.channel_values.specs.Rules.{Rules}
use Rattle.call_history.specs.Flows.{is_among}
use Rattle.support_rules.specs.Steps.{persons}
use Rattle.channel_store.specs.Storing.{added}
use Rattle.channel_store.specs.declared.kept.Kept.{Kept}
use Rattle.funding_plans.specs.declared.plan.Goal.{Goal}
use Rattle.funding_plans.specs.declared.plan.Part.{Part}
use Rattle.funding_plans.specs.declared.plan.Part.TheVariants.{Root, OnLedger, End, Middle}
use Rattle.funding_plans.specs.declared.plan.Virtual.{Virtual}
use Rattle.network.specs.declared.command.Command.{Command}
use Rattle.network.specs.declared.command.Command.TheVariants.{Open, OpenOn, OpenVirtual}

-- ---- the channels

-- the fixed parts of the channels that a command opens: guarantors, joint channel, payment channel
abbrev pub opened_by : Command → List FixedParts
opened_by (Open f outcome) = f ∷ []
opened_by (OpenOn o) = o.fixed ∷ []
opened_by (OpenVirtual v) = v.guarantors.0 ∷ v.guarantors.1 ∷ v.joint ∷ v.channel ∷ []
opened_by _ = []

-- the position of a key among a channel's, or how many keys it has
abbrev pub place_among : List ℕ → FixedParts → ℕ
place_among key f = position_or_len (bytes_eq key) f.keys

-- the key is one of the channel's
abbrev pub takes_part : List ℕ → FixedParts → Bool
takes_part key f = nat_lt (place_among key f) (length f.keys)

-- those of them in which the participant with this key is one
abbrev pub adds : List ℕ → Option Command → List FixedParts
adds key None = []
adds key (Some command) = filter (takes_part key) (opened_by command)

-- of such a channel nothing was noted yet
abbrev pub opened : Rules → List ℕ → FixedParts → Kept
opened r key f = record (added f (place_among key f)) { channel = r.named f }

-- no name stands twice among these
abbrev pub are_apart : List (List ℕ) → Bool
are_apart [] = true
are_apart (name ∷ names) = not (is_among name names) && are_apart names

-- ---- the part

-- the payment channel's people say which end it is: the second is B
abbrev pub virtual : Rules → List ℕ → (List ℕ × List ℕ) → (FixedParts × FixedParts) → FixedParts → FixedParts → ℕ → (ℕ × ℕ) → Virtual
virtual r key ledgers guarantors joint channel asset amounts =
    record {
      ledger_a = ledgers.0;
      ledger_b = ledgers.1;
      guarantor_a = r.named guarantors.0;
      guarantor_b = r.named guarantors.1;
      joint = r.named joint;
      channel = r.named channel;
      asset = asset;
      total = amounts.0 + amounts.1;
      side_b = takes_part key channel && (place_among key channel == 1);
    }

-- the part of a command that opens, for the participant with this key
abbrev pub parts_of : Rules → List ℕ → Command → List Part
parts_of r key (Open f outcome) = Root (r.named f) ∷ []
parts_of r key (OpenOn o) = OnLedger o.ledger (r.named o.fixed) ∷ []
parts_of r key (OpenVirtual v) =
    if takes_part key v.channel
    then End (virtual r key v.ledgers v.guarantors v.joint v.channel v.asset v.amounts) ∷ []
    else Middle (virtual r key v.ledgers v.guarantors v.joint v.channel v.asset v.amounts) ∷ []
parts_of r key _ = []

-- the ledgers that the part stands on
abbrev pub ledgers_for : List ℕ → Command → List (List ℕ)
ledgers_for key (OpenOn o) = o.ledger ∷ []
ledgers_for key (OpenVirtual v) =
    if takes_part key v.channel
    then (if place_among key v.channel == 1 then v.ledgers.1 else v.ledgers.0) ∷ []
    else v.ledgers.0 ∷ v.ledgers.1 ∷ []
ledgers_for key _ = []

-- ---- the goal

-- a payment channel opens with an amount for each of its two people
abbrev pub shared : FixedParts → ℕ → (ℕ × ℕ) → List AssetOutcome
shared f asset amounts =
    record {
      asset = asset;
      shape = Allocation (record { to = Person (slice_index_or (persons f) 0 []); amount = amounts.0 }
          ∷ record { to = Person (slice_index_or (persons f) 1 []); amount = amounts.1 } ∷ []);
    } ∷ []

abbrev pub goal_with : ℕ → List AssetOutcome → (ℕ × ℕ) → Goal
goal_with part opening amounts = record { part = part; opening = opening; amounts = amounts; closing = false; over = false }

-- what is commanded of the part, which gets this place in the plan
abbrev pub goals_of : ℕ → Command → List Goal
goals_of part (Open f outcome) = goal_with part outcome (0, 0) ∷ []
goals_of part (OpenOn o) = goal_with part (shared o.fixed o.asset o.amounts) o.amounts ∷ []
goals_of part (OpenVirtual v) = goal_with part (shared v.channel v.asset v.amounts) v.amounts ∷ []
goals_of part _ = []
