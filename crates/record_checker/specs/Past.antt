-- What a checker keeps of a history, the newest entry first, beside its adjudicator: of each channel what is left of
-- the outcome that it settled on.
use Rattle.std.specs.Prelude.{◌≡◌, ◌-◌, ℕ, List, [], ◌∷◌, Option, Some, None, unwrap_or, if◌then◌else◌}
use Rattle.std.specs.Map.{lookup}
use Rattle.std.specs.Str.{bytes_eq}
use Rattle.channel_values.specs.declared.value.AssetOutcome.{AssetOutcome}
use Rattle.call_history.specs.History.{is_accepted, flow_of, rest_of_channel}
use Rattle.call_history.specs.Naming.{name_of}
use Rattle.call_history.specs.declared.call.Call.TheVariants.{Challenge, Conclude, Transfer, Claim}
use Rattle.call_history.specs.declared.call.Op.{Op}
use Rattle.call_history.specs.declared.call.Op.TheVariants as ops
use Rattle.call_history.specs.declared.entry.Entry.{Entry}
use Rattle.call_history.specs.declared.funds.Flow.{Flow}
use Rattle.call_history.specs.declared.view.WorldView.{WorldView}
use Rattle.adjudicator.specs.Standing.{Standing, StandsFor}
use Rattle.history_view.specs.Views.{view_of, followed}
use Rattle.support_rules.specs.Real.{real}

-- a table: a channel that isn't in it settled on nothing
abbrev pub Rests : Type 0
Rests = List (List ℕ × Option (List AssetOutcome))

abbrev pub rest_in : Rests → List ℕ → Option (List AssetOutcome)
rest_in rests channel = unwrap_or (lookup (bytes_eq channel) rests) None

abbrev pub AreRests : List Entry → Rests → Type 0
AreRests h rests = (channel : List ℕ) → rest_in rests channel ≡ rest_of_channel real channel h

-- an adjudicator and a table stand for a history
pub record IsPast (h : List Entry) (a : Standing) (rests : Rests) : Type 0 where
  pub stands : StandsFor real h a
  pub left : AreRests h rests

-- ---- one more entry

-- the channel of whose outcome a call may change what is left
abbrev pub changed_by : Op → Option (List ℕ)
changed_by (ops.Call (Challenge k)) = Some (name_of k.chain.fixed)
changed_by (ops.Call (Conclude chain)) = Some (name_of chain.fixed)
changed_by (ops.Call (Transfer k)) = Some k.channel
changed_by (ops.Call (Claim k)) = Some k.target
changed_by _ = None

abbrev pub changed : Entry → Option (List ℕ)
changed e = if is_accepted e.reply then changed_by e.op else None

-- what a call moves
abbrev pub first_amount : List Flow → ℕ
first_amount [] = 0
first_amount (flow ∷ flows) = flow.amount

abbrev pub moved : Entry → ℕ
moved e = first_amount (flow_of e.op e.reply)

-- a view that knows of one channel, and of it no more than what is left, before the entry of this number
abbrev pub alone : (now number : ℕ) → (channel : List ℕ) → Option (List AssetOutcome) → WorldView
alone now number channel rest =
    record {
      now = now;
      count = number - 1;
      channels =
          record { channel = channel; turn = 0; deadline = None; held = []; shown = None; settled = None; rest = rest } ∷ [];
      paid = [];
    }

-- what is left by such a view that follows the entry
abbrev pub rest_after : (now : ℕ) → Entry → (channel : List ℕ) → Option (List AssetOutcome) → Option (List AssetOutcome)
rest_after now e channel rest = (view_of (followed name_of e (alone now e.number channel rest)).channels channel).rest
