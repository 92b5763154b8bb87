-- Where the names of an outcome lead, by what earlier steps declared.
use Rattle.std.specs.Prelude.{◌&&◌, ◌^◌, ℕ, List, [], ◌∷◌, ◌++◌, Bool, nat_lt, is_ok, Option, Some, None, Result, Ok, Err}
use Rattle.std.specs.List.{list_all}
use Rattle.network.specs.declared.command.Route.TheVariants.{Plain}
use Rattle.channel_values.specs.declared.value.Dest.{Dest}
use Rattle.channel_values.specs.declared.value.Dest.TheVariants as dests
use Rattle.channel_values.specs.declared.value.Item.{Item}
use Rattle.channel_values.specs.declared.value.Shape.{Shape}
use Rattle.channel_values.specs.declared.value.Shape.TheVariants.{Allocation, Guarantee}
use Rattle.channel_values.specs.declared.value.AssetOutcome.{AssetOutcome}
use Rattle.channel_values.specs.Spelling.{outcome}
use Rattle.channel_values.specs.Reading.{outcome_of}
use Rattle.script_steps.specs.Context.{person_by, channel_by, knows}
use Rattle.script_steps.specs.Rules.{◌>>=◌, given, holds}
use Rattle.script_steps.specs.declared.context.Channel.{Channel}
use Rattle.script_steps.specs.declared.context.Context.{Context}
use Rattle.script_steps.specs.declared.context.Kind.TheVariants as kinds
use Rattle.script_steps.specs.declared.context.Person.{Person}
use Rattle.script_steps.specs.declared.step.Rule.{Rule}
use Rattle.script_steps.specs.declared.step.Rule.TheVariants as rules
use Rattle.script_steps.specs.declared.step.Step.{Step}
use Rattle.script_steps.specs.declared.step.Step.TheVariants as steps
use Rattle.script_reader.specs.declared.written.Holding.{Holding}
use Rattle.script_reader.specs.declared.written.OpenKeys.{OpenKeys}
use Rattle.script_reader.specs.declared.written.OpenOnKeys.{OpenOnKeys}
use Rattle.script_reader.specs.declared.written.OpenVirtualKeys.{OpenVirtualKeys}
use Rattle.script_reader.specs.declared.written.SignKeys.{SignKeys}
use Rattle.script_reader.specs.declared.written.Written.{Written}
use Rattle.script_reader.specs.declared.written.Written.TheVariants as written
use Rattle.script_reader.specs.declared.written.WrittenShape.{WrittenShape}
use Rattle.script_reader.specs.declared.written.WrittenShape.TheVariants as shapes
use Rattle.script_reader.specs.declared.written.WrittenAsset.{WrittenAsset}

abbrev pub knows_shape : Context → WrittenShape → Bool
knows_shape c (shapes.Items holdings) = list_all (λ h. knows c kinds.Dest h.to) holdings
knows_shape c (shapes.List target list) = knows c kinds.Channel target && list_all (knows c kinds.Dest) list

-- each name of the outcome is declared, and a target is a channel
abbrev pub knows_outcome : Context → List WrittenAsset → Bool
knows_outcome c os = list_all (λ o. knows_shape c o.shape) os

abbrev pub either_dest : Option Person → Option Channel → Result Dest Rule
either_dest (Some person) channel = Ok (dests.Person person.digest)
either_dest None (Some channel) = Ok (dests.Channel channel.digest)
either_dest None None = Err rules.Name

-- the person or the channel of a name
abbrev pub dest_of : Context → List ℕ → Result Dest Rule
dest_of c name = either_dest (person_by c name) (channel_by c name)

abbrev pub item_of : Context → Holding → Result Item Rule
item_of c h = do
  to ← dest_of c h.to
  Ok (record { to = to; amount = h.amount })

-- what one after another gives, after those seen
abbrev pub each : {A X : Type 0} → (A → Result X Rule) → List X → List A → Result (List X) Rule
each one seen [] = Ok seen
each one seen (a ∷ rest) = one a >>= λ x. each one (seen ++ x ∷ []) rest

abbrev pub shape_in : Context → WrittenShape → Result Shape Rule
shape_in c (shapes.Items holdings) = do
  items ← each (item_of c) [] holdings
  Ok (Allocation items)
shape_in c (shapes.List target list) = do
  channel ← given rules.Name (channel_by c target)
  dests ← each (dest_of c) [] list
  Ok (Guarantee channel.digest dests)

abbrev pub asset_in : Context → WrittenAsset → Result AssetOutcome Rule
asset_in c o = do
  shape ← shape_in c o.shape
  small ← holds rules.Limit (nat_lt o.asset (2 ^ 32))
  Ok (record { asset = o.asset; shape = shape })

-- reading the spelling of the assets gives an outcome
abbrev pub is_outcome : List AssetOutcome → Bool
is_outcome assets = is_ok (outcome_of (outcome assets))

-- the outcome that the names give, if it is one
abbrev pub outcome_in : Context → List WrittenAsset → Result (List AssetOutcome) Rule
outcome_in c os = do
  assets ← each (asset_in c) [] os
  valid ← holds rules.Limit (is_outcome assets)
  Ok assets

-- exactly two amounts
abbrev pub pair_in : List ℕ → Result (ℕ × ℕ) Rule
pair_in (a ∷ b ∷ []) = Ok (a, b)
pair_in amounts = Err rules.Limit

-- the steps of written keys, with their outcomes or amounts
abbrev pub sign_step : SignKeys → (outcome proposal : List AssetOutcome) → Step
sign_step k outcome proposal =
    steps.Sign (record {
      name = k.name;
      channel = k.channel;
      by = k.by;
      turn = k.turn;
      is_final = k.is_final;
      outcome = outcome;
      votes = k.votes;
      proposal = proposal;
    })

abbrev pub open_step : OpenKeys → List AssetOutcome → Step
open_step k outcome = steps.Open (record { who = k.who; channel = k.channel; outcome = outcome })

abbrev pub open_on_step : OpenOnKeys → ℕ × ℕ → Step
open_on_step k amounts = steps.OpenOn (record { who = k.who; ledger = k.ledger; channel = k.channel; asset = k.asset; amounts = amounts })

abbrev pub open_virtual_step : OpenVirtualKeys → ℕ × ℕ → Step
open_virtual_step k amounts =
    steps.OpenVirtual (record {
      who = k.who;
      route = Plain;
      ledgers = k.ledgers;
      guarantors = k.guarantors;
      joint = k.joint;
      channel = k.channel;
      asset = k.asset;
      amounts = amounts;
    })

abbrev pub signed : Context → SignKeys → Result Step Rule
signed c k = do
  outcome ← outcome_in c k.outcome
  proposal ← outcome_in c k.proposal
  Ok (sign_step k outcome proposal)

abbrev pub opened : Context → OpenKeys → Result Step Rule
opened c k = do
  outcome ← outcome_in c k.outcome
  Ok (open_step k outcome)

abbrev pub opened_on : OpenOnKeys → Result Step Rule
opened_on k = do
  amounts ← pair_in k.amounts
  Ok (open_on_step k amounts)

abbrev pub opened_virtual : OpenVirtualKeys → Result Step Rule
opened_virtual k = do
  amounts ← pair_in k.amounts
  Ok (open_virtual_step k amounts)

-- the step with the outcomes that its names give, and with its two amounts
abbrev pub resolved : Context → Written → Result Step Rule
resolved c (written.Plain s) = Ok s
resolved c (written.Sign k) = signed c k
resolved c (written.Open k) = opened c k
resolved c (written.OpenOn k) = opened_on k
resolved c (written.OpenVirtual k) = opened_virtual k
