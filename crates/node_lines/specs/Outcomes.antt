-- Outcomes that a channel is opened with.
use Rattle.std.specs.Prelude.{ℕ, ◌==◌, List, [], length, Bool, is_ok, if◌then◌else◌, Result, Ok, codes}
use Rattle.serde_json.specs.Data.{Data}
use Rattle.channel_values.specs.Digests.{name_of_person}
use Rattle.channel_values.specs.Reading.{outcome_of}
use Rattle.channel_values.specs.Spelling.{outcome}
use Rattle.channel_values.specs.declared.value.AssetOutcome.{AssetOutcome}
use Rattle.channel_values.specs.declared.value.Dest.{Dest}
use Rattle.channel_values.specs.declared.value.Dest.TheVariants as dests
use Rattle.channel_values.specs.declared.value.Item.{Item}
use Rattle.channel_values.specs.declared.value.Shape.TheVariants.{Allocation}
use Rattle.node_lines.specs.Faults.{◌>>=◌, holds}
use Rattle.node_lines.specs.Values.{keys, two_of, array_at, many_in, number_of, small_at, text_of, array_in}
use Rattle.node_lines.specs.declared.faults.Invalid.{Invalid}
use Rattle.node_lines.specs.declared.faults.Invalid.TheVariants as faults

abbrev pub person_in : List ℕ → Result Dest Invalid
person_in text = do
  key ← array_in 56 text
  Ok (dests.Person (name_of_person key))

abbrev pub channel_in : List ℕ → Result Dest Invalid
channel_in text = do
  name ← array_in 32 text
  Ok (dests.Channel name)

-- a person by the 112 digits of a key, or a channel by the 64 digits of its name
abbrev pub dest_in : List ℕ → Result Dest Invalid
dest_in text = if length text == 112 then person_in text else channel_in text

-- ["PLACE",5]
abbrev pub item_of : Data → Result Item Invalid
item_of d = do
  items ← two_of d
  text ← text_of items.0
  to ← dest_in text
  amount ← number_of items.1
  Ok (record { to = to; amount = amount })

-- {"asset":0,"items":[["PLACE",5],["PLACE",3]]}
abbrev pub asset_of : Data → Result AssetOutcome Invalid
asset_of d = do
  no_more ← keys 2 d
  asset ← small_at (codes "asset") d
  values ← array_at (codes "items") d
  items ← many_in item_of [] values
  Ok (record { asset = asset; shape = Allocation items })

-- reading the spelling of the assets gives an outcome
abbrev pub is_outcome : List AssetOutcome → Bool
is_outcome assets = is_ok (outcome_of (outcome assets))

-- an array of such assets
abbrev pub outcome_at : List ℕ → Data → Result (List AssetOutcome) Invalid
outcome_at key d = do
  values ← array_at key d
  assets ← many_in asset_of [] values
  valid ← holds faults.Limit (is_outcome assets)
  Ok assets
