-- Outcomes as a script writes them: by names.
use Rattle.std.specs.Prelude.{ℕ, ◌==◌, Bool, false, Option, Some, None, List, [], Result, Ok, Err, codes, if◌then◌else◌}
use Rattle.serde_json.specs.Data.{Data, Items}
use Rattle.serde_json.specs.Find.{as_array, at}
use Rattle.script_steps.specs.Rules.{◌>>=◌, given, holds}
use Rattle.script_reader.specs.Kinds.{item_count, has_keys, many_in, name_of, number_of, name_at, names_at, number_at, array_at}
use Rattle.script_steps.specs.declared.step.Rule.{Rule}
use Rattle.script_steps.specs.declared.step.Rule.TheVariants as rules
use Rattle.script_reader.specs.declared.written.Holding.{Holding}
use Rattle.script_reader.specs.declared.written.WrittenShape.{WrittenShape}
use Rattle.script_reader.specs.declared.written.WrittenShape.TheVariants as shapes
use Rattle.script_reader.specs.declared.written.WrittenAsset.{WrittenAsset}

abbrev pub counts : Option Items → ℕ → Bool
counts None n = false
counts (Some ds) n = item_count ds == n

-- an array of so many items
abbrev pub has_items : Data → ℕ → Bool
has_items d n = counts (as_array d) n

-- ["A",5]
abbrev pub holding_of : Data → Result Holding Rule
holding_of d = do
  pair ← holds rules.Shape (has_items d 2)
  first ← given rules.Shape (at 0 d)
  second ← given rules.Shape (at 1 d)
  to ← name_of first
  amount ← number_of second
  Ok (record { to = to; amount = amount })

-- {"asset":0,"items":[["A",5],["B",3]]}
abbrev pub items_of : Data → Result WrittenShape Rule
items_of d = do
  values ← array_at (codes "items") d
  holdings ← many_in holding_of [] values
  Ok (shapes.Items holdings)

-- {"asset":0,"target":"J","list":["X","A","I"]}
abbrev pub list_of : Data → Result WrittenShape Rule
list_of d = do
  target ← name_at (codes "target") d
  list ← names_at (codes "list") d
  Ok (shapes.List target list)

abbrev pub shape_of : Data → Result WrittenShape Rule
shape_of d = if has_keys d 2 then items_of d else (if has_keys d 3 then list_of d else Err rules.Shape)

abbrev pub asset_of : Data → Result WrittenAsset Rule
asset_of d = do
  asset ← number_at (codes "asset") d
  shape ← shape_of d
  Ok (record { asset = asset; shape = shape })

-- an array of such assets
abbrev pub outcome_at : List ℕ → Data → Result (List WrittenAsset) Rule
outcome_at key d = array_at key d >>= many_in asset_of []
