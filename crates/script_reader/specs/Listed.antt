-- The items of a script, before any of them is read.
use Rattle.std.specs.Prelude.{Bool, nat_le, Result, Ok, codes}
use Rattle.serde_json.specs.Data.{Data, Items}
use Rattle.script_steps.specs.Rules.{◌>>=◌, holds}
use Rattle.script_reader.specs.Kinds.{keys, array_at, item_count}
use Rattle.script_steps.specs.declared.step.Rule.{Rule}
use Rattle.script_steps.specs.declared.step.Rule.TheVariants as rules

-- at most 4,096 items
abbrev pub few_items : Items → Bool
few_items items = nat_le (item_count items) 4096

-- an object with the one key `steps`, an array of few items
abbrev pub listed : Data → Result Items Rule
listed d = do
  no_more ← keys 1 d
  items ← array_at (codes "steps") d
  few ← holds rules.Limit (few_items items)
  Ok items
