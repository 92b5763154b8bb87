-- Channels by their fixed parts.
use Rattle.std.specs.Prelude.{ℕ, List, [], Bool, is_ok, if◌then◌else◌, Result, Ok, Err, codes}
use Rattle.std.specs.Str.{bytes_eq}
use Rattle.serde_json.specs.Data.{Data}
use Rattle.channel_values.specs.Parts.{FixedParts, fixed_with}
use Rattle.channel_values.specs.Reading.{fixed_of}
use Rattle.channel_values.specs.Spelling.{fixed}
use Rattle.node_lines.specs.Faults.{◌>>=◌, holds}
use Rattle.node_lines.specs.Values.{keys, value_at, array_at, many_in, pair_of, number_at, small_at, text_at, key_of}
use Rattle.node_lines.specs.declared.faults.Invalid.{Invalid}
use Rattle.node_lines.specs.declared.faults.Invalid.TheVariants as faults

-- the number of an application
abbrev pub app_in : List ℕ → Result ℕ Invalid
app_in text =
    if bytes_eq text (codes "consensus") then Ok 0 else (
    if bytes_eq text (codes "payment") then Ok 1 else (
    if bytes_eq text (codes "fixed") then Ok 2 else Err faults.Shape))

abbrev pub app_at : List ℕ → Data → Result ℕ Invalid
app_at key d = text_at key d >>= app_in

abbrev pub people_at : List ℕ → Data → Result (List (List ℕ)) Invalid
people_at key d = array_at key d >>= many_in key_of []

-- reading the spelling of the parts gives a fixed part
abbrev pub is_fixed : FixedParts → Bool
is_fixed f = is_ok (fixed_of (fixed f))

-- the parts, if they are of a channel
abbrev pub fixed_in : FixedParts → Result FixedParts Invalid
fixed_in f = do
  valid ← holds faults.Limit (is_fixed f)
  Ok f

-- {"people":["KEY","KEY"],"nonce":1,"app":"payment","duration":10}
abbrev pub channel_of : Data → Result FixedParts Invalid
channel_of d = do
  no_more ← keys 4 d
  people ← people_at (codes "people") d
  nonce ← number_at (codes "nonce") d
  app ← app_at (codes "app") d
  duration ← small_at (codes "duration") d
  fixed_in (fixed_with people nonce app duration)

abbrev pub channel_at : List ℕ → Data → Result FixedParts Invalid
channel_at key d = value_at key d >>= channel_of

-- two channels
abbrev pub channels_at : List ℕ → Data → Result (FixedParts × FixedParts) Invalid
channels_at key d = value_at key d >>= pair_of channel_of
