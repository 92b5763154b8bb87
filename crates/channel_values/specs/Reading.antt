-- Reading from left to right, with the first fault that is met. The place of a byte is the length of the whole input
-- less that of the bytes from there on.
use Rattle.std.specs.Prelude.{◌≡◌, ℕ, zero, suc, true, false, ◌+◌, ◌-◌, ◌^◌, Bool, List, [], ◌∷◌, ◌++◌, length, take, drop, Result, Ok, Err, nat_lt, nat_le, ◌==◌, ◌&&◌, not, if◌then◌else◌}
use Rattle.std.specs.List.{list_any}
use Rattle.std.specs.Str.{bytes_eq}
use Rattle.std.specs.Int.{Width, w16, w32, w64, byte_len, from_be_bytes}
use Rattle.channel_values.specs.declared.fault.ByteFault.{ByteFault}
use Rattle.channel_values.specs.declared.fault.ByteFault.TheVariants as faults
use Rattle.channel_values.specs.declared.value.Dest.{Dest}
use Rattle.channel_values.specs.declared.value.Dest.TheVariants.{Person, Channel}
use Rattle.channel_values.specs.declared.value.Item.{Item}
use Rattle.channel_values.specs.declared.value.Shape.{Shape}
use Rattle.channel_values.specs.declared.value.Shape.TheVariants.{Allocation, Guarantee}
use Rattle.channel_values.specs.declared.value.AssetOutcome.{AssetOutcome}
use Rattle.channel_values.specs.declared.chain.Signed.{Signed}
use Rattle.channel_values.specs.declared.chain.Mark.{Mark}
use Rattle.channel_values.specs.declared.chain.Chain.{Chain}
use Rattle.channel_values.specs.Parts.{FixedParts, StateParts}
use Rattle.channel_values.specs.Outcomes.{is_same, total}

infixl 10 ◌>>=◌
abbrev pub ◌>>=◌ : {A B : Type 0} → Result A ByteFault → (A → Result B ByteFault) → Result B ByteFault
(Ok x) >>= f = f x
(Err e) >>= f = Err e

-- What a function returned, seen by view, is what reading gives, unless memory ran out.
abbrev pub Fails : {Y : Type 0} → ByteFault → Result Y ByteFault → Type 0
Fails faults.NoMemory read = Unit {0}
Fails f read = read ≡ Err f

abbrev pub Gives : {X Y : Type 0} → (X → Y) → Result X ByteFault → Result Y ByteFault → Type 0
Gives view (Ok x) read = read ≡ Ok (view x)
Gives view (Err e) read = Fails e read

-- What a function returned, seen by view, is what reading gives.
abbrev pub Tells : {X Y : Type 0} → (X → Y) → Result X ByteFault → Result Y ByteFault → Type 0
Tells view (Ok x) read = read ≡ Ok (view x)
Tells view (Err e) read = read ≡ Err e

abbrev pub fault_if : Bool → ByteFault → Result ℕ ByteFault
fault_if broken fault = if broken then Err fault else Ok 0

-- A field is a value and the bytes after it.
abbrev pub byte_at : ℕ → List ℕ → Result (ℕ × List ℕ) ByteFault
byte_at whole [] = Err (faults.Cut whole)
byte_at whole (b ∷ rest) = Ok (b, rest)

abbrev pub number_at : ℕ → Width → List ℕ → Result (ℕ × List ℕ) ByteFault
number_at whole w bytes =
    if nat_lt (length bytes) (byte_len w) then Err (faults.Cut whole)
    else Ok (from_be_bytes w (take (byte_len w) bytes), drop (byte_len w) bytes)

-- as many bytes as are asked for
abbrev pub front_at : ℕ → ℕ → List ℕ → Result (List ℕ × List ℕ) ByteFault
front_at whole n bytes = if nat_lt (length bytes) n then Err (faults.Cut whole) else Ok (take n bytes, drop n bytes)

abbrev pub name_at : ℕ → List ℕ → Result (List ℕ × List ℕ) ByteFault
name_at whole bytes = front_at whole 32 bytes

-- a destination, after its tag
abbrev pub tagged : ℕ → (List ℕ → Dest) → List ℕ → Result (Dest × List ℕ) ByteFault
tagged whole make bytes = name_at whole bytes >>= λ name. Ok (make name.0, name.1)

unfoldable pub dest_at : ℕ → List ℕ → Result (Dest × List ℕ) ByteFault
dest_at whole bytes = do
  tag ← byte_at whole bytes
  if tag.0 == 1 then tagged whole (λ n. Person n) tag.1
      else (if tag.0 == 2 then tagged whole (λ n. Channel n) tag.1
      else Err (faults.BadTag (whole - length bytes)))

-- Count values one after the other, after those seen. What may stand next depends on them.
unfoldable pub many_at : {X : Type 0}
    → (List X → List ℕ → Result (X × List ℕ) ByteFault) → List X → ℕ → List ℕ → Result (List X × List ℕ) ByteFault
many_at one seen zero bytes = Ok (seen, bytes)
many_at one seen (suc n) bytes = do
  next ← one seen bytes
  many_at one (seen ++ next.0 ∷ []) n next.1

-- an item after those seen
unfoldable pub item_at : ℕ → List Item → List ℕ → Result (Item × List ℕ) ByteFault
item_at whole seen bytes = do
  to ← dest_at whole bytes
  fresh ← fault_if (list_any (λ i. is_same i.to to.0) seen) (faults.Doubled (whole - length bytes))
  amount ← number_at whole w64 to.1
  fits ← fault_if (nat_le (2 ^ 64) (total seen + amount.0)) (faults.TotalTooLarge (whole - length to.1))
  Ok (record { to = to.0; amount = amount.0 }, amount.1)

-- a destination after those seen
unfoldable pub listed_at : ℕ → List Dest → List ℕ → Result (Dest × List ℕ) ByteFault
listed_at whole seen bytes = do
  to ← dest_at whole bytes
  fresh ← fault_if (list_any (λ d. is_same d to.0) seen) (faults.Doubled (whole - length bytes))
  Ok to

unfoldable pub count_at : ℕ → ℕ → List ℕ → Result (ℕ × List ℕ) ByteFault
count_at whole limit bytes = do
  count ← byte_at whole bytes
  fits ← fault_if (nat_lt limit count.0) (faults.OverLimit (whole - length bytes))
  Ok count

unfoldable pub allocation_at : ℕ → List ℕ → Result (Shape × List ℕ) ByteFault
allocation_at whole bytes = do
  count ← count_at whole 16 bytes
  items ← many_at (item_at whole) [] count.0 count.1
  Ok (Allocation items.0, items.1)

unfoldable pub guarantee_at : ℕ → List ℕ → Result (Shape × List ℕ) ByteFault
guarantee_at whole bytes = do
  target ← name_at whole bytes
  count ← count_at whole 16 target.1
  dests ← many_at (listed_at whole) [] count.0 count.1
  Ok (Guarantee target.0 dests.0, dests.1)

unfoldable pub shape_at : ℕ → List ℕ → Result (Shape × List ℕ) ByteFault
shape_at whole bytes = do
  kind ← byte_at whole bytes
  if kind.0 == 1 then allocation_at whole kind.1
      else (if kind.0 == 2 then guarantee_at whole kind.1
      else Err (faults.BadTag (whole - length bytes)))

-- the outcome of an asset after those seen
unfoldable pub asset_at : ℕ → List AssetOutcome → List ℕ → Result (AssetOutcome × List ℕ) ByteFault
asset_at whole seen bytes = do
  asset ← number_at whole w32 bytes
  above ← fault_if (list_any (λ o. nat_le asset.0 o.asset) seen) (faults.Unordered (whole - length bytes))
  shape ← shape_at whole asset.1
  Ok (record { asset = asset.0; shape = shape.0 }, shape.1)

-- an outcome, and the bytes after it
unfoldable pub outcome_at : ℕ → List ℕ → Result (List AssetOutcome × List ℕ) ByteFault
outcome_at whole bytes = do
  count ← count_at whole 4 bytes
  many_at (asset_at whole) [] count.0 count.1

-- ---- states

unfoldable pub turn_at : ℕ → List ℕ → Result (ℕ × List ℕ) ByteFault
turn_at whole bytes = do
  turn ← number_at whole w64 bytes
  fits ← fault_if (nat_le (2 ^ 48) turn.0) (faults.OverLimit (whole - length bytes))
  Ok turn

unfoldable pub flag_at : ℕ → List ℕ → Result (Bool × List ℕ) ByteFault
flag_at whole bytes = do
  flag ← byte_at whole bytes
  if flag.0 == 0 then Ok (false, flag.1)
      else (if flag.0 == 1 then Ok (true, flag.1)
      else Err (faults.BadTag (whole - length bytes)))

-- a length of two bytes, at most a limit, and that many bytes
unfoldable pub sized_at : ℕ → ℕ → List ℕ → Result (List ℕ × List ℕ) ByteFault
sized_at whole limit bytes = do
  len ← number_at whole w16 bytes
  fits ← fault_if (nat_lt limit len.0) (faults.OverLimit (whole - length bytes))
  front_at whole len.0 len.1

unfoldable pub state_at : ℕ → List ℕ → Result (StateParts × List ℕ) ByteFault
state_at whole bytes = do
  turn ← turn_at whole bytes
  is_final ← flag_at whole turn.1
  outcome ← outcome_at whole is_final.1
  app_bytes ← sized_at whole 4096 outcome.1
  Ok (record { turn = turn.0; is_final = is_final.0; outcome = outcome.0; app_bytes = app_bytes.0 }, app_bytes.1)

-- ---- fixed parts

-- how many participants there are
unfoldable pub people_at : ℕ → List ℕ → Result (ℕ × List ℕ) ByteFault
people_at whole bytes = do
  n ← byte_at whole bytes
  enough ← fault_if (nat_lt n.0 2) (faults.OverLimit (whole - length bytes))
  fits ← fault_if (nat_lt 4 n.0) (faults.OverLimit (whole - length bytes))
  Ok n

-- a key after those seen
unfoldable pub key_at : ℕ → List (List ℕ) → List ℕ → Result (List ℕ × List ℕ) ByteFault
key_at whole seen bytes = do
  key ← front_at whole 56 bytes
  fresh ← fault_if (list_any (λ k. bytes_eq k key.0) seen) (faults.Doubled (whole - length bytes))
  Ok key

-- an application of n participants: payment, which is 1, has two
unfoldable pub app_at : ℕ → ℕ → List ℕ → Result (ℕ × List ℕ) ByteFault
app_at whole n bytes = do
  app ← byte_at whole bytes
  known ← fault_if (nat_lt 2 app.0) (faults.BadTag (whole - length bytes))
  fits ← fault_if ((app.0 == 1) && not (n == 2)) (faults.BadTag (whole - length bytes))
  Ok app

unfoldable pub duration_at : ℕ → List ℕ → Result (ℕ × List ℕ) ByteFault
duration_at whole bytes = do
  duration ← number_at whole w32 bytes
  fits ← fault_if (duration.0 == 0) (faults.OverLimit (whole - length bytes))
  Ok duration

unfoldable pub fixed_at : ℕ → List ℕ → Result (FixedParts × List ℕ) ByteFault
fixed_at whole bytes = do
  n ← people_at whole bytes
  keys ← many_at (key_at whole) [] n.0 n.1
  nonce ← number_at whole w64 keys.1
  app ← app_at whole n.0 nonce.1
  duration ← duration_at whole app.1
  Ok (record { keys = keys.0; nonce = nonce.0; app = app.0; duration = duration.0 }, duration.1)

-- ---- signed states and chains

unfoldable pub signed_at : ℕ → List ℕ → Result (Signed × List ℕ) ByteFault
signed_at whole bytes = do
  state ← state_at whole bytes
  signature ← sized_at whole 9004 state.1
  Ok (record { state = state.0; signature = signature.0 }, signature.1)

unfoldable pub mark_at : ℕ → List Mark → List ℕ → Result (Mark × List ℕ) ByteFault
mark_at whole seen bytes = do
  place ← byte_at whole bytes
  signature ← sized_at whole 9004 place.1
  Ok (record { place = place.0; signature = signature.0 }, signature.1)

-- a state, whatever was seen before it
abbrev pub next_state_at : ℕ → List StateParts → List ℕ → Result (StateParts × List ℕ) ByteFault
next_state_at whole seen bytes = state_at whole bytes

unfoldable pub states_at : ℕ → List ℕ → Result (List StateParts × List ℕ) ByteFault
states_at whole bytes = do
  count ← count_at whole 4 bytes
  many_at (next_state_at whole) [] count.0 count.1

unfoldable pub marks_at : ℕ → List ℕ → Result (List Mark × List ℕ) ByteFault
marks_at whole bytes = do
  count ← count_at whole 4 bytes
  many_at (mark_at whole) [] count.0 count.1

unfoldable pub chain_at : ℕ → List ℕ → Result (Chain × List ℕ) ByteFault
chain_at whole bytes = do
  fixed ← fixed_at whole bytes
  states ← states_at whole fixed.1
  marks ← marks_at whole states.1
  Ok (record { fixed = fixed.0; states = states.0; marks = marks.0 }, marks.1)

-- ---- all of the bytes

-- the value, where nothing is left after it
abbrev pub ended : {A : Type 0} → ℕ → A × List ℕ → Result A ByteFault
ended whole x = if length x.1 == 0 then Ok x.0 else Err (faults.Trailing (whole - length x.1))

-- the value that the bytes spell, all of the bytes, or the first fault
unfoldable pub all_of : {A : Type 0} → (ℕ → List ℕ → Result (A × List ℕ) ByteFault) → List ℕ → Result A ByteFault
all_of at bytes = do
  x ← at (length bytes) bytes
  ended (length bytes) x

abbrev pub outcome_of : List ℕ → Result (List AssetOutcome) ByteFault
outcome_of bytes = all_of outcome_at bytes

abbrev pub state_of : List ℕ → Result StateParts ByteFault
state_of bytes = all_of state_at bytes

abbrev pub fixed_of : List ℕ → Result FixedParts ByteFault
fixed_of bytes = all_of fixed_at bytes

abbrev pub signed_of : List ℕ → Result Signed ByteFault
signed_of bytes = all_of signed_at bytes

abbrev pub chain_of : List ℕ → Result Chain ByteFault
chain_of bytes = all_of chain_at bytes
