-- JSON values by their kinds.
use Rattle.std.specs.Prelude.{◌==◌, ◌&&◌, ◌||◌, ◌^◌, ℕ, suc, List, [], ◌∷◌, ◌++◌, Bool, false, nat_le, nat_lt, if◌then◌else◌, Option, Some, None, option_and_then, Result, Ok, Err}
use Rattle.std.specs.List.{list_all}
use Rattle.std.specs.Result.{result_ok}
use Rattle.std.specs.Str.{is_utf8}
use Rattle.hex.specs.Hex.{decode_of, decode_sized}
use Rattle.serde_json.specs.Data.{Data, Items, no_items, item, Members, no_members, member}
use Rattle.serde_json.specs.Find.{get, as_array, as_object, as_str, as_number, as_u64}
use Rattle.serde_json.specs.Read.{read}
use Rattle.node_lines.specs.Faults.{◌>>=◌, given, holds}
use Rattle.node_lines.specs.declared.faults.Invalid.{Invalid}
use Rattle.node_lines.specs.declared.faults.Invalid.TheVariants as faults

-- the JSON value of a text
unfoldable pub value_of : List ℕ → Result Data Invalid
value_of text = given faults.Json (if is_utf8 text then read text else None)

-- ---- objects and arrays

abbrev pub member_count : Members → ℕ
member_count no_members = 0
member_count (member key d ms) = suc (member_count ms)

abbrev pub has_members : Option Members → ℕ → Bool
has_members None n = false
has_members (Some ms) n = member_count ms == n

-- an object of so many keys
abbrev pub keys : ℕ → Data → Result ℕ Invalid
keys n d = holds faults.Shape (has_members (as_object d) n)

-- what stands at a key
abbrev pub value_at : List ℕ → Data → Result Data Invalid
value_at key d = given faults.Shape (get key d)

abbrev pub array_of : Data → Result Items Invalid
array_of d = given faults.Shape (as_array d)

abbrev pub array_at : List ℕ → Data → Result Items Invalid
array_at key d = value_at key d >>= array_of

-- what one item after another is, after those seen
abbrev pub many_in : {X : Type 0} → (Data → Result X Invalid) → List X → Items → Result (List X) Invalid
many_in one seen no_items = Ok seen
many_in one seen (item d ds) = one d >>= λ x. many_in one (seen ++ x ∷ []) ds

-- the items of an array of two
abbrev pub two_in : Items → Result (Data × Data) Invalid
two_in (item a (item b no_items)) = Ok (a, b)
two_in other = Err faults.Shape

abbrev pub two_of : Data → Result (Data × Data) Invalid
two_of d = array_of d >>= two_in

-- what both items of an array of two are
abbrev pub pair_of : {X : Type 0} → (Data → Result X Invalid) → Data → Result (X × X) Invalid
pair_of one d = do
  items ← two_of d
  first ← one items.0
  second ← one items.1
  Ok (first, second)

-- ---- numbers and texts

-- a number from 0 to 2^64-1, written with neither a sign, a point nor an exponent
abbrev pub number_of : Data → Result ℕ Invalid
number_of d = given faults.Shape (option_and_then as_u64 (as_number d))

abbrev pub number_at : List ℕ → Data → Result ℕ Invalid
number_at key d = value_at key d >>= number_of

-- a number of 32 bits
abbrev pub small_at : List ℕ → Data → Result ℕ Invalid
small_at key d = do
  number ← number_at key d
  small ← holds faults.Limit (nat_lt number (2 ^ 32))
  Ok number

abbrev pub text_of : Data → Result (List ℕ) Invalid
text_of d = given faults.Shape (as_str d)

abbrev pub text_at : List ℕ → Data → Result (List ℕ) Invalid
text_at key d = value_at key d >>= text_of

-- ---- digits

-- 0-9 a-f
abbrev pub is_digit : ℕ → Bool
is_digit b = (nat_le 48 b && nat_le b 57) || (nat_le 97 b && nat_le b 102)

-- the bytes that the digits spell
abbrev pub bytes_in : List ℕ → Result (List ℕ) Invalid
bytes_in text = do
  lower ← holds faults.Bytes (list_all is_digit text)
  given faults.Bytes (result_ok (decode_of text))

abbrev pub bytes_at : List ℕ → Data → Result (List ℕ) Invalid
bytes_at key d = text_at key d >>= bytes_in

-- the n bytes that twice as many digits spell
abbrev pub array_in : ℕ → List ℕ → Result (List ℕ) Invalid
array_in n text = do
  lower ← holds faults.Bytes (list_all is_digit text)
  given faults.Bytes (result_ok (decode_sized text n))

abbrev pub name_of : Data → Result (List ℕ) Invalid
name_of d = text_of d >>= array_in 32

abbrev pub name_at : List ℕ → Data → Result (List ℕ) Invalid
name_at key d = value_at key d >>= name_of

-- two amounts
abbrev pub amounts_at : List ℕ → Data → Result (ℕ × ℕ) Invalid
amounts_at key d = value_at key d >>= pair_of number_of

-- two names
abbrev pub names_at : List ℕ → Data → Result (List ℕ × List ℕ) Invalid
names_at key d = value_at key d >>= pair_of name_of

-- a public key
abbrev pub key_of : Data → Result (List ℕ) Invalid
key_of d = text_of d >>= array_in 56
