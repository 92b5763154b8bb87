-- The kinds of the values of a step's keys.
use Rattle.std.specs.Prelude.{◌==◌, ◌&&◌, ◌||◌, ℕ, suc, List, [], ◌∷◌, ◌++◌, length, Bool, false, nat_le, if◌then◌else◌, Option, Some, None, option_and_then, Result, Ok, Err, codes}
use Rattle.std.specs.List.{list_all}
use Rattle.std.specs.Result.{result_ok}
use Rattle.std.specs.Str.{bytes_eq}
use Rattle.hex.specs.Hex.{decode_sized}
use Rattle.serde_json.specs.Data.{Data, Items, no_items, item, Members, no_members, member}
use Rattle.serde_json.specs.Find.{get, as_array, as_object, as_str, as_bool, as_number, as_u64}
use Rattle.script_steps.specs.Digits.{is_hex}
use Rattle.script_steps.specs.Rules.{◌>>=◌, given}
use Rattle.script_steps.specs.declared.step.Rule.{Rule}
use Rattle.script_steps.specs.declared.step.Rule.TheVariants as rules

abbrev pub member_count : Members → ℕ
member_count no_members = 0
member_count (member key d ms) = suc (member_count ms)

abbrev pub has_members : Option Members → ℕ → Bool
has_members None n = false
has_members (Some ms) n = member_count ms == n

-- an object of so many keys
abbrev pub has_keys : Data → ℕ → Bool
has_keys d n = has_members (as_object d) n

abbrev pub keys : ℕ → Data → Result ℕ Rule
keys n d = if has_keys d n then Ok 0 else Err rules.Shape

abbrev pub text_in : List ℕ → Data → Option (List ℕ)
text_in key d = option_and_then as_str (get key d)

-- the text at `do`
abbrev pub word_at : Data → Result (List ℕ) Rule
word_at d = given rules.Shape (text_in (codes "do") d)

-- a number from 0 to 2^64-1, written with neither a sign, a point nor an exponent
abbrev pub number_of : Data → Result ℕ Rule
number_of d = given rules.Shape (option_and_then as_u64 (as_number d))

abbrev pub number_at : List ℕ → Data → Result ℕ Rule
number_at key d = given rules.Shape (option_and_then as_u64 (option_and_then as_number (get key d)))

-- true or false
abbrev pub flag_at : List ℕ → Data → Result Bool Rule
flag_at key d = given rules.Shape (option_and_then as_bool (get key d))

-- the items of an array
abbrev pub array_at : List ℕ → Data → Result Items Rule
array_at key d = given rules.Shape (option_and_then as_array (get key d))

abbrev pub item_count : Items → ℕ
item_count no_items = 0
item_count (item d ds) = suc (item_count ds)

-- what one item after another is, after those seen
abbrev pub many_in : {X : Type 0} → (Data → Result X Rule) → List X → Items → Result (List X) Rule
many_in one seen no_items = Ok seen
many_in one seen (item d ds) = one d >>= λ x. many_in one (seen ++ x ∷ []) ds

-- A-Z a-z
abbrev pub is_letter : ℕ → Bool
is_letter b = (nat_le 65 b && nat_le b 90) || (nat_le 97 b && nat_le b 122)

-- a letter, 0-9 or _
abbrev pub is_name_byte : ℕ → Bool
is_name_byte b = is_letter b || (nat_le 48 b && nat_le b 57) || b == 95

-- a letter followed by at most 15 letters, digits or _
abbrev pub is_name : List ℕ → Bool
is_name [] = false
is_name (b ∷ bs) = is_letter b && nat_le (length bs) 15 && list_all is_name_byte bs

-- the text, if it is of the kind
abbrev pub text_if : (List ℕ → Bool) → Option (List ℕ) → Result (List ℕ) Rule
text_if test None = Err rules.Shape
text_if test (Some text) = if test text then Ok text else Err rules.Shape

-- a name, or 64 digits
abbrev pub place_at : List ℕ → Data → Result (List ℕ) Rule
place_at key d = text_if (λ t. is_name t || is_hex t) (text_in key d)

abbrev pub name_of : Data → Result (List ℕ) Rule
name_of d = text_if is_name (as_str d)

abbrev pub name_at : List ℕ → Data → Result (List ℕ) Rule
name_at key d = text_if is_name (text_in key d)

-- an array of names
abbrev pub names_at : List ℕ → Data → Result (List (List ℕ)) Rule
names_at key d = array_at key d >>= many_in name_of []

-- an array of numbers
abbrev pub numbers_at : List ℕ → Data → Result (List ℕ) Rule
numbers_at key d = array_at key d >>= many_in number_of []

-- the 32 bytes that 64 digits spell
abbrev pub seed_of : List ℕ → Result (List ℕ) Rule
seed_of text = if is_hex text then given rules.Shape (result_ok (decode_sized text 32)) else Err rules.Shape

abbrev pub seed_at : List ℕ → Data → Result (List ℕ) Rule
seed_at key d = given rules.Shape (text_in key d) >>= seed_of

-- the number of an application
abbrev pub app_of : List ℕ → Result ℕ Rule
app_of text =
    if bytes_eq text (codes "consensus") then Ok 0 else (
    if bytes_eq text (codes "payment") then Ok 1 else (
    if bytes_eq text (codes "fixed") then Ok 2 else Err rules.Shape))

abbrev pub app_at : List ℕ → Data → Result ℕ Rule
app_at key d = given rules.Shape (text_in key d) >>= app_of
