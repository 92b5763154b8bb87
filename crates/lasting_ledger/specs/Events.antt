-- The event that a line is, by the JSON value of the line, or the first fault.
use Rattle.std.specs.Prelude.{◌≡◌, ◌==◌, ◌^◌, ℕ, suc, List, Bool, false, nat_lt, if◌then◌else◌, Option, Some, None, option_and_then, Result, Ok, Err, codes, ⊤}
use Rattle.std.specs.Str.{bytes_eq, is_utf8}
use Rattle.hex.specs.Hex.{decode_of}
use Rattle.hex.specs.declared.error.FromHexError.{FromHexError}
use Rattle.serde_json.specs.Data.{Data, Members, no_members, member}
use Rattle.serde_json.specs.Find.{get, as_object, as_str, as_number, as_u64}
use Rattle.serde_json.specs.Read.{read}
use Rattle.channel_values.specs.declared.fault.ByteFault.{ByteFault}
use Rattle.call_history.specs.Reading.{call_of}
use Rattle.call_history.specs.declared.call.Call.{Call}
use Rattle.call_history.specs.declared.call.Op.TheVariants as ops
use Rattle.lasting_ledger.specs.declared.events.Event.{Event}
use Rattle.lasting_ledger.specs.declared.events.EventError.{EventError}
use Rattle.lasting_ledger.specs.declared.events.EventError.TheVariants as errors
use Rattle.lasting_ledger.specs.declared.events.Invalid.{Invalid}
use Rattle.lasting_ledger.specs.declared.events.Invalid.TheVariants as faults

-- ---- one check after another, with the first fault

infixl 10 ◌>>=◌
abbrev pub ◌>>=◌ : {A B : Type 0} → Result A Invalid → (A → Result B Invalid) → Result B Invalid
(Ok x) >>= f = f x
(Err e) >>= f = Err e

-- the value, or this fault
abbrev pub given : {A : Type 0} → Invalid → Option A → Result A Invalid
given fault None = Err fault
given fault (Some x) = Ok x

-- this holds, or it is the fault
abbrev pub holds : Invalid → Bool → Result ℕ Invalid
holds fault b = if b then Ok 0 else Err fault

-- What a function returned is what the definition gives, unless memory ran out.
abbrev pub Gives : {X Y : Type 0} → (X → Y) → Result X EventError → Result Y Invalid → Type 0
Gives view (Ok x) read = read ≡ Ok (view x)
Gives view (Err errors.NoMemory) read = ⊤
Gives view (Err (errors.Invalid fault)) read = read ≡ Err fault

-- ---- values

-- the JSON value of a text
unfoldable pub value_of : List ℕ → Result Data Invalid
value_of text = given faults.Json (if is_utf8 text then read text else None)

abbrev pub member_count : Members → ℕ
member_count no_members = 0
member_count (member key d ms) = suc (member_count ms)

abbrev pub has_members : Option Members → ℕ → Bool
has_members None n = false
has_members (Some ms) n = member_count ms == n

-- an object of so many keys
abbrev pub keys : ℕ → Data → Result ℕ Invalid
keys n d = holds faults.Shape (has_members (as_object d) n)

abbrev pub text_at : List ℕ → Data → Result (List ℕ) Invalid
text_at key d = given faults.Shape (option_and_then as_str (get key d))

-- a number from 0 to 2^64-1, written with neither a sign, a point nor an exponent
abbrev pub number_at : List ℕ → Data → Result ℕ Invalid
number_at key d = given faults.Shape (option_and_then as_u64 (option_and_then as_number (get key d)))

-- ---- events

abbrev pub decoded : Result (List ℕ) FromHexError → Result (List ℕ) Invalid
decoded (Ok bytes) = Ok bytes
decoded (Err e) = Err faults.Call

-- the bytes that the digits are
abbrev pub bytes_of : List ℕ → Result (List ℕ) Invalid
bytes_of digits = decoded (decode_of digits)

abbrev pub spelled : Result Call ByteFault → Result Call Invalid
spelled (Ok call) = Ok call
spelled (Err e) = Err faults.Call

-- the call whose canonical bytes these are, all of them
abbrev pub call_in : List ℕ → Result Call Invalid
call_in bytes = spelled (call_of bytes)

abbrev pub call_in_digits : List ℕ → Result Call Invalid
call_in_digits digits = do
  bytes ← bytes_of digits
  call_in bytes

-- a caller's number has 32 bits
abbrev pub caller_of : ℕ → Result ℕ Invalid
caller_of number = do
  small ← holds faults.Limit (nat_lt number (2 ^ 32))
  Ok number

abbrev pub enter_of : Data → Result Event Invalid
enter_of d = do
  no_more ← keys 3 d
  number ← number_at (codes "by") d
  digits ← text_at (codes "call") d
  by ← caller_of number
  call ← call_in_digits digits
  Ok (record { by = by; op = ops.Call call })

abbrev pub time_of : Data → Result Event Invalid
time_of d = do
  no_more ← keys 2 d
  to ← number_at (codes "to") d
  Ok (record { by = 0; op = ops.Time to })

-- by the word at `do`
abbrev pub event_in : List ℕ → Data → Result Event Invalid
event_in word d =
    if bytes_eq word (codes "enter") then enter_of d
    else (if bytes_eq word (codes "time") then time_of d
    else Err faults.Shape)

unfoldable pub event_of : List ℕ → Result Event Invalid
event_of line = do
  d ← value_of line
  word ← text_at (codes "do") d
  event_in word d
