-- What a file is found to be.
use Rattle.std.specs.Prelude.{◌≡◌, ◌≢◌, ℕ, zero, suc, ◌+◌, ◌-◌, ◌*◌, ◌^◌, ◌==◌, Bool, true, false, ◌&&◌, ◌||◌}
use Rattle.std.specs.Prelude.{nat_lt, nat_le, min, List, [], ◌∷◌, ◌++◌, length, if◌then◌else◌}
use Rattle.lasting_lines.specs.Files.{Op}
use Rattle.lasting_lines.specs.Machines.{Ways}
use Rattle.lasting_lines.specs.Lines.{after, response, records, recovered}
use Rattle.lasting_lines.specs.Serving.{state, Always, Ready}
use Rattle.lasting_lines.specs.declared.played.Played.{Played}
use Rattle.lasting_lines.specs.declared.recovery.Found.{Found}
use Rattle.lasting_lines.specs.declared.recovery.Found.TheVariants.{Whole, Torn, Damaged}

-- ---- the tail

abbrev pub is_digit : ℕ → Bool
is_digit b = nat_le 48 b && nat_le b 57

-- of a mark
abbrev pub is_hex : ℕ → Bool
is_hex b = is_digit b || (nat_le 97 b && nat_le b 102)

-- so many digits of a mark
abbrev pub has_mark : ℕ → List ℕ → Bool
has_mark zero bytes = true
has_mark (suc k) [] = false
has_mark (suc k) (b ∷ rest) = is_hex b && has_mark k rest

unfoldable pub begins_mark : List ℕ → Bool
begins_mark bytes = has_mark 64 bytes

-- at most so many more digits of a number, which is above n, a space and a mark
abbrev pub later_from : ℕ → ℕ → ℕ → List ℕ → Bool
later_from zero n number bytes = false
later_from (suc k) n number [] = false
later_from (suc k) n number (b ∷ rest) =
    if is_digit b then later_from k n (min (10 * number + (b - 48)) (2 ^ 64 - 1)) rest
    else b == 32 && (nat_lt n number && begins_mark rest)

-- a record of a number above n begins here
unfoldable pub begins_later : ℕ → List ℕ → Bool
begins_later n bytes = later_from 21 n 0 bytes

-- after some line feed a record of a number above n begins
abbrev pub is_damaged : ℕ → List ℕ → Bool
is_damaged n [] = false
is_damaged n (b ∷ rest) = (b == 10 && begins_later n rest) || is_damaged n rest

module _ {M : Type 0} (ways : Ways M) where
  -- ---- the responses to the lines of numbers up to n, and above it

  abbrev pub owed_to : ℕ → Played M → List (List ℕ) → List ℕ
  owed_to n p [] = []
  owed_to n p (line ∷ lines) =
      (if nat_lt n (p.count + 1) then [] else response ways p line) ++ owed_to n (after ways p line) lines

  abbrev pub owed_above : ℕ → Played M → List (List ℕ) → List ℕ
  owed_above n p [] = []
  owed_above n p (line ∷ lines) =
      (if nat_lt n (p.count + 1) then response ways p line else []) ++ owed_above n (after ways p line) lines

  -- ---- what was found

  -- the records of a file are followed by a tail
  pub record EndsWith (p : Played M) (file tail : List ℕ) : Type 0 where
    pub whole : file ≡ records ways p (recovered ways p file) ++ tail
    pub wrong : recovered ways (state ways p (recovered ways p file)) tail ≡ []

  -- the first number that isn't there
  abbrev pub next_number : Played M → List ℕ → ℕ
  next_number p file = (state ways p (recovered ways p file)).count + 1

  -- A file of records alone was played from p on, with the responses to the lines above n.
  pub record IsPlayed (p : Played M) (bytes : List ℕ) (n : ℕ) (now : Played M) (again : List ℕ) : Type 0 where
    pub whole : bytes ≡ records ways p (recovered ways p bytes)
    pub place : now ≡ state ways p (recovered ways p bytes)
    pub text : again ≡ owed_above n p (recovered ways p bytes)

  -- Whole: all are records. Torn: so many bytes are, and no later record begins after the first wrong row. Damaged: one
  -- does.
  abbrev pub IsFound : Played M → List ℕ → ℕ → Found M → Type 0
  IsFound p file n (Whole q again) = IsPlayed p file n q again.items
  IsFound p file n (Torn kept) =
      (tail : List ℕ) × EndsWith p file tail × (tail ≢ []) × (kept ≡ length (records ways p (recovered ways p file)))
      × (is_damaged (next_number p file) tail ≡ false)
  IsFound p file n Damaged = (tail : List ℕ) × EndsWith p file tail × (is_damaged (next_number p file) tail ≡ true)

  -- ---- a run that begins

  -- of the responses to a file that was played, those above n are written again
  abbrev pub BeginsExplained : Played M → List ℕ → List Op → List Op → Type 0
  BeginsExplained now again ops ops' =
      (p : Played M) (start : List ℕ) (n : ℕ) → ops ≡ [] → IsPlayed p start n now again
      → Always ways p (owed_to n p (recovered ways p start)) start ops'

  abbrev pub BeginsReady : Played M → List ℕ → List Op → List Op → Type 0
  BeginsReady now again ops ops' =
      (p : Played M) (start : List ℕ) (n : ℕ) → ops ≡ [] → IsPlayed p start n now again
      → Ready ways p (owed_to n p (recovered ways p start)) start ops' now
