-- What fits, and what is known of a line that is looked at.
use Rattle.std.proofs.Common.{◌≡◌, ℕ, ◌+◌, ◌≤◌, Bool, true, false, not, ◌||◌, List, [], ◌∷◌, Some, None, length, refl, ◌∙◌, ap, arith}
use Rattle.std.proofs.lemmas.Bool.Decides.{nat_tests}
use Rattle.std.specs.Prelude.{nat_lt}
use Rattle.channel_values.specs.Words.{fault_if, ◌⊳◌}
use Rattle.lasting_lines.specs.Batches.{IsPart}
use Rattle.lasting_lines.specs.Endings.{FailsBy}
use Rattle.lasting_lines.specs.declared.outside.Fault.{Fault}
use Rattle.lasting_lines.specs.declared.outside.Fault.TheVariants as faults
use Rattle.nitro_library.specs.Endings.{is_part}
use Rattle.nitro_library.specs.Statuses.{room_fault, line_fault, late_of, IsLate}
use Rattle.nitro_library.specs.declared.cores.Core.{Core}
use Rattle.nitro_library.specs.declared.status.Failure.{Failure}
use Rattle.nitro_library.specs.declared.status.Failure.TheVariants.{Line, Room, Kept, Ended}
use Rattle.nitro_library.proofs.NoEnds.{part}

-- a row fits where there is room for 128 bytes besides its line
pub row_fits : (IsForeign IsFull : Type 0) (row line : List ℕ) (room : ℕ) (failure : Failure) → length row ≤ length line + 87
    → length line + 128 ≤ room → Some failure ≡ room_fault row room → IsLate IsForeign IsFull failure
row_fits IsForeign IsFull row line room failure short fits e =
    let less : nat_lt room (length row) ≡ false = grind (arith, nat_tests, short, fits) in
    let clash : Some failure ≡ None = e ∙ ap (λ (b : Bool). fault_if b Room) less in
    absurd cc

-- what stopped the machine is such a reason
pub late : (IsForeign IsFull : Type 0) (fault : Fault) → FailsBy IsForeign IsFull fault → IsLate IsForeign IsFull (late_of fault)
late IsForeign IsFull faults.NoMemory why = tt
late IsForeign IsFull faults.Foreign why = why
late IsForeign IsFull faults.Full why = why
late IsForeign IsFull faults.Input why = absurd why
late IsForeign IsFull faults.Failed why = absurd why

module _ {M : Type 0} (core : Core M) (line : List ℕ) (room : ℕ) where
  -- no test of a line that is looked at fails
  record Passes : Type 0 where
    pub over : core.is_over ≡ false
    pub kept : nat_lt 0 (length core.kept.items) ≡ false
    pub whole : (nat_lt 1048576 (length line) || not (is_part line)) ≡ false
    pub wide : nat_lt room (length line + 128) ≡ false

  passes : line_fault core line room ≡ None → Passes
  passes e = go core.is_over refl (nat_lt 0 (length core.kept.items)) refl (nat_lt 1048576 (length line) || not (is_part line)) refl (nat_lt room (length line + 128)) refl e
    where
      go : (a : Bool) → core.is_over ≡ a → (b : Bool) → nat_lt 0 (length core.kept.items) ≡ b
          → (c : Bool) → (nat_lt 1048576 (length line) || not (is_part line)) ≡ c → (d : Bool) → nat_lt room (length line + 128) ≡ d
          → (fault_if a Ended ⊳ fault_if b Kept ⊳ fault_if c Line ⊳ fault_if d Room) ≡ None → Passes
      go false a false b false c false d e = record { over = a; kept = b; whole = c; wide = d }
      go true a x b y c z d e = absurd cc
      go false a true b y c z d e = absurd cc
      go false a false b true c z d e = absurd cc
      go false a false b false c true d e = absurd cc

  pub goes_on : line_fault core line room ≡ None → core.is_over ≡ false
  goes_on e = (passes e).over

  pub has_no_end : line_fault core line room ≡ None → IsPart line
  has_no_end e = part line (last (nat_lt 1048576 (length line)) (is_part line) (passes e).whole)
    where
      last : (a b : Bool) → (a || not b) ≡ false → b ≡ true
      last true b e = absurd cc
      last false true e = refl
      last false false e = absurd cc

  pub has_room : line_fault core line room ≡ None → length line + 128 ≤ room
  has_room e = grind (arith, nat_tests, (passes e).wide)

  pub is_empty : line_fault core line room ≡ None → core.kept.items ≡ []
  is_empty e = go core.kept.items (passes e).kept
    where
      go : (kept : List ℕ) → nat_lt 0 (length kept) ≡ false → kept ≡ []
      go [] e = refl
      go (x ∷ xs) e = absurd (grind (arith, nat_tests, e))
