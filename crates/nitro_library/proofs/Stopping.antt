-- Why nothing begins over a file.
use Rattle.std.proofs.Common.{◌≡◌, ◌==◌, ℕ, ◌+◌, ◌-◌, ◌<◌, ◌≤◌, ◌^◌, Bool, true, false, cond, List, [], ◌∷◌, ◌++◌, Some, length, refl, sym, ap, subst, arith, length-append}
use Rattle.std.proofs.lemmas.Bool.Decides.{nat_tests}
use Rattle.std.specs.Prelude.{Option, min, nat_lt, unwrap_or}
use Rattle.channel_values.specs.Words.{fault_if}
use Rattle.lasting_lines.specs.Batches.{batched}
use Rattle.lasting_lines.specs.Endings.{FullIn, ForeignIn}
use Rattle.lasting_lines.specs.Lines.{recovered, records}
use Rattle.lasting_lines.specs.Machines.{Ways}
use Rattle.lasting_lines.specs.Opening.{IsFound}
use Rattle.lasting_lines.specs.Serving.{state}
use Rattle.lasting_lines.specs.declared.played.Played.{Played}
use Rattle.lasting_lines.specs.declared.recovery.Found.TheVariants as found
use Rattle.nitro_library.specs.Asked.{after_of, left_out}
use Rattle.nitro_library.specs.Beginnings.{IsForeign, IsWhy, head_length}
use Rattle.nitro_library.specs.Files.{records_in}
use Rattle.nitro_library.specs.Heads.{head_in}
use Rattle.nitro_library.specs.Statuses.{room_fault}
use Rattle.nitro_library.specs.declared.opened.OpenedFile.{OpenedFile}
use Rattle.nitro_library.specs.declared.status.Failure.{Failure}
use Rattle.nitro_library.specs.declared.status.Failure.TheVariants as failures

records_short : (bytes : List ℕ) → length (records_in bytes) ≤ length bytes
records_short [] = omega arith
records_short (b ∷ rest) = go (b == 10) (records_short rest)
  where
    go : (t : Bool) → length (records_in rest) ≤ length rest → length (cond t rest (records_in rest)) ≤ length (b ∷ rest)
    go true le = omega arith
    go false le = omega (arith, le)

module _ {M : Type 0} (ways : Ways M) (ForeignLine : M → List ℕ → Type 0) (p : Played M) (title : List ℕ) (file : OpenedFile) (bytes : List ℕ) (room : ℕ) (is_key : Bool) where
  abbrev Why : Failure → Type 0
  Why failure = IsWhy ways ForeignLine p title file bytes room is_key failure

  pub memory_why : (failure : Failure) → failure ≡ failures.OutOfMemory → Why failure
  memory_why failure e = subst Why (sym e) tt

  pub foreign_why : (failure : Failure) → IsForeign title file bytes failure → Why failure
  foreign_why failures.OutOfMemory is = tt
  foreign_why failures.Foreign is = is
  foreign_why failures.Key is = absurd is
  foreign_why failures.Line is = absurd is
  foreign_why failures.File is = absurd is
  foreign_why failures.Damaged is = absurd is
  foreign_why failures.Behind is = absurd is
  foreign_why failures.Entries is = absurd is
  foreign_why failures.Room is = absurd is
  foreign_why failures.Kept is = absurd is
  foreign_why failures.Ended is = absurd is
  foreign_why (failures.Torn kept) is = absurd is

  pub room_why : (line : List ℕ) (failure : Failure) → line ≡ head_in title file bytes → Some failure ≡ room_fault line room → Why failure
  room_why line failure is e = go (nat_lt room (length line)) refl e
    where
      go : (b : Bool) → nat_lt room (length line) ≡ b → Some failure ≡ fault_if b failures.Room → Why failure
      go true less e =
          let same : failure ≡ failures.Room = cc in
          subst Why (sym same) (subst (λ (l : List ℕ). room < length l) is (grind (arith, nat_tests, less)))
      go false less e = absurd cc

  -- what is cut off a torn file
  pub torn_why : (rest : List ℕ) (n kept : ℕ) (failure : Failure) → rest ≡ records_in bytes → n ≡ left_out file → length bytes < 2 ^ 64
      → IsFound (batched ways) p rest n (found.Torn kept) → failure ≡ failures.Torn (min ((length bytes - length rest) + kept) (2 ^ 64 - 1)) → Why failure
  torn_why rest n kept failure same asked small is e =
      let here = subst (λ (k : ℕ). IsFound (batched ways) p (records_in bytes) k (found.Torn kept)) asked (subst (λ (l : List ℕ). IsFound (batched ways) p l n (found.Torn kept)) same is) in
      let whole = here.1.whole in
      let long : length (records_in bytes) ≡ length (records (batched ways) p (recovered (batched ways) p (records_in bytes)) ++ here.0) = ap length whole in
      let at : kept ≡ length (records (batched ways) p (recovered (batched ways) p (records_in bytes))) = here.3 in
      let rests : length rest ≡ length (records_in bytes) = ap length same in
      let fits : min ((length bytes - length rest) + kept) (2 ^ 64 - 1) ≡ head_length bytes + kept =
      grind (arith, rests, long, at, small, records_short bytes, length-append (records (batched ways) p (recovered (batched ways) p (records_in bytes))) here.0) in
      subst Why (sym e) (kept, here, fits)

  pub damaged_why : (rest : List ℕ) (n : ℕ) (failure : Failure) → rest ≡ records_in bytes → n ≡ left_out file
      → IsFound (batched ways) p rest n found.Damaged → failure ≡ failures.Damaged → Why failure
  damaged_why rest n failure same asked is e =
      subst Why (sym e) (subst (λ (k : ℕ). IsFound (batched ways) p (records_in bytes) k found.Damaged) asked (subst (λ (l : List ℕ). IsFound (batched ways) p l n found.Damaged) same is))

  pub behind_why : (rest : List ℕ) (after : Option ℕ) (failure : Failure) → rest ≡ records_in bytes → after ≡ after_of file
      → (state (batched ways) p (recovered (batched ways) p rest)).count < unwrap_or after 0 → failure ≡ failures.Behind → Why failure
  behind_why rest after failure same asked is e =
      subst Why (sym e) (subst (λ (o : Option ℕ). (state (batched ways) p (recovered (batched ways) p (records_in bytes))).count < unwrap_or o 0) asked
      (subst (λ (l : List ℕ). (state (batched ways) p (recovered (batched ways) p l)).count < unwrap_or after 0) same is))

  pub full_why : (rest : List ℕ) (failure : Failure) → rest ≡ records_in bytes → FullIn ways p rest → failure ≡ failures.File → Why failure
  full_why rest failure same is e = subst Why (sym e) (subst (FullIn ways p) same is)

  pub entries_why : (rest : List ℕ) (failure : Failure) → rest ≡ records_in bytes → ForeignIn ways ForeignLine p rest → failure ≡ failures.Entries
      → Why failure
  entries_why rest failure same is e = subst Why (sym e) (subst (ForeignIn ways ForeignLine p) same is)

  pub key_why : (failure : Failure) → (failure ≡ failures.Key) × (is_key ≡ false) → Why failure
  key_why failure e = subst Why (sym e.0) e.1
