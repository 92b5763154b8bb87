-- A signer as a value, and what one call of it does.
use Rattle.std.specs.Prelude.{◌≡◌, ◌⊎◌, ℕ, ◌+◌, ◌^◌, ◌<◌, List, Result, Ok, Err}
use Rattle.lms_signatures.specs.declared.fault.SignFault.{SignFault}
use Rattle.lms_signatures.specs.declared.fault.SignFault.TheVariants.{KeySpent, NoMemory}
use Rattle.lms_signatures.specs.Made.{made_bytes}

-- a seed, an identifier and a height of the tree, and how many indices have signed
pub record Signing : Type 0 where
  pub seed : List ℕ
  pub id : List ℕ
  pub h : ℕ
  pub used : ℕ

-- the heights that a signer may have: those of LMS types 5, 6 and 7
abbrev pub IsHeight : ℕ → Type 0
IsHeight h = (h ≡ 5) ⊎ ((h ≡ 10) ⊎ (h ≡ 15))

-- A call on a signer s for a message gives an answer, and leaves s' behind. A signature is made at the next
-- index, which is then used. A refusal leaves the signer as it was: the key is spent exactly where all 2^h
-- indices have signed, and else memory ran out.
abbrev pub Signs : Signing → List ℕ → Result (List ℕ) SignFault → Signing → Type 0
Signs s message (Ok bytes) s' =
    (s.used < 2 ^ s.h) × (bytes ≡ made_bytes s.seed s.id s.h s.used message) × (s' ≡ record s { used = s.used + 1 })
Signs s message (Err (KeySpent used)) s' = (s.used ≡ 2 ^ s.h) × (used ≡ s.used) × (s' ≡ s)
Signs s message (Err NoMemory) s' = (s.used < 2 ^ s.h) × (s' ≡ s)
