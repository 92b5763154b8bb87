-- What holds of a format as a whole: read gives the value that bytes spell, spell its bytes, and Is says which values
-- there are.
use Rattle.std.specs.Prelude.{◌≡◌, ℕ, ◌<◌, List, ◌∷◌, ◌++◌, length, take, Result, Ok, Err, false, is_ok}
use Rattle.channel_values.specs.declared.fault.ByteFault.{ByteFault}
use Rattle.channel_values.specs.declared.fault.ByteFault.TheVariants as faults
use Rattle.channel_values.specs.Outcomes.{AreBytes}

-- two values never share a spelling
abbrev pub SpelledOnce : {A : Type 0} → (A → List ℕ) → (A → Type 0) → Type 0
SpelledOnce {A} spell Is = (a b : A) → Is a → Is b → spell a ≡ spell b → a ≡ b

-- what is read is written back to the same bytes
abbrev pub WrittenBack : {A : Type 0} → (List ℕ → Result A ByteFault) → (A → List ℕ) → Type 0
WrittenBack {A} read spell = (bytes : List ℕ) (v : A) → AreBytes bytes → read bytes ≡ Ok v → bytes ≡ spell v

-- what is written is read as the same value
abbrev pub ReadAgain : {A : Type 0} → (List ℕ → Result A ByteFault) → (A → List ℕ) → (A → Type 0) → Type 0
ReadAgain {A} read spell Is = (v : A) → Is v → read (spell v) ≡ Ok v

-- no proper front of what is read is read
abbrev pub FrontsFail : {A : Type 0} → (List ℕ → Result A ByteFault) → Type 0
FrontsFail {A} read =
    (bytes : List ℕ) (v : A) (n : ℕ) → AreBytes bytes → read bytes ≡ Ok v → n < length bytes
    → is_ok (read (take n bytes)) ≡ false

-- a proper front of a spelling ends too early, and its end is the place
abbrev pub FrontsCut : {A : Type 0} → (List ℕ → Result A ByteFault) → (A → List ℕ) → (A → Type 0) → Type 0
FrontsCut {A} read spell Is =
    (v : A) (n : ℕ) → Is v → n < length (spell v) → read (take n (spell v)) ≡ Err (faults.Cut n)

-- what stands after a spelling is the fault, at its place
abbrev pub TrailingFails : {A : Type 0} → (List ℕ → Result A ByteFault) → (A → List ℕ) → (A → Type 0) → Type 0
TrailingFails {A} read spell Is =
    (v : A) (b : ℕ) (more : List ℕ) → Is v → read (spell v ++ b ∷ more) ≡ Err (faults.Trailing (length (spell v)))
