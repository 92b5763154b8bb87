-- What holds of the journal that is found holds of its person.
use Rattle.std.proofs.Common.{◌≡◌, ℕ, Bool, List, Some, Result, Ok, Err, find, IfOk, IsTrue, ◌↔◌, sym, ◌∙◌, subst}
use Rattle.channel_values.specs.Parts.{FixedParts}
use Rattle.channel_safety.proofs.Tests.{some-eq}
use Rattle.premises.specs.Persons.{OfPerson}
use Rattle.premises.specs.Whose.{is_of}
use Rattle.premises.specs.declared.journal.Journal.{Journal}

of-first : (journals : List Journal) (person : List ℕ) (j : Journal) (P : Journal → Type 0) (b : Bool)
    → Some j ≡ find (is_of person) journals → IsTrue b ↔ P j → IsTrue b ↔ OfPerson journals person P
of-first journals person j P b found told =
    (λ t. (j, sym found, told.0 t), λ o. told.1 (subst P (some-eq o.0 j (sym o.1 ∙ sym found)) o.2))

pub answered : {E : Type 0} (journals : List Journal) (person : List ℕ) (j : Journal) (P : (ℕ → List FixedParts) → Journal → Type 0) (result : Result Bool E)
    → Some j ≡ find (is_of person) journals → IfOk result (λ b. (adds : ℕ → List FixedParts) → IsTrue b ↔ P adds j)
    → IfOk result (λ b. (adds : ℕ → List FixedParts) → IsTrue b ↔ OfPerson journals person (P adds))
answered journals person j P (Ok b) found told = λ adds. of-first journals person j (P adds) b found (told adds)
answered journals person j P (Err e) found told = tt
