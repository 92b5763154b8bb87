-- Calls on a signer, one after the other.
use Rattle.std.specs.Prelude.{⊤, ℕ, List, [], ◌∷◌, Result, Ok, Err}
use Rattle.lms_signatures.specs.Parts.{number_at}
use Rattle.lms_signatures.specs.declared.fault.SignFault.{SignFault}
use Rattle.lms_signatures.specs.Signing.{Signing, Signs}

-- a call: its message, its answer, and the signer after it
pub record Call : Type 0 where
  pub message : List ℕ
  pub answer : Result (List ℕ) SignFault
  pub after : Signing

-- each call is made on the signer that the call before it left
abbrev pub IsRun : Signing → List Call → Type 0
IsRun s [] = ⊤
IsRun s (call ∷ calls) = Signs s call.message call.answer call.after × IsRun call.after calls

-- the signature, if there is one, before the others
abbrev pub with_signature : Result (List ℕ) SignFault → List (List ℕ) → List (List ℕ)
with_signature (Ok bytes) others = bytes ∷ others
with_signature (Err fault) others = others

-- the signatures that the calls gave, in order
abbrev pub signatures : List Call → List (List ℕ)
signatures [] = []
signatures (call ∷ calls) = with_signature call.answer (signatures calls)

-- the index that a signature names
abbrev pub index_of : List ℕ → ℕ
index_of bytes = number_at 0 bytes
