-- Laws over the equations alone.
use Rattle.std.specs.Prelude.{◌↔◌, ℕ, List, IsTrue}
use Rattle.lms_signatures.specs.Verifies.{Verifies}
use Rattle.lms_signatures.specs.IsSigned.{is_signed}

-- the test is true exactly where the signature verifies
abbrev pub SignedVerifies : Type 0
SignedVerifies = (key message signature : List ℕ) → IsTrue (is_signed key message signature) ↔ Verifies key message signature
