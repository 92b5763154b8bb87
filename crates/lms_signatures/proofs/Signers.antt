-- What a signer's secret makes, named by the seed, the identifier and the height.
use Rattle.std.proofs.Common.{◌≡◌, ℕ, ◌+◌, ◌^◌, ◌<◌, List, length, Ok, refl, sym, ap, subst, ◌∙◌, inl, inr}
use Rattle.std.specs.Prelude.{IsTrue}
use Rattle.lms_signatures.specs.Types.{height}
use Rattle.lms_signatures.specs.IsSigned.{is_signed}
use Rattle.lms_signatures.proofs.Signed.{is_signed-Decides}
use Rattle.lms_signatures.specs.Secret.{Secret, secret_of, leaf_count}
use Rattle.lms_signatures.specs.Made.{public_of, key_bytes, made, signature_bytes, made_key, made_bytes}
use Rattle.lms_signatures.specs.Signing.{Signing, IsHeight, Signs}
use Rattle.lms_signatures.specs.SignLaws.{MadeIsSigned}
use Rattle.lms_signatures.proofs.Signatures.{made_verifies}

-- the signer of a secret, with so many indices used
abbrev pub signing_of : Secret → ℕ → Signing
signing_of s used = record { seed = s.seed; id = s.id; h = height s.lms; used = used }

pub key_made : (s : Secret) → s ≡ secret_of s.seed s.id (height s.lms) → key_bytes (public_of s) ≡ made_key s.seed s.id (height s.lms)
unfolding made_key
key_made s types = ap (λ (v : Secret). key_bytes (public_of v)) types

pub bytes_made : (s : Secret) (q : ℕ) (message : List ℕ) → s ≡ secret_of s.seed s.id (height s.lms)
    → signature_bytes s (made s q message) ≡ made_bytes s.seed s.id (height s.lms) q message
unfolding made_bytes
bytes_made s q message types = ap (λ (v : Secret). signature_bytes v (made v q message)) types

-- what a signer's secret makes passes the test
pub signed_well : (s : Secret) (q : ℕ) (message : List ℕ) → s ≡ secret_of s.seed s.id (height s.lms) → length s.id ≡ 16 → q < leaf_count s
    → IsTrue (is_signed (made_key s.seed s.id (height s.lms)) message (made_bytes s.seed s.id (height s.lms) q message))
signed_well s q message types id lt =
    rw (← key_made s types, ← bytes_made s q message types) ((is_signed-Decides _ _ _).1 (made_verifies s q message id lt))

-- a signature at the next index is an answer of the signer
pub signed_next : (s : Secret) (q : ℕ) (message bytes : List ℕ) (v : Signing) → signing_of s q ≡ v → s ≡ secret_of s.seed s.id (height s.lms)
    → q < leaf_count s → bytes ≡ signature_bytes s (made s q message) → Signs v message (Ok bytes) (signing_of s (q + 1))
signed_next s q message bytes v view types lt is =
    subst (λ (x : Signing). Signs x message (Ok bytes) (signing_of s (q + 1))) view (lt, is ∙ bytes_made s q message types, refl)

-- and it passes the test
pub next_verifies : (s : Secret) (q : ℕ) (message bytes : List ℕ) (v : Signing) → signing_of s q ≡ v → s ≡ secret_of s.seed s.id (height s.lms)
    → length s.id ≡ 16 → q < leaf_count s → bytes ≡ signature_bytes s (made s q message) → IsTrue (is_signed (made_key v.seed v.id v.h) message bytes)
next_verifies s q message bytes v view types id lt is =
    subst (λ (x : Signing). IsTrue (is_signed (made_key x.seed x.id x.h) message bytes)) view
    (rw (is, bytes_made s q message types) (signed_well s q message types id lt))

-- the height of the tree of a secret
height_of : (seed id : List ℕ) (h : ℕ) → IsHeight h → height (secret_of seed id h).lms ≡ h
height_of seed id h is = elim is [
  | inl five ↦ subst (λ (v : ℕ). height (secret_of seed id v).lms ≡ v) (sym five) refl
  | inr more ↦ elim more [
    | inl ten ↦ subst (λ (v : ℕ). height (secret_of seed id v).lms ≡ v) (sym ten) refl
    | inr fifteen ↦ subst (λ (v : ℕ). height (secret_of seed id v).lms ≡ v) (sym fifteen) refl
  ]
]

pub made_is_signed : MadeIsSigned
unfolding made_key made_bytes
made_is_signed seed id h q message long is lt =
    (is_signed-Decides _ _ _).1 (made_verifies (secret_of seed id h) q message long (subst (λ (v : ℕ). q < 2 ^ v) (sym (height_of seed id h is)) lt))
