-- Calls on a signer, one after the other.
use Rattle.std.proofs.Common.{◌≡◌, ℕ, ◌+◌, ◌^◌, ◌<◌, ◌≤◌, List, [], ◌∷◌, ◌++◌, Result, Ok, Err, append_assoc, refl, sym, ap, subst, ◌∙◌, inl, inr, arith}
use Rattle.std.specs.List.{All, AllPairs}
use Rattle.std.proofs.lemmas.List.Elements.{All-nil, All-cons}
use Rattle.std.proofs.lemmas.List.Kept.{AllPairs-cons}
use Rattle.lms_signatures.specs.Types.{u32str, ots_code, lms_code}
use Rattle.lms_signatures.specs.Parts.{number_at}
use Rattle.lms_signatures.specs.declared.fault.SignFault.{SignFault}
use Rattle.lms_signatures.specs.declared.fault.SignFault.TheVariants.{KeySpent, NoMemory}
use Rattle.lms_signatures.specs.Secret.{Secret, secret_of}
use Rattle.lms_signatures.specs.Made.{made, signature_bytes, made_bytes}
use Rattle.lms_signatures.specs.Signing.{Signing, IsHeight, Signs}
use Rattle.lms_signatures.specs.Calls.{Call, IsRun, with_signature, signatures, index_of}
use Rattle.lms_signatures.specs.SignLaws.{NoIndexTwice}
use Rattle.lms_signatures.proofs.Reading.{number_behind}

-- an index of the leaves fits in four bytes
pub index_fits : (h q : ℕ) → IsHeight h → q < 2 ^ h → q < 2 ^ 32
index_fits h q is lt = elim is [
  | inl five ↦ let low : q < 2 ^ 5 = subst (λ (v : ℕ). q < 2 ^ v) five lt in omega arith
  | inr more ↦ elim more [
    | inl ten ↦ let low : q < 2 ^ 10 = subst (λ (v : ℕ). q < 2 ^ v) ten lt in omega arith
    | inr fifteen ↦ let low : q < 2 ^ 15 = subst (λ (v : ℕ). q < 2 ^ v) fifteen lt in omega arith
  ]
]

-- a signature names the index that it was made at
index_of-signature : (s : Secret) (q : ℕ) (message : List ℕ) → q < 2 ^ 32 → index_of (signature_bytes s (made s q message)) ≡ q
index_of-signature s q message lt =
    let g = made s q message in
    let whole : signature_bytes s g ≡ [] ++ (u32str q ++ (u32str (ots_code s.ots) ++ (g.c ++ (g.chains ++ (u32str (lms_code s.lms) ++ g.path))))) = simp append_assoc in
    ap (number_at 0) whole ∙ number_behind [] _ 0 q refl lt

pub index_of-made : (seed id : List ℕ) (h q : ℕ) (message : List ℕ) → q < 2 ^ 32 → index_of (made_bytes seed id h q message) ≡ q
unfolding made_bytes
index_of-made seed id h q message lt = index_of-signature (secret_of seed id h) q message lt

-- a call keeps the height
height_kept : (s : Signing) (message : List ℕ) (answer : Result (List ℕ) SignFault) (s' : Signing) → Signs s message answer s' → s'.h ≡ s.h
height_kept s message (Ok bytes) s' signs = ap (λ (v : Signing). v.h) signs.2
height_kept s message (Err (KeySpent used)) s' signs = ap (λ (v : Signing). v.h) signs.2
height_kept s message (Err NoMemory) s' signs = ap (λ (v : Signing). v.h) signs.1

-- no call takes an index back
used_kept : (s : Signing) (message : List ℕ) (answer : Result (List ℕ) SignFault) (s' : Signing) → Signs s message answer s' → s.used ≤ s'.used
used_kept s message (Ok bytes) s' signs = let e : s'.used ≡ s.used + 1 = ap (λ (v : Signing). v.used) signs.2 in omega arith
used_kept s message (Err (KeySpent used)) s' signs = let e : s'.used ≡ s.used = ap (λ (v : Signing). v.used) signs.2 in omega arith
used_kept s message (Err NoMemory) s' signs = let e : s'.used ≡ s.used = ap (λ (v : Signing). v.used) signs.1 in omega arith

-- a signature names the next index
index_of-next : (s : Signing) (message bytes : List ℕ) (s' : Signing) → IsHeight s.h → Signs s message (Ok bytes) s' → index_of bytes ≡ s.used
index_of-next s message bytes s' is signs =
    ap (number_at 0) signs.1 ∙ index_of-made s.seed s.id s.h s.used message (index_fits s.h s.used is signs.0)

-- a fact of the signature, if there is one, and of the others
with_all : (P : List ℕ → Type 0) (answer : Result (List ℕ) SignFault) (others : List (List ℕ))
    → ((bytes : List ℕ) → answer ≡ Ok bytes → P bytes) → All P others → All P (with_signature answer others)
with_all P (Ok bytes) others head tail = All-cons P bytes others (head bytes refl) tail
with_all P (Err fault) others head tail = tail

with_pairs : (R : List ℕ → List ℕ → Type 0) (answer : Result (List ℕ) SignFault) (others : List (List ℕ))
    → ((bytes : List ℕ) → answer ≡ Ok bytes → All (R bytes) others) → AllPairs R others → AllPairs R (with_signature answer others)
with_pairs R (Ok bytes) others head tail = AllPairs-cons R bytes others (head bytes refl) tail
with_pairs R (Err fault) others head tail = tail

-- all signatures of a run name indices from the signer's on
at_least : (s : Signing) (n : ℕ) (calls : List Call) → IsHeight s.h → n ≤ s.used → IsRun s calls → All (λ bytes. n ≤ index_of bytes) (signatures calls)
at_least s n [] is le run = All-nil (λ bytes. n ≤ index_of bytes)
at_least s n (call ∷ calls) is le run =
    let is' : IsHeight call.after.h = subst IsHeight (sym (height_kept s call.message call.answer call.after run.0)) is in
    let le' : n ≤ call.after.used = omega (arith, used_kept s call.message call.answer call.after run.0) in
    with_all (λ bytes. n ≤ index_of bytes) call.answer (signatures calls)
    (λ bytes e. let signs = subst (λ (a : Result (List ℕ) SignFault). Signs s call.message a call.after) e run.0 in
    omega (arith, index_of-next s call.message bytes call.after is signs))
    (at_least call.after n calls is' le' run.1)

pub no_index_twice : NoIndexTwice
no_index_twice s [] is run = λ i j d lt within. absurd (omega arith)
no_index_twice s (call ∷ calls) is run =
    let is' : IsHeight call.after.h = subst IsHeight (sym (height_kept s call.message call.answer call.after run.0)) is in
    with_pairs (λ earlier later. index_of earlier < index_of later) call.answer (signatures calls)
    (λ bytes e.
    let signs = subst (λ (a : Result (List ℕ) SignFault). Signs s call.message a call.after) e run.0 in
    let next : call.after.used ≡ s.used + 1 = ap (λ (v : Signing). v.used) signs.2 in
    let above = at_least call.after (s.used + 1) calls is' (omega arith) run.1 in
    λ k d within. omega (arith, index_of-next s call.message bytes call.after is signs, above k d within))
    (no_index_twice call.after calls is' run.1)
