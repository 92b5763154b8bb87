-- The test of a signature and the equations of a signature.
use Rattle.std.proofs.Common.{◌≡◌, ℕ, Bool, true, false, List, Result, Ok, Err, Decides, refl, sym, subst, ◌∙◌}
use Rattle.std.proofs.lemmas.Slice.Eq.{bytes_eq-Decides}
use Rattle.lms_signatures.specs.declared.types.LmsFault.{LmsFault}
use Rattle.lms_signatures.specs.Parts.{KeyParts, SignatureParts, key_of, signature_of}
use Rattle.lms_signatures.specs.Verifies.{Verifies, root_candidate}
use Rattle.lms_signatures.specs.IsSigned.{gives_root, is_signed_under, is_signed}

same_ok : {A : Type 0} (x y : A) → ◌≡◌ {A = Result A LmsFault} (Ok x) (Ok y) → x ≡ y
same_ok x y e = cc

never : {A : Type 0} (x : A) (f : LmsFault) → ◌≡◌ {A = Result A LmsFault} (Ok x) (Err f) → ⊥
never x f e = cc

module _ (key message signature : List ℕ) where
  with_signature : (k : KeyParts) → key_of key ≡ Ok k → (r : Result SignatureParts LmsFault) → signature_of k signature ≡ r → Decides (gives_root k message r) (Verifies key message signature)
  with_signature k e (Ok s) es = (
    λ yes. record { k = k; s = s; is_key = e; is_signature = es; is_root = (bytes_eq-Decides (root_candidate k s message) k.root).0 yes },
    λ v.
        let ek = same_ok v.k k (sym v.is_key ∙ e) in
        let e1 : signature_of k signature ≡ Ok v.s = subst (λ (q : KeyParts). signature_of q signature ≡ Ok v.s) ek v.is_signature in
        let es' = same_ok v.s s (sym e1 ∙ es) in
        let root : root_candidate k v.s message ≡ k.root = subst (λ (q : KeyParts). root_candidate q v.s message ≡ q.root) ek v.is_root in
        (bytes_eq-Decides (root_candidate k s message) k.root).1 (subst (λ (q : SignatureParts). root_candidate k q message ≡ k.root) es' root),
  )
  with_signature k e (Err f) es = (
    λ yes. absurd (let h : ◌≡◌ {A = Bool} false true = yes in cc),
    λ v.
        let ek = same_ok v.k k (sym v.is_key ∙ e) in
        let e1 : signature_of k signature ≡ Ok v.s = subst (λ (q : KeyParts). signature_of q signature ≡ Ok v.s) ek v.is_signature in
        absurd (never v.s f (sym e1 ∙ es)),
  )

  with_key : (r : Result KeyParts LmsFault) → key_of key ≡ r → Decides (is_signed_under r message signature) (Verifies key message signature)
  with_key (Ok k) e = with_signature k e (signature_of k signature) refl
  with_key (Err f) e = (λ yes. absurd (let h : ◌≡◌ {A = Bool} false true = yes in cc), λ v. absurd (never v.k f (sym v.is_key ∙ e)))

  pub is_signed-Decides : Decides (is_signed key message signature) (Verifies key message signature)
  unfolding is_signed
  is_signed-Decides = with_key (key_of key) refl
