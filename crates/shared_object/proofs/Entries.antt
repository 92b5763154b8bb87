-- Entries that a history has, and who made them.
use Rattle.std.proofs.Common.{◌≡◌, ℕ, List, [], ◌∷◌, ◌++◌, length, refl, sym, ap, ◌∙◌, subst, arith, length-append}
use mathlib.Core.Option.{some}
use lib.ListN.{get_elem?}
use Rattle.atomic_table.proofs.Lists.{at_last, at_longer}
use Rattle.shared_object.specs.History.{StartsWith}
use Rattle.shared_object.specs.Caller.{Caller, Enters, HasEntry}

module _ {E K : Type 0} (number_of by_of : E → ℕ) (kept_of : E → K) where
  -- a longer history has it too
  pub has_later : (h h' : List E) (number by : ℕ) (kept : K) → StartsWith h' h → HasEntry number_of by_of kept_of h number by kept → HasEntry number_of by_of kept_of h' number by kept
  has_later h h' number by kept s e = record {
    place = e.place;
    entry = e.entry;
    number_is = e.number_is;
    at = subst (λ (l : List E). get_elem? l e.place ≡ some e.entry) (sym s.1) (at_longer h s.0 e.place e.entry e.at);
    numbered = e.numbered;
    made_by = e.made_by;
    keeps = e.keeps;
  }

  module _ {C R : Type 0} (gives : List E → ℕ → ℕ → C → E) (reply_of : E → R) (kept : C → K)
      (keeps : (h : List E) (number by : ℕ) (call : C) → (number_of (gives h number by call) ≡ number) × (by_of (gives h number by call) ≡ by) × (kept_of (gives h number by call) ≡ kept call)) where
    pub has_own : (by : ℕ) (call : C) (number : ℕ) (reply : R) (v w : Caller E) → Enters gives reply_of by call number reply v w → HasEntry number_of by_of kept_of w.seen number by (kept call)
    has_own by call number reply v w e =
        let h = v.seen ++ e.between in
        let k = keeps h number by call in record {
          place = length h;
          entry = e.entry;
          number_is = omega (arith, e.number_is, ap length e.seen, length-append h (e.entry ∷ []));
          at = subst (λ (l : List E). get_elem? l (length h) ≡ some e.entry) (sym e.seen) (at_last h e.entry (length h) refl);
          numbered = ap number_of e.gave ∙ k.0;
          made_by = ap by_of e.gave ∙ k.1;
          keeps = ap kept_of e.gave ∙ k.2;
        }

module _ {E C R : Type 0} (gives : List E → ℕ → ℕ → C → E) (reply_of : E → R) where
  pub later_of : (by : ℕ) (call : C) (number : ℕ) (reply : R) (v w : Caller E) → Enters gives reply_of by call number reply v w → StartsWith w.seen v.seen
  later_of by call number reply v w e = (e.between ++ e.entry ∷ [], e.seen ∙ assoc v.seen e.between (e.entry ∷ []))
    where
      assoc : (l m n : List E) → (l ++ m) ++ n ≡ l ++ (m ++ n)
      assoc [] m n = refl
      assoc (x ∷ xs) m n = ap (λ zs. x ∷ zs) (assoc xs m n)
