-- What is read after a tag, and what a number stands for.
use Rattle.std.proofs.Common.{◌≡◌, ℕ, true, cond, eqb, List, [], ◌∷◌, Option, Some, None, Ok, sym, ap, subst, ◌∙◌, inl, inr}
use Rattle.std.proofs.lemmas.Bool.{eqb-true}
use Rattle.channel_values.proofs.Fields.{ok_is, Takes}
use Rattle.channel_values.proofs.Takes.{chosen}
use Rattle.call_bytes.specs.Reading.{or_bad}

-- a tag that was read, with what was read after it
pub tagged : (tag : ℕ) (bytes text rest : List ℕ) → Takes bytes text rest → Takes (tag ∷ bytes) (tag ∷ text) rest
tagged tag bytes text rest t = record { parts = ap (λ (w : List ℕ). tag ∷ w) t.parts; rest_fits = t.rest_fits }

-- what is taken after a tag that is known by a test
pub behind : {X : Type 0} (spell : X → List ℕ) (Is : X → Type 0) (tag known : ℕ) (bytes : List ℕ) (x : X × List ℕ) → eqb tag known ≡ true
    → Takes (known ∷ bytes) (spell x.0) x.1 × Is x.0 → Takes (tag ∷ bytes) (spell x.0) x.1 × Is x.0
behind spell Is tag known bytes x e t = subst (λ (k : ℕ). Takes (k ∷ bytes) (spell x.0) x.1 × Is x.0) (sym (eqb-true tag known e)) t

-- after a byte that was taken
pub after_byte : (bytes text after rest : List ℕ) (tag : ℕ) → Takes bytes (tag ∷ []) after → Takes (tag ∷ after) text rest → Takes bytes text rest
after_byte bytes text after rest tag first then = record { parts = first.parts ∙ then.parts; rest_fits = then.rest_fits }

-- a number stands for something
pub or_bad_ok : {A : Type 0} (place : ℕ) (o : Option A) (rest : List ℕ) (x : A × List ℕ) → or_bad place o rest ≡ Ok x → (o ≡ Some x.0) × (rest ≡ x.1)
or_bad_ok place None rest x e = absurd cc
or_bad_ok place (Some y) rest x e =
    let same = ok_is (y, rest) x e in
    (ap (λ (z : _ × List ℕ). Some z.0) same, ap (λ (z : _ × List ℕ). z.1) same)

pub some_is : {A : Type 0} (x y : A) → Some x ≡ Some y → x ≡ y
some_is x y e = cc

pub none_is : {A : Type 0} (B : Type 0) (y : A) → None ≡ Some y → B
none_is B y e = absurd cc

-- one step down a list of numbers and what they stand for
pub pick : {A : Type 0} (P : ℕ → A → Type 0) (n k : ℕ) (x : A) (other : Option A) (y : A)
    → P k x → (other ≡ Some y → P n y) → cond (eqb n k) (Some x) other ≡ Some y → P n y
pick P n k x other y holds otherwise e =
    elim (chosen (eqb n k) (Some x) other (Some y) e) [
      | inl p ↦ subst (λ (m : ℕ). P m y) (sym (eqb-true n k p.0)) (subst (P k) (some_is x y p.1) holds)
      | inr q ↦ otherwise q.1
    ]
