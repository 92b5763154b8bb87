-- Formats: what is read is valid and spelled so, and what is valid is read from its spelling.
use Rattle.std.proofs.Common.{◌≡◌, ℕ, ◌-◌, ◌<◌, take, drop, false, ◌∷◌, arith, Bool, true, eqb, List, [], ◌++◌, length, Result, Ok, Err, refl, sym, ap, subst, ◌∙◌, inl, inr}
use Rattle.std.specs.Prelude.{IfOk, IsTrue, is_ok}
use Rattle.std.proofs.lemmas.Bool.{eqb-true, ne_eqb}
use Rattle.std.proofs.lemmas.List.{append-nil, nil_from_length, take-append-drop, length-drop, length-append}
use Rattle.channel_values.specs.declared.fault.ByteFault.{ByteFault}
use Rattle.channel_values.specs.declared.fault.ByteFault.TheVariants as faults
use Rattle.channel_values.specs.Outcomes.{AreBytes}
use Rattle.channel_values.specs.Reading.{Gives, all_of}
use Rattle.channel_values.proofs.Fields.{bind_ok, guard_ended, Takes, AreBytes-take}
use Rattle.channel_values.proofs.Again.{Again}

pub record IsFormat {A : Type 0} (at : ℕ → List ℕ → Result (A × List ℕ) ByteFault) (spell : A → List ℕ) (Valid : A → Type 0) : Type 0 where
  pub takes : (whole : ℕ) (bytes : List ℕ) (x : A × List ℕ) → AreBytes bytes → at whole bytes ≡ Ok x → Takes bytes (spell x.0) x.1 × Valid x.0
  pub again : (whole : ℕ) (x : A) (rest : List ℕ) → Valid x → at whole (spell x ++ rest) ≡ Ok (x, rest)

-- all of the bytes
pub all_takes : {A : Type 0} {at : ℕ → List ℕ → Result (A × List ℕ) ByteFault} {spell : A → List ℕ} {Valid : A → Type 0} → IsFormat at spell Valid → (bytes : List ℕ) (v : A) → AreBytes bytes → all_of at bytes ≡ Ok v → Valid v × (bytes ≡ spell v)
unfolding all_of
all_takes {A} {at} {spell} {Valid} format bytes v fits e =
    let a = bind_ok (at (length bytes) bytes) _ v e in
    let t = format.takes (length bytes) bytes a.0 fits a.1 in
    let g = guard_ended (eqb (length a.0.1) 0) _ a.0.0 v a.2 in
    let nothing : a.0.1 ≡ [] = nil_from_length a.0.1 (eqb-true _ _ g.0) in
    let whole : bytes ≡ spell a.0.0 = t.0.parts ∙ ap (λ (r : List ℕ). spell a.0.0 ++ r) nothing ∙ append-nil (spell a.0.0) in
    subst (λ (x : A). Valid x × (bytes ≡ spell x)) g.1 (t.1, whole)

all_from : {A : Type 0} (at : ℕ → List ℕ → Result (A × List ℕ) ByteFault) (text : List ℕ) (v : A) → at (length text) (text ++ []) ≡ Ok (v, []) → all_of at text ≡ Ok v
unfolding all_of
all_from at text v e =
    let closed : at (length text) text ≡ Ok (v, []) = ap (at (length text)) (sym (append-nil text)) ∙ e in
    rw closed refl

fault_from : {A : Type 0} (at : ℕ → List ℕ → Result (A × List ℕ) ByteFault) (text : List ℕ) (f : ByteFault) → at (length text) (text ++ []) ≡ Err f → all_of at text ≡ Err f
unfolding all_of
fault_from at text f e =
    let closed : at (length text) text ≡ Err f = ap (at (length text)) (sym (append-nil text)) ∙ e in
    rw closed refl

-- a valid value is read from its spelling
pub valid_again : {A : Type 0} {at : ℕ → List ℕ → Result (A × List ℕ) ByteFault} {spell : A → List ℕ} {Valid : A → Type 0} → IsFormat at spell Valid → (v : A) → Valid v → all_of at (spell v) ≡ Ok v
valid_again {A} {at} {spell} format v valid = all_from at (spell v) v (format.again (length (spell v)) v [] valid)

pub is_found : {A : Type 0} {at : ℕ → List ℕ → Result (A × List ℕ) ByteFault} {spell : A → List ℕ} {Valid : A → Type 0} → IsFormat at spell Valid → (bytes : List ℕ) (r : Result A ByteFault) → AreBytes bytes → Gives (λ x. x) r (all_of at bytes) → IfOk r (λ v. Valid v × (bytes ≡ spell v))
is_found format bytes (Ok v) fits given = all_takes format bytes v fits given
is_found format bytes (Err e) fits given = tt

pub is_only : {A : Type 0} {at : ℕ → List ℕ → Result (A × List ℕ) ByteFault} {spell : A → List ℕ} {Valid : A → Type 0} → IsFormat at spell Valid → (bytes : List ℕ) (r : Result A ByteFault) → Gives (λ x. x) r (all_of at bytes) → (v : A) → Valid v → bytes ≡ spell v → Gives (λ x. x) r (Ok v)
is_only {A} {at} format bytes r given v valid e = subst (λ (f : Result A ByteFault). Gives (λ x. x) r f) (ap (all_of at) e ∙ valid_again format v valid) given

-- two values never share a spelling
pub spelled_once : {A : Type 0} {at : ℕ → List ℕ → Result (A × List ℕ) ByteFault} {spell : A → List ℕ} {Valid : A → Type 0} → IsFormat at spell Valid → (a b : A) → Valid a → Valid b → spell a ≡ spell b → a ≡ b
spelled_once {A} {at} format a b ha hb e =
    let same : result (Ok a) ≡ result (Ok b) = sym (valid_again format a ha) ∙ ap (all_of at) e ∙ valid_again format b hb in
    cc
  where
    result : Result A ByteFault → Result A ByteFault
    result r = r

-- what is read from the spelling of a value, valid or not, is that value, or a fault
pub is_made : {A : Type 0} (at : ℕ → List ℕ → Result (A × List ℕ) ByteFault) (text : List ℕ) (v : A) (Valid : Type 0) (r : Result A ByteFault) → Again (at (length text) (text ++ [])) v [] Valid → Gives (λ x. x) r (all_of at text) → IfOk r (λ o. o ≡ v)
is_made {A} at text v Valid (Ok o) (inl e) given =
    let same : result (Ok v) ≡ result (Ok o) = sym (all_from at text v e) ∙ given in
    cc
  where
    result : Result A ByteFault → Result A ByteFault
    result r = r
is_made at text v Valid (Ok o) (inr p) given = absurd (let never = sym (fault_from at text p.0 p.1) ∙ given in cc)
is_made at text v Valid (Err e) again given = tt

-- something is read exactly where the bytes are a spelling
spelled_from : {A : Type 0} {at : ℕ → List ℕ → Result (A × List ℕ) ByteFault} {spell : A → List ℕ} {Valid : A → Type 0} → IsFormat at spell Valid → (bytes : List ℕ) (r : Result A ByteFault) → AreBytes bytes → all_of at bytes ≡ r → is_ok r ≡ true → (v : A) × Valid v × (bytes ≡ spell v)
spelled_from format bytes (Ok v) fits e holds = let t = all_takes format bytes v fits e in (v, t.0, t.1)
spelled_from format bytes (Err f) fits e holds = absurd cc

pub is_spelled : {A : Type 0} {at : ℕ → List ℕ → Result (A × List ℕ) ByteFault} {spell : A → List ℕ} {Valid : A → Type 0} → IsFormat at spell Valid → (bytes : List ℕ) (b : Bool) → AreBytes bytes → b ≡ is_ok (all_of at bytes) → (IsTrue b → (v : A) × Valid v × (bytes ≡ spell v)) × (((v : A) × Valid v × (bytes ≡ spell v)) → IsTrue b)
is_spelled {A} {at} format bytes b fits e = (
  λ holds. spelled_from format bytes (all_of at bytes) fits refl (sym e ∙ holds),
  λ p. e ∙ ap is_ok (ap (all_of at) p.2 ∙ valid_again format p.0 p.1),
)

-- what is read from the spelling of a valid value is that value
pub read_is : {A : Type 0} {at : ℕ → List ℕ → Result (A × List ℕ) ByteFault} {spell : A → List ℕ} {Valid : A → Type 0} → IsFormat at spell Valid → (bytes : List ℕ) (w v : A) → all_of at bytes ≡ Ok w → Valid v → bytes ≡ spell v → w ≡ v
read_is {A} {at} format bytes w v read valid e =
    let same : result (Ok w) ≡ result (Ok v) = sym read ∙ ap (all_of at) e ∙ valid_again format v valid in
    cc
  where
    result : Result A ByteFault → Result A ByteFault
    result r = r

pub read_fails : {A : Type 0} {at : ℕ → List ℕ → Result (A × List ℕ) ByteFault} {spell : A → List ℕ} {Valid : A → Type 0} → IsFormat at spell Valid → (bytes : List ℕ) (f : ByteFault) (v : A) → all_of at bytes ≡ Err f → Valid v → bytes ≡ spell v → ⊥
read_fails {A} {at} format bytes f v read valid e =
    let never : result (Err f) ≡ result (Ok v) = sym read ∙ ap (all_of at) e ∙ valid_again format v valid in
    cc
  where
    result : Result A ByteFault → Result A ByteFault
    result r = r

-- no front of what is read is read
front_fails : {A : Type 0} {at : ℕ → List ℕ → Result (A × List ℕ) ByteFault} {spell : A → List ℕ} {Valid : A → Type 0} → IsFormat at spell Valid → (bytes : List ℕ) (v : A) (n : ℕ) (r : Result A ByteFault) → AreBytes bytes → all_of at bytes ≡ Ok v → n < length bytes → all_of at (take n bytes) ≡ r → is_ok r ≡ false
front_fails {A} {at} {spell} {Valid} format bytes v n (Ok x) fits read lt front =
    let whole = all_takes format bytes v fits read in
    let part = all_takes format (take n bytes) x (AreBytes-take n bytes fits) front in
    let split : bytes ≡ spell x ++ drop n bytes = sym (take-append-drop n bytes) ∙ ap (λ (w : List ℕ). w ++ drop n bytes) part.1 in
    let once : at 0 bytes ≡ Ok (x, drop n bytes) = ap (at 0) split ∙ format.again 0 x (drop n bytes) part.0 in
    let twice : at 0 bytes ≡ Ok (v, []) = ap (at 0) (whole.1 ∙ sym (append-nil (spell v))) ∙ format.again 0 v [] whole.0 in
    let same : rest_of (Ok (x, drop n bytes)) ≡ rest_of (Ok (v, [])) = ap rest_of (sym once ∙ twice) in
    absurd (omega (arith, lt, ap length same, length-drop n bytes))
  where
    rest_of : Result (A × List ℕ) ByteFault → List ℕ
    rest_of (Ok y) = y.1
    rest_of (Err e) = []
front_fails format bytes v n (Err e) fits read lt front = refl

pub fronts_fail : {A : Type 0} {at : ℕ → List ℕ → Result (A × List ℕ) ByteFault} {spell : A → List ℕ} {Valid : A → Type 0} → IsFormat at spell Valid → (bytes : List ℕ) (v : A) (n : ℕ) → AreBytes bytes → all_of at bytes ≡ Ok v → n < length bytes → is_ok (all_of at (take n bytes)) ≡ false
fronts_fail {A} {at} format bytes v n fits read lt = front_fails format bytes v n (all_of at (take n bytes)) fits read lt refl

-- what stands after a spelling is the fault
pub trailing_fails : {A : Type 0} {at : ℕ → List ℕ → Result (A × List ℕ) ByteFault} {spell : A → List ℕ} {Valid : A → Type 0} → IsFormat at spell Valid → (v : A) (b : ℕ) (more : List ℕ) → Valid v → all_of at (spell v ++ b ∷ more) ≡ Err (faults.Trailing (length (spell v)))
unfolding all_of
trailing_fails {A} {at} {spell} format v b more valid =
    let text : List ℕ = spell v ++ b ∷ more in
    let read : at (length text) text ≡ Ok (v, b ∷ more) = format.again (length text) v (b ∷ more) valid in
    let some : eqb (length (b ∷ more)) 0 ≡ false = ne_eqb (length (b ∷ more)) 0 (λ none. absurd (omega (arith, none))) in
    let place : length text - length (b ∷ more) ≡ length (spell v) = omega (arith, length-append (spell v) (b ∷ more)) in
    rw (read, some, place) refl
