-- A map from digests to places of strings.
use Rattle.std.proofs.Common.{◌≡◌, ℕ, zero, suc, ◌+◌, ◌<◌, ◌≤◌, Bool, true, false, cond, List, [], ◌∷◌, ◌⊎◌, inl, inr, length, get_or, Contains, Option, Some, None, refl, sym, ◌∙◌, ap, subst, arith}
use Rattle.std.specs.BTreeMap.{BTreeMap, get, Updates}
use Rattle.std.specs.Cmp.Lexicographic.{slice_cmp}
use Rattle.std.specs.Ordering.{nat_cmp, is_eq}
use Rattle.std.specs.List.{slice_get}
use Rattle.std.specs.declared.cmp.Ordering.{Ordering}
use Rattle.std.specs.declared.cmp.Ordering.TheVariants.{Less, Equal, Greater}
use Rattle.std.specs.Str.{bytes_eq}
use Rattle.std.proofs.lemmas.Map.Lookups.{exact_bytes}
use Rattle.call_history.proofs.Names.{same_bytes, bytes_eq_self}
use Rattle.premises.specs.Own.{is_string}
use Rattle.premises.proofs.ListTests.{never}
use Rattle.sha2.specs.Sha256.{sha256}
use Rattle.channel_values.specs.Collisions.{NoneCollide}

-- the string before this place with this digest is the same
pub record PlaceOf (places : BTreeMap (List ℕ) ℕ) (strings : List (List ℕ)) (s : List ℕ) : Type 0 where
  pub place : ℕ
  pub is : get (slice_cmp nat_cmp) places (sha256 s) ≡ Some place
  pub within : place < length strings
  pub same : get_or strings place [] ≡ s

-- the digest of each of the first strings leads to that string, and the map leads to strings with that digest
pub record Places (places : BTreeMap (List ℕ) ℕ) (strings : List (List ℕ)) (count : ℕ) : Type 0 where
  pub each : (k : ℕ) → k < count → PlaceOf places strings (get_or strings k [])
  pub of : (q : List ℕ) (place : ℕ) → get (slice_cmp nat_cmp) places q ≡ Some place → (place < count) × (sha256 (get_or strings place []) ≡ q)

-- ---- what stands at a place

stands : (xs : List (List ℕ)) (k : ℕ) → k < length xs → slice_get xs k ≡ Some (get_or xs k [])
stands [] k l = absurd (omega arith)
stands (x ∷ xs) zero l = refl
stands (x ∷ xs) (suc k) l = stands xs k (omega arith)

pub default-free : (xs : List (List ℕ)) (k : ℕ) (d e : List ℕ) → k < length xs → get_or xs k d ≡ get_or xs k e
default-free [] k d e l = absurd (omega arith)
default-free (x ∷ xs) zero d e l = refl
default-free (x ∷ xs) (suc k) d e l = default-free xs k d e (omega arith)

contains-at : (xs : List (List ℕ)) (k : ℕ) → k < length xs → Contains xs (get_or xs k [])
contains-at xs k l = (k, l, default-free xs k (get_or xs k []) [] l)

some-same : {A : Type 0} (x y : A) → Some x ≡ Some y → x ≡ y
some-same x y e = cc

below-more : (k count : ℕ) → k < count + 1 → (k < count) ⊎ (k ≡ count)
below-more k count l = grind arith

equal-is : (o : Ordering) → is_eq o ≡ true → o ≡ Equal
equal-is Less h = never h
equal-is Equal h = refl
equal-is Greater h = never h

-- ---- one more string

-- a string with a digest that is known, of another string
pub collides : (places : BTreeMap (List ℕ) ℕ) (strings : List (List ℕ)) (count first : ℕ) (digest : List ℕ) → Places places strings count → count < length strings
    → digest ≡ sha256 (get_or strings count []) → get (slice_cmp nat_cmp) places digest ≡ Some first
    → is_string (slice_get strings first) (get_or strings count []) ≡ false → NoneCollide strings → ⊥
collides places strings count first digest inv l d g other none =
    let known = inv.of digest first g in
    let within : first < length strings = (let k : first < count = known.0 in omega arith) in
    let s = get_or strings count [] in
    let same : get_or strings first [] ≡ s = none (get_or strings first []) s (contains-at strings first within) (contains-at strings count l) (known.1 ∙ d) in
    let alike : is_string (slice_get strings first) s ≡ true =
    ap (λ (o : Option (List ℕ)). is_string o s) (stands strings first within) ∙ (ap (λ (x : List ℕ). bytes_eq x s) same ∙ bytes_eq_self s) in
    let clash : false ≡ true = sym other ∙ alike in
    never clash

pub keeps-same : (places : BTreeMap (List ℕ) ℕ) (strings : List (List ℕ)) (count first : ℕ) (digest : List ℕ) → Places places strings count → count < length strings
    → digest ≡ sha256 (get_or strings count []) → get (slice_cmp nat_cmp) places digest ≡ Some first
    → is_string (slice_get strings first) (get_or strings count []) ≡ true → Places places strings (count + 1)
keeps-same places strings count first digest inv l d g alike =
    record {
      each = λ k below. go k (below-more k count below);
      of = λ q place h. (let k = inv.of q place h in let b : place < count = k.0 in (omega arith, k.1));
    }
  where
    known : first < count
    known = (inv.of digest first g).0

    here : PlaceOf places strings (get_or strings count [])
    here =
        let within : first < length strings = (let k : first < count = known in omega arith) in
        let told : is_string (Some (get_or strings first [])) (get_or strings count []) ≡ true =
        ap (λ (o : Option (List ℕ)). is_string o (get_or strings count [])) (sym (stands strings first within)) ∙ alike in
        record {
          place = first;
          is = ap (get (slice_cmp nat_cmp) places) (sym d) ∙ g;
          within = within;
          same = same_bytes (get_or strings first []) (get_or strings count []) told;
        }

    go : (k : ℕ) → (k < count) ⊎ (k ≡ count) → PlaceOf places strings (get_or strings k [])
    go k (inl b) = inv.each k b
    go k (inr e) = subst (λ (n : ℕ). PlaceOf places strings (get_or strings n [])) (sym e) here

pub keeps-new : (places new : BTreeMap (List ℕ) ℕ) (strings : List (List ℕ)) (count : ℕ) (digest : List ℕ) → Places places strings count → count < length strings
    → digest ≡ sha256 (get_or strings count []) → get (slice_cmp nat_cmp) places digest ≡ None
    → Updates (slice_cmp nat_cmp) places new digest (Some count) → Places new strings (count + 1)
keeps-new places new strings count digest inv l d g u =
    record {
      each = λ k below. go k (below-more k count below);
      of = λ q place h. of-new q place (is_eq (slice_cmp nat_cmp digest q)) refl (sym (u.0 q) ∙ h);
    }
  where
    old : (q : List ℕ) (place : ℕ) → get (slice_cmp nat_cmp) places q ≡ Some place → (b : Bool) → is_eq (slice_cmp nat_cmp digest q) ≡ b
        → cond b (Some count) (get (slice_cmp nat_cmp) places q) ≡ Some place
    old q place h true e =
        let same : digest ≡ q = exact_bytes digest q (equal-is (slice_cmp nat_cmp digest q) e) in
        let clash : None ≡ Some place = sym g ∙ (ap (get (slice_cmp nat_cmp) places) same ∙ h) in
        absurd (none-some place clash)
      where
        none-some : (n : ℕ) → None ≡ Some n → ⊥
        none-some n c = cc
    old q place h false e = h

    go : (k : ℕ) → (k < count) ⊎ (k ≡ count) → PlaceOf new strings (get_or strings k [])
    go k (inl b) =
        let p = inv.each k b in
        let q = sha256 (get_or strings k []) in
        record { place = p.place; is = u.0 q ∙ old q p.place p.is (is_eq (slice_cmp nat_cmp digest q)) refl; within = p.within; same = p.same }
    go k (inr e) =
        subst (λ (n : ℕ). PlaceOf new strings (get_or strings n [])) (sym e)
        (record { place = count; is = ap (get (slice_cmp nat_cmp) new) (sym d) ∙ u.1; within = l; same = refl })

    of-new : (q : List ℕ) (place : ℕ) (b : Bool) → is_eq (slice_cmp nat_cmp digest q) ≡ b → cond b (Some count) (get (slice_cmp nat_cmp) places q) ≡ Some place
        → (place < count + 1) × (sha256 (get_or strings place []) ≡ q)
    of-new q place true e h =
        let same : digest ≡ q = exact_bytes digest q (equal-is (slice_cmp nat_cmp digest q) e) in
        let is : count ≡ place = some-same count place h in
        ((let i : count ≡ place = is in omega arith), ap (λ (n : ℕ). sha256 (get_or strings n [])) (sym is) ∙ (sym d ∙ same))
    of-new q place false e h = (let k = inv.of q place h in let b : place < count = k.0 in (omega arith, k.1))

pub whole : (places : BTreeMap (List ℕ) ℕ) (strings : List (List ℕ)) (count : ℕ) → Places places strings count → length strings ≤ count → NoneCollide strings
whole places strings count inv all a b (i, li, ei) (j, lj, ej) q =
    let at : get_or strings i [] ≡ a = default-free strings i [] a li ∙ ei in
    let bt : get_or strings j [] ≡ b = default-free strings j [] b lj ∙ ej in
    let pa = inv.each i (omega arith) in
    let pb = inv.each j (omega arith) in
    let one : Some pa.place ≡ Some pb.place =
    sym pa.is ∙ (ap (λ (x : List ℕ). get (slice_cmp nat_cmp) places (sha256 x)) at ∙ (ap (get (slice_cmp nat_cmp) places) q
    ∙ (ap (λ (x : List ℕ). get (slice_cmp nat_cmp) places (sha256 x)) (sym bt) ∙ pb.is))) in
    sym at ∙ (sym pa.same ∙ (ap (λ (n : ℕ). get_or strings n []) (some-same pa.place pb.place one) ∙ (pb.same ∙ bt)))
