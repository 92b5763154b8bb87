-- What the steps of a reader say where none of them fails, and numbers.
use Rattle.std.proofs.Common.{◌≡◌, ℕ, suc, ◌+◌, ◌^◌, ◌<◌, ◌≤◌, Bool, true, false, cond, ltb, List, [], ◌∷◌, ◌++◌, length, take, drop, Result, Ok, Err, refl, sym, ap, ◌∙◌, append_assoc, arith, inl, inr}
use Rattle.std.specs.Int.{Width, w16, w32, w64, byte_len, from_be_bytes, to_be_bytes}
use Rattle.std.proofs.lemmas.Bool.{cases_lt, ltb-false}
use Rattle.std.proofs.lemmas.List.{take-append-drop, length-take, get_or-drop, get_or-take, get_or_past}
use Rattle.std.proofs.lemmas.Nat.{be_bytes_2, be_bytes_4, be_bytes_8, from_be_bytes-to_be_bytes_2, from_be_bytes-to_be_bytes_4, from_be_bytes-to_be_bytes_8}
use Rattle.channel_values.specs.declared.fault.ByteFault.{ByteFault}
use Rattle.channel_values.specs.declared.fault.ByteFault.TheVariants as faults
use Rattle.channel_values.specs.Outcomes.{AreBytes, IsName}
use Rattle.channel_values.specs.Reading.{◌>>=◌, fault_if, byte_at, number_at, front_at, name_at, count_at}

pub AreBytes-drop : (n : ℕ) (bytes : List ℕ) → AreBytes bytes → AreBytes (drop n bytes)
AreBytes-drop n bytes h i = rw get_or-drop (h (n + i))

pub AreBytes-take : (n : ℕ) (bytes : List ℕ) → AreBytes bytes → AreBytes (take n bytes)
AreBytes-take n bytes h i =
    elim (cases_lt i n) [
      | inl lt ↦ rw (get_or-take n bytes i 0 lt) (h i)
      | inr le ↦ rw (get_or_past (take n bytes) i 0 (omega (arith, length-take n bytes))) (omega arith)
    ]

pub AreBytes-rest : (b : ℕ) (bytes : List ℕ) → AreBytes (b ∷ bytes) → AreBytes bytes
AreBytes-rest b bytes h i = h (suc i)

-- the value of a step that did not fail
pub bind_ok : {A B : Type 0} (r : Result A ByteFault) (f : A → Result B ByteFault) (y : B) → (r >>= f) ≡ Ok y → (x : A) × (r ≡ Ok x) × (f x ≡ Ok y)
bind_ok (Ok x) f y e = (x, refl, e)
bind_ok (Err d) f y e = absurd cc

abbrev done : {A : Type 0} → A → Result A ByteFault
done x = Ok x

pub ok_is : {A : Type 0} (x y : A) → done x ≡ done y → x ≡ y
ok_is x y e = cc

-- a test that did not fail
pub passed : {B : Type 0} (b : Bool) (d : ByteFault) (f : ℕ → Result B ByteFault) (y : B) → (fault_if b d >>= f) ≡ Ok y → (b ≡ false) × (f 0 ≡ Ok y)
passed true d f y e = absurd cc
passed false d f y e = (refl, e)

pub guard_ok : {A : Type 0} (b : Bool) (d : ByteFault) (x y : A) → cond b (Err d) (Ok x) ≡ Ok y → (b ≡ false) × (x ≡ y)
guard_ok true d x y e = absurd cc
guard_ok false d x y e = (refl, cc)

pub guard_ended : {A : Type 0} (b : Bool) (d : ByteFault) (x y : A) → cond b (Ok x) (Err d) ≡ Ok y → (b ≡ true) × (x ≡ y)
guard_ended true d x y e = (refl, cc)
guard_ended false d x y e = absurd cc

-- what a reader took from the front
pub record Takes (bytes text rest : List ℕ) : Type 0 where
  pub parts : bytes ≡ text ++ rest
  pub rest_fits : AreBytes rest

pub Takes-then : (a x b y c : List ℕ) → Takes a x b → Takes b y c → Takes a (x ++ y) c
Takes-then a x b y c p q = record { parts = p.parts ∙ ap (λ (t : List ℕ). x ++ t) q.parts ∙ sym (append_assoc x y c); rest_fits = q.rest_fits }

pub byte_takes : (whole : ℕ) (bytes : List ℕ) (x : ℕ × List ℕ) → AreBytes bytes → byte_at whole bytes ≡ Ok x → Takes bytes (x.0 ∷ []) x.1 × (x.0 < 256)
byte_takes whole [] x fits e = absurd cc
byte_takes whole (b ∷ rest) x fits e =
    rw (← ok_is (b, rest) x e) (record { parts = refl; rest_fits = AreBytes-rest b rest fits }, fits 0)

-- ---- numbers

pub record IsWide (w : Width) (limit : ℕ) : Type 0 where
  pub len : (n : ℕ) → length (to_be_bytes w n) ≡ byte_len w
  pub back : (bytes : List ℕ) → length bytes ≡ byte_len w → AreBytes bytes → to_be_bytes w (from_be_bytes w bytes) ≡ bytes
  pub again : (n : ℕ) → n < limit → from_be_bytes w (to_be_bytes w n) ≡ n
  pub below : (bytes : List ℕ) → AreBytes bytes → from_be_bytes w bytes < limit

pub wide16 : IsWide w16 (2 ^ 16)
wide16 = record {
  len = λ n. refl;
  back = λ bytes len fits. be_bytes_2 bytes _ len fits refl;
  again = λ n lt. from_be_bytes-to_be_bytes_2 n lt;
  below = λ bytes fits. omega (arith, fits 0, fits 1);
}

pub wide32 : IsWide w32 (2 ^ 32)
wide32 = record {
  len = λ n. refl;
  back = λ bytes len fits. be_bytes_4 bytes _ len fits refl;
  again = λ n lt. from_be_bytes-to_be_bytes_4 n lt;
  below = λ bytes fits. omega (arith, fits 0, fits 1, fits 2, fits 3);
}

pub wide64 : IsWide w64 (2 ^ 64)
wide64 = record {
  len = λ n. refl;
  back = λ bytes len fits. be_bytes_8 bytes _ len fits refl;
  again = λ n lt. from_be_bytes-to_be_bytes_8 n lt;
  below = λ bytes fits. omega (arith, fits 0, fits 1, fits 2, fits 3, fits 4, fits 5, fits 6, fits 7);
}

-- the front that a test has shown to be there
pub split_takes : (whole n : ℕ) (bytes : List ℕ) → AreBytes bytes → n ≤ length bytes → Takes bytes (take n bytes) (drop n bytes)
split_takes whole n bytes fits le = record { parts = sym (take-append-drop n bytes); rest_fits = AreBytes-drop n bytes fits }

pub number_takes : (whole : ℕ) (w : Width) (limit : ℕ) (wide : IsWide w limit) (bytes : List ℕ) (x : ℕ × List ℕ) → AreBytes bytes → number_at whole w bytes ≡ Ok x → Takes bytes (to_be_bytes w x.0) x.1 × (x.0 < limit)
number_takes whole w limit wide bytes x fits e =
    let g = guard_ok (ltb (length bytes) (byte_len w)) (faults.Cut whole) (from_be_bytes w (take (byte_len w) bytes), drop (byte_len w) bytes) x e in
    let long : byte_len w ≤ length bytes = ltb-false _ _ g.0 in
    let back : to_be_bytes w (from_be_bytes w (take (byte_len w) bytes)) ≡ take (byte_len w) bytes = wide.back (take (byte_len w) bytes) (omega (arith, length-take (byte_len w) bytes)) (AreBytes-take (byte_len w) bytes fits) in
    rw (← g.1) (rw back (split_takes whole (byte_len w) bytes fits long), wide.below (take (byte_len w) bytes) (AreBytes-take (byte_len w) bytes fits))

pub front_takes : (whole n : ℕ) (bytes : List ℕ) (x : List ℕ × List ℕ) → AreBytes bytes → front_at whole n bytes ≡ Ok x → Takes bytes x.0 x.1 × (length x.0 ≡ n) × AreBytes x.0
front_takes whole n bytes x fits e =
    let g = guard_ok (ltb (length bytes) n) (faults.Cut whole) (take n bytes, drop n bytes) x e in
    let long : n ≤ length bytes = ltb-false _ _ g.0 in
    rw (← g.1) (split_takes whole n bytes fits long, omega (arith, length-take n bytes), AreBytes-take n bytes fits)

pub name_takes : (whole : ℕ) (bytes : List ℕ) (x : List ℕ × List ℕ) → AreBytes bytes → name_at whole bytes ≡ Ok x → Takes bytes x.0 x.1 × IsName x.0
name_takes whole bytes x fits e =
    let t = front_takes whole 32 bytes x fits e in
    (t.0, (t.1, t.2))

pub count_takes : (whole limit : ℕ) (bytes : List ℕ) (x : ℕ × List ℕ) → AreBytes bytes → count_at whole limit bytes ≡ Ok x → Takes bytes (x.0 ∷ []) x.1 × (x.0 ≤ limit)
unfolding count_at
count_takes whole limit bytes x fits e =
    let a = bind_ok (byte_at whole bytes) _ x e in
    let t = byte_takes whole bytes a.0 fits a.1 in
    let p = passed (ltb limit a.0.0) _ _ x a.2 in
    let le : a.0.0 ≤ limit = ltb-false _ _ p.0 in
    rw (← ok_is a.0 x p.1) (t.0, le)
