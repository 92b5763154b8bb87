-- Fixed parts: what is read is spelled so, and valid; and what is spelled is read.
use Rattle.std.proofs.Common.{◌≡◌, ℕ, zero, suc, ◌-◌, ◌^◌, ◌<◌, ◌≤◌, Bool, true, false, ◌&&◌, not, eqb, ltb, List, [], ◌∷◌, ◌++◌, length, Ok, refl, sym, ap, subst, ◌∙◌, append_assoc, arith, lit<, inl, inr}
use Rattle.std.specs.List.{AllByRecursion, flat_map, list_any}
use Rattle.std.specs.Int.{w32, w64, to_be_bytes}
use Rattle.std.specs.Str.{bytes_eq}
use Rattle.std.proofs.lemmas.Bool.{eqb-true, eqb-false, eq-eqb, ne_eqb, ltb-false, lt-ltb, le-ltb, cases_lt}
use Rattle.channel_values.specs.declared.fault.ByteFault.TheVariants as faults
use Rattle.channel_values.specs.Outcomes.{AreBytes}
use Rattle.channel_values.specs.Parts.{FixedParts, IsKey, AreKeys, IsFixed, fixed_with}
use Rattle.channel_values.specs.Spelling.{count, fixed}
use Rattle.channel_values.specs.Reading.{byte_at, number_at, front_at, many_at, people_at, key_at, app_at, duration_at, fixed_at}
use Rattle.channel_values.proofs.Apart.{AreApart-push, AreApart-last, AreApart-front, Each-push, Each-front}
use Rattle.channel_values.proofs.Fields.{bind_ok, ok_is, passed, Takes, Takes-then, wide32, wide64, byte_takes, number_takes, front_takes}
use Rattle.channel_values.proofs.Takes.{many_take, count_is}
use Rattle.channel_values.proofs.Again.{Again, Again-then, Again-test, again_valid, many_again, number_again, front_again}

not_false : (b : Bool) → not b ≡ false → b ≡ true
not_false true e = refl
not_false false e = absurd cc

both_tests : (b c : Bool) → (b ≡ true → c ≡ true) → (b && not c) ≡ false
both_tests false c h = refl
both_tests true true h = refl
both_tests true false h = absurd (let never = h refl in cc)

second_test : (b c : Bool) → b ≡ true → (b && not c) ≡ false → c ≡ true
second_test true c e h = not_false c h
second_test false c e h = absurd cc

people_takes : (whole : ℕ) (bytes : List ℕ) (x : ℕ × List ℕ) → AreBytes bytes → people_at whole bytes ≡ Ok x → Takes bytes (x.0 ∷ []) x.1 × (2 ≤ x.0) × (x.0 ≤ 4)
unfolding people_at
people_takes whole bytes x fits e =
    let a = bind_ok (byte_at whole bytes) _ x e in
    let t = byte_takes whole bytes a.0 fits a.1 in
    let p = passed (ltb a.0.0 2) _ _ x a.2 in
    let q = passed (ltb 4 a.0.0) _ _ x p.1 in
    subst (λ (y : ℕ × List ℕ). Takes bytes (y.0 ∷ []) y.1 × (2 ≤ y.0) × (y.0 ≤ 4)) (ok_is a.0 x q.1) (t.0, ltb-false _ _ p.0, ltb-false _ _ q.0)

key_takes : (whole : ℕ) (seen : List (List ℕ)) (bytes : List ℕ) (x : List ℕ × List ℕ) → AreKeys seen → AreBytes bytes → key_at whole seen bytes ≡ Ok x → Takes bytes x.0 x.1 × AreKeys (seen ++ x.0 ∷ [])
unfolding key_at
key_takes whole seen bytes x good fits e =
    let a = bind_ok (front_at whole 56 bytes) _ x e in
    let fresh = passed (list_any (λ k. bytes_eq k a.0.0) seen) _ _ x a.2 in
    let t = front_takes whole 56 bytes a.0 fits a.1 in
    let more : AreKeys (seen ++ a.0.0 ∷ []) = record {
      each = Each-push IsKey seen a.0.0 good.each (t.1, t.2);
      apart = AreApart-push bytes_eq seen a.0.0 good.apart fresh.0;
    } in
    subst (λ (y : List ℕ × List ℕ). Takes bytes y.0 y.1 × AreKeys (seen ++ y.0 ∷ [])) (ok_is a.0 x fresh.1) (t.0, more)

app_takes : (whole n : ℕ) (bytes : List ℕ) (x : ℕ × List ℕ) → AreBytes bytes → app_at whole n bytes ≡ Ok x → Takes bytes (x.0 ∷ []) x.1 × (x.0 ≤ 2) × (x.0 ≡ 1 → n ≡ 2)
unfolding app_at
app_takes whole n bytes x fits e =
    let a = bind_ok (byte_at whole bytes) _ x e in
    let t = byte_takes whole bytes a.0 fits a.1 in
    let p = passed (ltb 2 a.0.0) _ _ x a.2 in
    let q = passed (eqb a.0.0 1 && not (eqb n 2)) _ _ x p.1 in
    let payment : a.0.0 ≡ 1 → n ≡ 2 = λ one. eqb-true n 2 (second_test (eqb a.0.0 1) (eqb n 2) (eq-eqb a.0.0 1 one) q.0) in
    subst (λ (y : ℕ × List ℕ). Takes bytes (y.0 ∷ []) y.1 × (y.0 ≤ 2) × (y.0 ≡ 1 → n ≡ 2)) (ok_is a.0 x q.1) (t.0, ltb-false _ _ p.0, payment)

above_zero : (n : ℕ) → (n ≡ 0 → ⊥) → 1 ≤ n
above_zero zero never = absurd (never refl)
above_zero (suc n) never = omega arith

duration_takes : (whole : ℕ) (bytes : List ℕ) (x : ℕ × List ℕ) → AreBytes bytes → duration_at whole bytes ≡ Ok x → Takes bytes (to_be_bytes w32 x.0) x.1 × (1 ≤ x.0) × (x.0 < 2 ^ 32)
unfolding duration_at
duration_takes whole bytes x fits e =
    let a = bind_ok (number_at whole w32 bytes) _ x e in
    let t = number_takes whole w32 (2 ^ 32) wide32 bytes a.0 fits a.1 in
    let p = passed (eqb a.0.0 0) _ _ x a.2 in
    subst (λ (y : ℕ × List ℕ). Takes bytes (to_be_bytes w32 y.0) y.1 × (1 ≤ y.0) × (y.0 < 2 ^ 32)) (ok_is a.0 x p.1) (t.0, above_zero a.0.0 (eqb-false a.0.0 0 p.0), t.1)

no_keys : AreKeys []
no_keys = record { each = tt; apart = tt }

pub fixed_takes : (whole : ℕ) (bytes : List ℕ) (x : FixedParts × List ℕ) → AreBytes bytes → fixed_at whole bytes ≡ Ok x → Takes bytes (fixed x.0) x.1 × IsFixed x.0
unfolding fixed_at fixed
fixed_takes whole bytes x fits e =
    let a = bind_ok (people_at whole bytes) _ x e in
    let b = bind_ok (many_at (key_at whole) [] a.0.0 a.0.1) _ x a.2 in
    let n = bind_ok (number_at whole w64 b.0.1) _ x b.2 in
    let p = bind_ok (app_at whole a.0.0 n.0.1) _ x n.2 in
    let d = bind_ok (duration_at whole p.0.1) _ x p.2 in
    let t0 = people_takes whole bytes a.0 fits a.1 in
    let t1 = many_take (key_at whole) (λ key. key) AreKeys (key_takes whole) a.0.0 [] a.0.1 b.0 no_keys t0.0.rest_fits b.1 in
    let t2 = number_takes whole w64 (2 ^ 64) wide64 b.0.1 n.0 t1.3.rest_fits n.1 in
    let t3 = app_takes whole a.0.0 n.0.1 p.0 t2.0.rest_fits p.1 in
    let t4 = duration_takes whole p.0.1 d.0 t3.0.rest_fits d.1 in
    let keys : List (List ℕ) = t1.0 in
    let good : AreKeys keys = rw (← t1.1) t1.4 in
    let counted : Takes bytes (count (length keys) ∷ []) a.0.1 = subst (λ (k : ℕ). Takes bytes (k ∷ []) a.0.1) (count_is (length keys) a.0.0 4 t1.2 t0.2 (lit< tt)) t0.0 in
    let e34 = Takes-then n.0.1 (p.0.0 ∷ []) p.0.1 (to_be_bytes w32 d.0.0) d.0.1 t3.0 t4.0 in
    let e24 = Takes-then b.0.1 (to_be_bytes w64 n.0.0) n.0.1 (p.0.0 ∷ to_be_bytes w32 d.0.0) d.0.1 t2.0 e34 in
    let e14 = Takes-then a.0.1 (flat_map (λ key. key) keys) b.0.1 (to_be_bytes w64 n.0.0 ++ (p.0.0 ∷ to_be_bytes w32 d.0.0)) d.0.1 t1.3 e24 in
    let e04 = Takes-then bytes (count (length keys) ∷ []) a.0.1 (flat_map (λ key. key) keys ++ (to_be_bytes w64 n.0.0 ++ (p.0.0 ∷ to_be_bytes w32 d.0.0))) d.0.1 counted e14 in
    let made : FixedParts = fixed_with keys n.0.0 p.0.0 d.0.0 in
    let valid : IsFixed made = record {
      at_least_two = omega (arith, t1.2, t0.1);
      at_most_four = omega (arith, t1.2, t0.2);
      keys = good;
      nonce = t2.1;
      app = t3.1;
      payment = λ one. t1.2 ∙ t3.2 one;
      started = t4.1;
      duration = t4.2;
    } in
    let same : b.0.0 ≡ keys = t1.1 in
    subst (λ (y : FixedParts × List ℕ). Takes bytes (fixed y.0) y.1 × IsFixed y.0) (ap (λ (v : List (List ℕ)). (fixed_with v n.0.0 p.0.0 d.0.0, d.0.1)) (sym same) ∙ ok_is (fixed_with b.0.0 n.0.0 p.0.0 d.0.0, d.0.1) x d.2) (e04, valid)

-- ---- read again

people_again : (whole n : ℕ) (rest : List ℕ) → Again (people_at whole (count n ∷ rest)) n rest ((2 ≤ n) × (n ≤ 4))
unfolding people_at
people_again whole n rest =
    elim (cases_lt 4 n) [
      | inl over ↦
          let first : ltb (count n) 2 ≡ false = le-ltb _ _ (omega arith) in
          let second : ltb 4 (count n) ≡ true = lt-ltb _ _ (omega arith) in
          inr (faults.OverLimit (whole - suc (length rest)), rw (first, second) refl, λ v. absurd (omega (arith, v.1)))
      | inr le ↦
          let same : count n ≡ n = omega arith in
          elim (cases_lt n 2) [
            | inl few ↦
                let first : ltb n 2 ≡ true = lt-ltb _ _ few in
                inr (faults.OverLimit (whole - suc (length rest)), rw (same, first) refl, λ v. absurd (omega (arith, v.0)))
            | inr enough ↦
                let first : ltb n 2 ≡ false = le-ltb _ _ enough in
                let second : ltb 4 n ≡ false = le-ltb _ _ le in
                inl (rw (same, first, second) refl)
          ]
    ]

key_again : (whole : ℕ) (seen : List (List ℕ)) (x : List ℕ) (rest : List ℕ) → IsKey x → Again (key_at whole seen (x ++ rest)) x rest (AreKeys (seen ++ x ∷ []))
unfolding key_at
key_again whole seen x rest h =
    let Valid : Type 0 = AreKeys (seen ++ x ∷ []) in
    Again-then _ _ x rest x rest Valid Valid (inl (front_again whole 56 x rest h.0)) (λ v. v)
    (Again-test (list_any (λ k. bytes_eq k x) seen) _ _ x rest Valid (λ v. AreApart-last bytes_eq seen x v.apart) (inl refl))

keys_front : (xs ys : List (List ℕ)) → AreKeys (xs ++ ys) → AreKeys xs
keys_front xs ys h = record { each = Each-front IsKey xs ys h.each; apart = AreApart-front bytes_eq xs ys h.apart }

app_again : (whole n a : ℕ) (rest : List ℕ) → Again (app_at whole n (a ∷ rest)) a rest ((a ≤ 2) × (a ≡ 1 → n ≡ 2))
unfolding app_at
app_again whole n a rest =
    let Valid : Type 0 = (a ≤ 2) × (a ≡ 1 → n ≡ 2) in
    Again-test (ltb 2 a) _ _ a rest Valid (λ v. le-ltb _ _ v.0)
    (Again-test (eqb a 1 && not (eqb n 2)) _ _ a rest Valid (λ v. both_tests (eqb a 1) (eqb n 2) (λ one. eq-eqb n 2 (v.1 (eqb-true a 1 one)))) (inl refl))

duration_again : (whole n : ℕ) (rest : List ℕ) → n < 2 ^ 32 → Again (duration_at whole (to_be_bytes w32 n ++ rest)) n rest (1 ≤ n)
unfolding duration_at
duration_again whole n rest lt =
    let Valid : Type 0 = 1 ≤ n in
    Again-then _ _ n rest n rest Valid Valid (inl (number_again whole w32 (2 ^ 32) wide32 n rest lt)) (λ v. v)
    (Again-test (eqb n 0) _ _ n rest Valid (λ v. ne_eqb n 0 (λ nothing. absurd (omega (arith, v, nothing)))) (inl refl))

-- the fixed part is read, or there is a fault, and then it isn't valid
pub fixed_again : (whole : ℕ) (f : FixedParts) (rest : List ℕ) → AllByRecursion IsKey f.keys × (f.nonce < 2 ^ 64) × (f.duration < 2 ^ 32) → Again (fixed_at whole (fixed f ++ rest)) f rest (IsFixed f)
unfolding fixed_at fixed
fixed_again whole f rest h =
    let Valid : Type 0 = IsFixed f in
    let keys : List ℕ = flat_map (λ key. key) f.keys in
    let nonce : List ℕ = to_be_bytes w64 f.nonce in
    let duration : List ℕ = to_be_bytes w32 f.duration in
    let after_app : List ℕ = duration ++ rest in
    let after_nonce : List ℕ = f.app ∷ after_app in
    let after_keys : List ℕ = nonce ++ after_nonce in
    let after_count : List ℕ = keys ++ after_keys in
    let regrouped : fixed f ++ rest ≡ count (length f.keys) ∷ after_count = ap (λ (w : List ℕ). count (length f.keys) ∷ w) (append_assoc keys (nonce ++ (f.app ∷ duration)) rest ∙ ap (λ (w : List ℕ). keys ++ w) (append_assoc nonce (f.app ∷ duration) rest)) in
    subst (λ (w : List ℕ). Again (fixed_at whole w) f rest (IsFixed f)) (sym regrouped)
    (Again-then _ _ (length f.keys) after_count f rest ((2 ≤ length f.keys) × (length f.keys ≤ 4)) Valid (people_again whole (length f.keys) after_count) (λ v. (v.at_least_two, v.at_most_four))
    (Again-then _ _ f.keys after_keys f rest (AreKeys f.keys) Valid (many_again (key_at whole) (λ key. key) AreKeys IsKey keys_front (key_again whole) f.keys [] after_keys h.0) (λ v. v.keys)
    (Again-then _ _ f.nonce after_nonce f rest Valid Valid (inl (number_again whole w64 (2 ^ 64) wide64 f.nonce after_nonce h.1)) (λ v. v)
    (Again-then _ _ f.app after_app f rest ((f.app ≤ 2) × (f.app ≡ 1 → length f.keys ≡ 2)) Valid (app_again whole (length f.keys) f.app after_app) (λ v. (v.app, v.payment))
    (Again-then _ _ f.duration rest f rest (1 ≤ f.duration) Valid (duration_again whole f.duration rest h.2) (λ v. v.started)
    (inl refl))))))

-- a valid fixed part is read again
pub fixed_valid_again : (whole : ℕ) (f : FixedParts) (rest : List ℕ) → IsFixed f → fixed_at whole (fixed f ++ rest) ≡ Ok (f, rest)
fixed_valid_again whole f rest valid = again_valid _ f rest (IsFixed f) valid (fixed_again whole f rest (valid.keys.each, valid.nonce, valid.duration))
