-- Lists after their count.
use Rattle.std.proofs.Common.{◌≡◌, ℕ, ◌^◌, ◌+◌, ◌<◌, ◌≤◌, List, [], ◌∷◌, ◌++◌, length, take, get_or, Result, Ok, sym, ap, subst, ◌∙◌, append_assoc, arith, inl}
use Rattle.std.specs.Int.{w32, to_be_bytes}
use Rattle.std.specs.List.{AllByRecursion, flat_map}
use Rattle.std.proofs.lemmas.List.{append-nil, take_more}
use Rattle.std.proofs.lemmas.List.Concat.{flat_map-cons, flat_map-append}
use Rattle.channel_values.specs.declared.fault.ByteFault.{ByteFault}
use Rattle.channel_values.specs.Outcomes.{AreBytes}
use Rattle.channel_values.specs.Spelling.{count}
use Rattle.channel_values.specs.Reading.{count_at, many_at, number_at}
use Rattle.channel_values.proofs.Apart.{Each-push, Each-front}
use Rattle.channel_values.proofs.Fields.{bind_ok, Takes, Takes-then, wide32, count_takes, number_takes}
use Rattle.channel_values.proofs.Takes.{many_take, count_is}
use Rattle.channel_values.proofs.Again.{bind_again, again_valid, count_again, number_again, many_again}
use Rattle.channel_values.proofs.Format.{IsFormat}
use Rattle.run_record.specs.Spelling.{few, many}
use Rattle.run_record.specs.Limits.{AreFew, AreMany}
use Rattle.run_record.specs.Reading.{next_at, few_at, list_at}

next_takes : {X : Type 0} {at : ℕ → List ℕ → Result (X × List ℕ) ByteFault} {spell : X → List ℕ} {Is : X → Type 0} → IsFormat at spell Is
    → (whole : ℕ) (seen : List X) (bytes : List ℕ) (x : X × List ℕ) → AllByRecursion Is seen → AreBytes bytes → next_at at whole seen bytes ≡ Ok x
    → Takes bytes (spell x.0) x.1 × AllByRecursion Is (seen ++ x.0 ∷ [])
next_takes {X} {at} {spell} {Is} format whole seen bytes x good fits e =
    let t = format.takes whole bytes x fits e in
    (t.0, Each-push Is seen x.0 good t.1)

pub few_takes : {X : Type 0} {at : ℕ → List ℕ → Result (X × List ℕ) ByteFault} {spell : X → List ℕ} {Is : X → Type 0} → IsFormat at spell Is
    → (limit whole : ℕ) → limit < 255 → (bytes : List ℕ) (y : List X × List ℕ) → AreBytes bytes → few_at limit at whole bytes ≡ Ok y
    → Takes bytes (few spell y.0) y.1 × AreFew limit Is y.0
unfolding few_at
few_takes {X} {at} {spell} {Is} format limit whole small bytes y fits e =
    let a = bind_ok (count_at whole limit bytes) (λ n. many_at (next_at at whole) [] n.0 n.1) y e in
    let t0 = count_takes whole limit bytes a.0 fits a.1 in
    let t1 = many_take (next_at at whole) spell (AllByRecursion Is) (next_takes format whole) a.0.0 [] a.0.1 y tt t0.0.rest_fits a.2 in
    let xs : List X = t1.0 in
    let counted : Takes bytes (count (length xs) ∷ []) a.0.1 = subst (λ (k : ℕ). Takes bytes (k ∷ []) a.0.1) (count_is (length xs) a.0.0 limit t1.2 t0.1 (omega arith)) t0.0 in
    let both = Takes-then bytes (count (length xs) ∷ []) a.0.1 (flat_map spell xs) y.1 counted t1.3 in
    let small_count : length xs ≤ limit = omega (arith, t1.2, t0.1) in
    let good : AllByRecursion Is xs = subst (AllByRecursion Is) t1.1 t1.4 in
    subst (λ (v : List X). Takes bytes (few spell v) y.1 × AreFew limit Is v) (sym t1.1) (both, (small_count, good))

pub few_again : {X : Type 0} {at : ℕ → List ℕ → Result (X × List ℕ) ByteFault} {spell : X → List ℕ} {Is : X → Type 0} → IsFormat at spell Is
    → (limit whole : ℕ) → limit < 255 → (xs : List X) (rest : List ℕ) → AreFew limit Is xs → few_at limit at whole (few spell xs ++ rest) ≡ Ok (xs, rest)
unfolding few_at
few_again {X} {at} {spell} {Is} format limit whole small xs rest valid =
    bind_again _ _ (length xs, flat_map spell xs ++ rest) _
    (again_valid _ (length xs) (flat_map spell xs ++ rest) (length xs ≤ limit) valid.0 (count_again whole limit (length xs) (flat_map spell xs ++ rest) small))
    (again_valid _ xs rest (AllByRecursion Is xs) valid.1
    (many_again (next_at at whole) spell (AllByRecursion Is) Is (Each-front Is) (λ seen x after is. inl (format.again whole x after is)) xs [] rest valid.1))

pub list_takes : {X : Type 0} {at : ℕ → List ℕ → Result (X × List ℕ) ByteFault} {spell : X → List ℕ} {Is : X → Type 0} → IsFormat at spell Is
    → (whole : ℕ) (bytes : List ℕ) (y : List X × List ℕ) → AreBytes bytes → list_at at whole bytes ≡ Ok y
    → Takes bytes (many spell y.0) y.1 × AreMany Is y.0
unfolding list_at
list_takes {X} {at} {spell} {Is} format whole bytes y fits e =
    let a = bind_ok (number_at whole w32 bytes) (λ n. many_at (next_at at whole) [] n.0 n.1) y e in
    let t0 = number_takes whole w32 (2 ^ 32) wide32 bytes a.0 fits a.1 in
    let t1 = many_take (next_at at whole) spell (AllByRecursion Is) (next_takes format whole) a.0.0 [] a.0.1 y tt t0.0.rest_fits a.2 in
    let xs : List X = t1.0 in
    let counted : Takes bytes (to_be_bytes w32 (length xs)) a.0.1 = subst (λ (k : ℕ). Takes bytes (to_be_bytes w32 k) a.0.1) (sym t1.2) t0.0 in
    let both = Takes-then bytes (to_be_bytes w32 (length xs)) a.0.1 (flat_map spell xs) y.1 counted t1.3 in
    let small_count : length xs < 2 ^ 32 = subst (λ (k : ℕ). k < 2 ^ 32) (sym t1.2) t0.1 in
    let good : AllByRecursion Is xs = subst (AllByRecursion Is) t1.1 t1.4 in
    subst (λ (v : List X). Takes bytes (many spell v) y.1 × AreMany Is v) (sym t1.1) (both, (small_count, good))

pub list_again : {X : Type 0} {at : ℕ → List ℕ → Result (X × List ℕ) ByteFault} {spell : X → List ℕ} {Is : X → Type 0} → IsFormat at spell Is
    → (whole : ℕ) (xs : List X) (rest : List ℕ) → AreMany Is xs → list_at at whole (many spell xs ++ rest) ≡ Ok (xs, rest)
unfolding list_at
list_again {X} {at} {spell} {Is} format whole xs rest valid =
    let regrouped : many spell xs ++ rest ≡ to_be_bytes w32 (length xs) ++ (flat_map spell xs ++ rest) = append_assoc (to_be_bytes w32 (length xs)) (flat_map spell xs) rest in
    subst (λ (w : List ℕ). list_at at whole w ≡ Ok (xs, rest)) (sym regrouped)
    (bind_again _ _ (length xs, flat_map spell xs ++ rest) _ (number_again whole w32 (2 ^ 32) wide32 (length xs) (flat_map spell xs ++ rest) valid.0)
    (again_valid _ xs rest (AllByRecursion Is xs) valid.1
    (many_again (next_at at whole) spell (AllByRecursion Is) Is (Each-front Is) (λ seen x after is. inl (format.again whole x after is)) xs [] rest valid.1)))

-- ---- written one after the other

pub spelled_more : {X : Type 0} (spell : X → List ℕ) (xs : List X) (i : ℕ) (d : X) (first old new : List ℕ) → i < length xs
    → old ≡ first ++ flat_map spell (take i xs) → new ≡ old ++ spell (get_or xs i d) → new ≡ first ++ flat_map spell (take (i + 1) xs)
spelled_more {X} spell xs i d first old new inside before adds =
    let x : X = get_or xs i d in
    let last : flat_map spell (x ∷ []) ≡ spell x = flat_map-cons spell x [] ∙ append-nil (spell x) in
    let all : flat_map spell (take (i + 1) xs) ≡ flat_map spell (take i xs) ++ spell x =
    ap (flat_map spell) (take_more xs i d inside) ∙ flat_map-append spell (take i xs) (x ∷ []) ∙ ap (λ (w : List ℕ). flat_map spell (take i xs) ++ w) last in
    adds ∙ ap (λ (w : List ℕ). w ++ spell x) before ∙ append_assoc first (flat_map spell (take i xs)) (spell x) ∙ ap (λ (w : List ℕ). first ++ w) (sym all)

pub each_more : {X : Type 0} (P : X → Type 0) (xs : List X) (i : ℕ) (d : X) → i < length xs → AllByRecursion P (take i xs) → P (get_or xs i d) → AllByRecursion P (take (i + 1) xs)
each_more P xs i d inside all holds = subst (AllByRecursion P) (sym (take_more xs i d inside)) (Each-push P (take i xs) (get_or xs i d) all holds)
