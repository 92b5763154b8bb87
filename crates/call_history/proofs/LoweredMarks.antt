-- Marks counted again, one at a time; and no mark stands before the first marked place.
use Rattle.std.proofs.Common.{◌≡◌, ℕ, zero, suc, ◌+◌, ◌-◌, ◌<◌, ◌≤◌, List, [], ◌∷◌, ◌++◌, length, map, take, drop, get_or, set, refl, sym, ◌∙◌, ap, arith}
use Rattle.std.specs.Prelude.{min, slice_get, Some}
use Rattle.channel_values.specs.declared.chain.Mark.{Mark}
use Rattle.call_history.specs.Marked.{lowered, lowest}

read : (f : Mark → Mark) (xs : List Mark) (i : ℕ) (d : Mark) → i < length xs → get_or (map f (take i xs) ++ drop i xs) i d ≡ get_or xs i d
read f [] i d h = absurd (omega arith)
read f (x ∷ xs) zero d h = refl
read f (x ∷ xs) (suc i) d h = read f xs i d (omega arith)

write : (f : Mark → Mark) (xs : List Mark) (i : ℕ) (d : Mark) → i < length xs → set (map f (take i xs) ++ drop i xs) i (f (get_or xs i d)) ≡ map f (take (suc i) xs) ++ drop (suc i) xs
write f [] i d h = absurd (omega arith)
write f (x ∷ xs) zero d h = refl
write f (x ∷ xs) (suc i) d h = ap (λ (ys : List Mark). f x ∷ ys) (write f xs i d (omega arith))

pub lower_step : (count : ℕ) (xs items : List Mark) (i : ℕ) (a b : Mark) → items ≡ map (lowered count) (take i xs) ++ drop i xs → i < length xs → a ≡ get_or items i a → b ≡ get_or items i b
    → set items i (record { place = a.place - count; signature = b.signature }) ≡ map (lowered count) (take (i + 1) xs) ++ drop (i + 1) xs
lower_step count xs items i a b is within at_a at_b =
    let pa : a ≡ get_or xs i a = at_a ∙ (ap (λ (ys : List Mark). get_or ys i a) is ∙ read (lowered count) xs i a within) in
    let pb : b ≡ get_or xs i b = at_b ∙ (ap (λ (ys : List Mark). get_or ys i b) is ∙ read (lowered count) xs i b within) in
    let same : b ≡ a = pb ∙ (any xs i b a within ∙ sym pa) in
    let e : i + 1 ≡ suc i = omega arith in
    ap (λ (ys : List Mark). set ys i (record { place = a.place - count; signature = b.signature })) is
    ∙ (ap (λ (y : Mark). set (map (lowered count) (take i xs) ++ drop i xs) i (record { place = a.place - count; signature = y.signature })) same
    ∙ (ap (λ (y : Mark). set (map (lowered count) (take i xs) ++ drop i xs) i (lowered count y)) pa
    ∙ (write (lowered count) xs i a within ∙ ap (λ (k : ℕ). map (lowered count) (take k xs) ++ drop k xs) (sym e))))
  where
    any : (ys : List Mark) (j : ℕ) (c d : Mark) → j < length ys → get_or ys j c ≡ get_or ys j d
    any [] j c d h = absurd (omega arith)
    any (y ∷ ys) zero c d h = refl
    any (y ∷ ys) (suc j) c d h = any ys j c d (omega arith)

pub lowest_le : (p : ℕ) (marks : List Mark) → lowest p marks ≤ p
lowest_le p [] = omega arith
lowest_le p (m ∷ rest) = let a : lowest (min m.place p) rest ≤ min m.place p = lowest_le (min m.place p) rest in omega arith

pub lowest_at : (p : ℕ) (marks : List Mark) (i : ℕ) (m : Mark) → slice_get marks i ≡ Some m → lowest p marks ≤ m.place
lowest_at p [] i m e = absurd cc
lowest_at p (x ∷ rest) zero m e =
    let same : x ≡ m = cc in
    let a : x.place ≡ m.place = ap (λ (y : Mark). y.place) same in
    let b : lowest (min x.place p) rest ≤ min x.place p = lowest_le (min x.place p) rest in
    omega arith
lowest_at p (x ∷ rest) (suc i) m e = lowest_at (min x.place p) rest i m e
