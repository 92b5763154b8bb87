-- Rows in order: one more, one less, and those that are due.
use Rattle.std.proofs.Common.{◌≡◌, ℕ, suc, zero, ◌+◌, ◌<◌, ◌≤◌, List, [], ◌∷◌, Bool, true, false, cond, Some, None, length, get_or, take, refl, sym, ◌∙◌, ap, subst, arith}
use Rattle.std.proofs.lemmas.Map.Keys.{Less-from_sorted}
use Rattle.std.proofs.lemmas.Map.Lookups.{exact_pairs, exact_unsigned, exact_bytes}
use Rattle.std.proofs.lemmas.List.Sums.{prefix_len_is}
use Rattle.std.proofs.lemmas.Slice.Eq.{bytes_eq-Decides}
use Rattle.std.specs.Cmp.{IsTotalOrder, nat_cmp_total, then_total, on_total}
use Rattle.std.specs.Cmp.Lexicographic.{slice_cmp, lists_total}
use Rattle.std.specs.List.{AllByRecursion, IsDistinct, insert, remove, prefix_len}
use Rattle.std.specs.List.Sorted.{IsStrictlySortedBy, IsPartitionedBy, IsPartitionPoint}
use Rattle.std.specs.Ordering.{nat_cmp, ordering_then, is_lt, ordering_reverse}
use Rattle.std.specs.Prelude.{nat_le, nat_lt, ◌==◌}
use Rattle.std.specs.Str.{bytes_eq}
use Rattle.std.specs.declared.cmp.Ordering.{Ordering}
use Rattle.std.specs.declared.cmp.Ordering.TheVariants.{Less, Equal, Greater}
use Rattle.adjudicator.specs.Due.{deadline_in, come, row_cmp, same_channel, AreOrdered, due_at}

abbrev Row : Type 0
Row = ℕ × List ℕ

rows_total : IsTotalOrder row_cmp
rows_total = then_total (on_total (λ (r : Row). r.0) nat_cmp_total) (on_total (λ (r : Row). r.1) (lists_total nat_cmp_total))

same_bytes : (a b : List ℕ) → bytes_eq a b ≡ true → a ≡ b
same_bytes a b e = (bytes_eq-Decides a b).0 e

bytes_itself : (a : List ℕ) → bytes_eq a a ≡ true
bytes_itself a = (bytes_eq-Decides a a).1 refl

flip_bytes : (a b : List ℕ) → bytes_eq a b ≡ bytes_eq b a
flip_bytes a b = go (bytes_eq a b) refl (bytes_eq b a) refl
  where
    go : (x : Bool) → bytes_eq a b ≡ x → (y : Bool) → bytes_eq b a ≡ y → x ≡ y
    go true p true q = refl
    go false p false q = refl
    go true p false q = let other : bytes_eq b a ≡ true = ap (λ z. bytes_eq b z) (same_bytes a b p) ∙ bytes_itself b in absurd cc
    go false p true q = let other : bytes_eq a b ≡ true = ap (λ z. bytes_eq a z) (same_bytes b a q) ∙ bytes_itself a in absurd cc

none_head : (y : Row) (ys : List Row) (channel : List ℕ) → deadline_in (y ∷ ys) channel ≡ None → bytes_eq y.1 channel ≡ false
none_head y ys channel h = go (bytes_eq y.1 channel) refl h
  where
    go : (b : Bool) → bytes_eq y.1 channel ≡ b → cond b (Some y.0) (deadline_in ys channel) ≡ None → bytes_eq y.1 channel ≡ false
    go true e n = absurd cc
    go false e n = e

none_tail : (y : Row) (ys : List Row) (channel : List ℕ) → deadline_in (y ∷ ys) channel ≡ None → deadline_in ys channel ≡ None
none_tail y ys channel h = sym (ap (λ b. cond b (Some y.0) (deadline_in ys channel)) (none_head y ys channel h)) ∙ h

-- ---- one row more

-- the row before the first that isn't before it
abbrev placed : Row → List Row → List Row
placed x [] = x ∷ []
placed x (y ∷ ys) = cond (is_lt (row_cmp y x)) (y ∷ placed x ys) (x ∷ y ∷ ys)

pub insert_placed : (x : Row) (rows : List Row) → insert rows (prefix_len (λ y. is_lt (row_cmp y x)) rows) x ≡ placed x rows
insert_placed x [] = refl
insert_placed x (y ∷ ys) = go (is_lt (row_cmp y x)) (insert_placed x ys)
  where
    step : (n : ℕ) → insert (y ∷ ys) (1 + n) x ≡ y ∷ insert ys n x
    step n = ap (λ k. insert (y ∷ ys) k x) (one n)
      where
        one : (k : ℕ) → 1 + k ≡ suc k
        one k = omega arith

    go : (b : Bool) → insert ys (prefix_len (λ z. is_lt (row_cmp z x)) ys) x ≡ placed x ys
        → insert (y ∷ ys) (cond b (1 + prefix_len (λ z. is_lt (row_cmp z x)) ys) 0) x ≡ cond b (y ∷ placed x ys) (x ∷ y ∷ ys)
    go true ih = step (prefix_len (λ z. is_lt (row_cmp z x)) ys) ∙ ap (λ zs. y ∷ zs) ih
    go false ih = refl

less_is : (o : Ordering) → is_lt o ≡ true → o ≡ Less
less_is Less e = refl
less_is Equal e = absurd cc
less_is Greater e = absurd cc

-- of two rows of other channels, one comes first
turn_less : (x y : Row) → bytes_eq y.1 x.1 ≡ false → is_lt (row_cmp y x) ≡ false → row_cmp x y ≡ Less
turn_less x y apart later = go (row_cmp y x) refl later
  where
    go : (o : Ordering) → row_cmp y x ≡ o → is_lt o ≡ false → row_cmp x y ≡ Less
    go Less e l = absurd cc
    go Equal e l =
        let same : y ≡ x = exact_pairs nat_cmp (slice_cmp nat_cmp) exact_unsigned exact_bytes y x e in
        let one : bytes_eq y.1 x.1 ≡ true = ap (λ (r : Row). bytes_eq r.1 x.1) same ∙ bytes_itself x.1 in
        absurd cc
    go Greater e l = rows_total.antisymm x y ∙ ap ordering_reverse e

all_placed : (P : Row → Type 0) (x : Row) (rows : List Row) → P x → AllByRecursion P rows → AllByRecursion P (placed x rows)
all_placed P x [] here all = (here, tt)
all_placed P x (y ∷ ys) here all = go (is_lt (row_cmp y x)) (all_placed P x ys here all.1)
  where
    go : (b : Bool) → AllByRecursion P (placed x ys) → AllByRecursion P (cond b (y ∷ placed x ys) (x ∷ y ∷ ys))
    go true rest = (all.0, rest)
    go false rest = (here, all)

all_after : (x y : Row) (rows : List Row) → row_cmp x y ≡ Less → AllByRecursion (λ z. row_cmp y z ≡ Less) rows → AllByRecursion (λ z. row_cmp x z ≡ Less) rows
all_after x y [] lt all = tt
all_after x y (z ∷ zs) lt all = (rows_total.trans x y z lt all.0, all_after x y zs lt all.1)

all_apart : (x : Row) (rows : List Row) → deadline_in rows x.1 ≡ None → AllByRecursion (λ z. same_channel x z ≡ false) rows
all_apart x [] none = tt
all_apart x (y ∷ ys) none = (flip_bytes x.1 y.1 ∙ none_head y ys x.1 none, all_apart x ys (none_tail y ys x.1 none))

sorted_placed : (x : Row) (rows : List Row) → deadline_in rows x.1 ≡ None → IsStrictlySortedBy row_cmp rows → IsStrictlySortedBy row_cmp (placed x rows)
unfolding IsStrictlySortedBy
sorted_placed x [] none sorted = (tt, tt)
sorted_placed x (y ∷ ys) none sorted = go (is_lt (row_cmp y x)) refl (sorted_placed x ys (none_tail y ys x.1 none) sorted.1)
  where
    go : (b : Bool) → is_lt (row_cmp y x) ≡ b → IsStrictlySortedBy row_cmp (placed x ys) → IsStrictlySortedBy row_cmp (cond b (y ∷ placed x ys) (x ∷ y ∷ ys))
    go true e rest = (all_placed (λ z. row_cmp y z ≡ Less) x ys (less_is (row_cmp y x) e) sorted.0, rest)
    go false e rest =
        let lt = turn_less x y (none_head y ys x.1 none) e in
        ((lt, all_after x y ys lt sorted.0), sorted)

once_placed : (x : Row) (rows : List Row) → deadline_in rows x.1 ≡ None → IsDistinct same_channel rows → IsDistinct same_channel (placed x rows)
unfolding IsDistinct
once_placed x [] none once = (tt, tt)
once_placed x (y ∷ ys) none once = go (is_lt (row_cmp y x)) (once_placed x ys (none_tail y ys x.1 none) once.1)
  where
    go : (b : Bool) → IsDistinct same_channel (placed x ys) → IsDistinct same_channel (cond b (y ∷ placed x ys) (x ∷ y ∷ ys))
    go true rest = (all_placed (λ z. same_channel y z ≡ false) x ys (none_head y ys x.1 none) once.0, rest)
    go false rest = (all_apart x (y ∷ ys) none, once)

pub ordered_placed : (x : Row) (rows : List Row) → deadline_in rows x.1 ≡ None → AreOrdered rows → AreOrdered (insert rows (prefix_len (λ y. is_lt (row_cmp y x)) rows) x)
ordered_placed x rows none o = rw (insert_placed x rows) (record { ordered = sorted_placed x rows none o.ordered; once = once_placed x rows none o.once })

deadline_placed : (x : Row) (rows : List Row) → deadline_in rows x.1 ≡ None → (c : List ℕ) → deadline_in (placed x rows) c ≡ cond (bytes_eq x.1 c) (Some x.0) (deadline_in rows c)
deadline_placed x [] none c = refl
deadline_placed x (y ∷ ys) none c = go (is_lt (row_cmp y x)) (deadline_placed x ys (none_tail y ys x.1 none) c)
  where
    swapped : (b d : Bool) → bytes_eq y.1 c ≡ b → bytes_eq x.1 c ≡ d → cond b (Some y.0) (cond d (Some x.0) (deadline_in ys c)) ≡ cond d (Some x.0) (cond b (Some y.0) (deadline_in ys c))
    swapped true true p q =
        let both : bytes_eq y.1 x.1 ≡ true = ap (λ n. bytes_eq n x.1) (same_bytes y.1 c p ∙ sym (same_bytes x.1 c q)) ∙ bytes_itself x.1 in
        let apart = none_head y ys x.1 none in
        absurd cc
    swapped true false p q = refl
    swapped false true p q = refl
    swapped false false p q = refl

    go : (b : Bool) → deadline_in (placed x ys) c ≡ cond (bytes_eq x.1 c) (Some x.0) (deadline_in ys c)
        → deadline_in (cond b (y ∷ placed x ys) (x ∷ y ∷ ys)) c ≡ cond (bytes_eq x.1 c) (Some x.0) (deadline_in (y ∷ ys) c)
    go true ih = ap (λ o. cond (bytes_eq y.1 c) (Some y.0) o) ih ∙ swapped (bytes_eq y.1 c) (bytes_eq x.1 c) refl refl
    go false ih = refl

pub deadline_inserted : (x : Row) (rows : List Row) → deadline_in rows x.1 ≡ None → (c : List ℕ)
    → deadline_in (insert rows (prefix_len (λ y. is_lt (row_cmp y x)) rows) x) c ≡ cond (bytes_eq x.1 c) (Some x.0) (deadline_in rows c)
deadline_inserted x rows none c = ap (λ zs. deadline_in zs c) (insert_placed x rows) ∙ deadline_placed x rows none c

-- ---- one row less

all_removed : (P : Row → Type 0) (rows : List Row) (i : ℕ) → AllByRecursion P rows → AllByRecursion P (remove rows i)
all_removed P [] zero all = tt
all_removed P [] (suc i) all = tt
all_removed P (y ∷ ys) zero all = all.1
all_removed P (y ∷ ys) (suc i) all = (all.0, all_removed P ys i all.1)

sorted_removed : (rows : List Row) (i : ℕ) → IsStrictlySortedBy row_cmp rows → IsStrictlySortedBy row_cmp (remove rows i)
unfolding IsStrictlySortedBy
sorted_removed [] zero sorted = tt
sorted_removed [] (suc i) sorted = tt
sorted_removed (y ∷ ys) zero sorted = sorted.1
sorted_removed (y ∷ ys) (suc i) sorted = (all_removed (λ z. row_cmp y z ≡ Less) ys i sorted.0, sorted_removed ys i sorted.1)

once_removed : (rows : List Row) (i : ℕ) → IsDistinct same_channel rows → IsDistinct same_channel (remove rows i)
unfolding IsDistinct
once_removed [] zero once = tt
once_removed [] (suc i) once = tt
once_removed (y ∷ ys) zero once = once.1
once_removed (y ∷ ys) (suc i) once = (all_removed (λ z. same_channel y z ≡ false) ys i once.0, once_removed ys i once.1)

pub ordered_removed : (rows : List Row) (i : ℕ) → AreOrdered rows → AreOrdered (remove rows i)
ordered_removed rows i o = record { ordered = sorted_removed rows i o.ordered; once = once_removed rows i o.once }

none_apart : (y : Row) (rows : List Row) → AllByRecursion (λ z. same_channel y z ≡ false) rows → deadline_in rows y.1 ≡ None
none_apart y [] all = refl
none_apart y (z ∷ zs) all = ap (λ b. cond b (Some z.0) (deadline_in zs y.1)) (flip_bytes z.1 y.1 ∙ all.0) ∙ none_apart y zs all.1

apart_at : (y : Row) (rows : List Row) (i : ℕ) (d : Row) → AllByRecursion (λ z. same_channel y z ≡ false) rows → i < length rows → bytes_eq y.1 (get_or rows i d).1 ≡ false
apart_at y [] i d all lt = absurd (omega (arith, lt))
apart_at y (z ∷ zs) zero d all lt = all.0
apart_at y (z ∷ zs) (suc i) d all lt = apart_at y zs i d all.1 (omega (arith, lt))

pub deadline_removed : (rows : List Row) (i : ℕ) (d : Row) (channel : List ℕ) → IsDistinct same_channel rows → i < length rows → bytes_eq (get_or rows i d).1 channel ≡ true
    → (c : List ℕ) → deadline_in (remove rows i) c ≡ cond (bytes_eq channel c) None (deadline_in rows c)
unfolding IsDistinct
deadline_removed [] i d channel once lt is c = absurd (omega (arith, lt))
deadline_removed (y ∷ ys) zero d channel once lt is c = go (bytes_eq channel c) refl
  where
    name : y.1 ≡ channel
    name = same_bytes y.1 channel is

    go : (b : Bool) → bytes_eq channel c ≡ b → deadline_in ys c ≡ cond b None (cond (bytes_eq y.1 c) (Some y.0) (deadline_in ys c))
    go true e = ap (λ n. deadline_in ys n) (sym (same_bytes channel c e) ∙ sym name) ∙ none_apart y ys once.0
    go false e = sym (ap (λ b. cond b (Some y.0) (deadline_in ys c)) (ap (λ n. bytes_eq n c) name ∙ e))
deadline_removed (y ∷ ys) (suc i) d channel once lt is c =
    ap (λ o. cond (bytes_eq y.1 c) (Some y.0) o) (deadline_removed ys i d channel once.1 (omega (arith, lt)) is c)
    ∙ swapped (bytes_eq y.1 c) (bytes_eq channel c) refl refl
  where
    apart : bytes_eq y.1 channel ≡ false
    apart = sym (ap (λ n. bytes_eq y.1 n) (same_bytes (get_or ys i d).1 channel is)) ∙ apart_at y ys i d once.0 (omega (arith, lt))

    swapped : (b e : Bool) → bytes_eq y.1 c ≡ b → bytes_eq channel c ≡ e → cond b (Some y.0) (cond e None (deadline_in ys c)) ≡ cond e None (cond b (Some y.0) (deadline_in ys c))
    swapped true true p q =
        let both : bytes_eq y.1 channel ≡ true = ap (λ n. bytes_eq y.1 n) (same_bytes channel c q) ∙ p in
        let never : bytes_eq y.1 channel ≡ false = apart in
        absurd cc
    swapped true false p q = refl
    swapped false true p q = refl
    swapped false false p q = refl

-- a channel whose name is nowhere has no deadline
pub nowhere_none : (rows : List Row) (channel : List ℕ) → ((k : ℕ) (d : Row) → k < length rows → bytes_eq (get_or rows k d).1 channel ≡ false) → deadline_in rows channel ≡ None
nowhere_none [] channel h = refl
nowhere_none (y ∷ ys) channel h =
    ap (λ b. cond b (Some y.0) (deadline_in ys channel)) (h 0 y (omega arith)) ∙ nowhere_none ys channel (λ k d lt. h (suc k) d (omega (arith, lt)))

pub unchanged_without : (rows : List Row) (channel : List ℕ) → deadline_in rows channel ≡ None → (c : List ℕ) → deadline_in rows c ≡ cond (bytes_eq channel c) None (deadline_in rows c)
unchanged_without rows channel none c = go (bytes_eq channel c) refl
  where
    go : (b : Bool) → bytes_eq channel c ≡ b → deadline_in rows c ≡ cond b None (deadline_in rows c)
    go true e = ap (λ n. deadline_in rows n) (sym (same_bytes channel c e)) ∙ none
    go false e = refl

-- ---- tests that rows in order pass from the front

partitioned : (p : Row → Bool) → ((x y : Row) → row_cmp x y ≡ Less → p y ≡ true → p x ≡ true) → (rows : List Row) → IsStrictlySortedBy row_cmp rows → IsPartitionedBy p rows
partitioned p falls rows sorted i j d le lt passes = go (nat_lt i j) refl
  where
    go : (b : Bool) → nat_lt i j ≡ b → p (get_or rows i d) ≡ true
    go true e = let below : i < j = grind arith in falls (get_or rows i d) (get_or rows j d) (Less-from_sorted row_cmp rows i j d sorted below lt) passes
    go false e = let same : j ≡ i = grind arith in subst (λ n. p (get_or rows n d) ≡ true) same passes

pub partitioned_before : (x : Row) (rows : List Row) → AreOrdered rows → IsPartitionedBy (λ y. is_lt (row_cmp y x)) rows
partitioned_before x rows o = partitioned (λ y. is_lt (row_cmp y x)) (λ y z lt passes. ap is_lt (rows_total.trans y z x lt (less_is (row_cmp z x) passes))) rows o.ordered

not_later : (x y : Row) → row_cmp x y ≡ Less → x.0 ≤ y.0
not_later x y lt = go (nat_lt x.0 y.0) refl (x.0 == y.0) refl lt
  where
    go : (b : Bool) → nat_lt x.0 y.0 ≡ b → (d : Bool) → (x.0 == y.0) ≡ d → ordering_then (cond b Less (cond d Equal Greater)) (slice_cmp nat_cmp x.1 y.1) ≡ Less → x.0 ≤ y.0
    go true e d f l = grind arith
    go false e true f l = grind arith
    go false e false f l = absurd cc

pub partitioned_due : (now : ℕ) (rows : List Row) → AreOrdered rows → IsPartitionedBy (λ y. nat_le y.0 now) rows
partitioned_due now rows o = partitioned (λ y. nat_le y.0 now) (λ x y lt passes. let le = not_later x y lt in grind arith) rows o.ordered

pub count_is : (p : Row → Bool) (rows : List Row) (i : ℕ) → i ≤ length rows → IsPartitionPoint (λ y. p y ≡ true) (λ y. p y ≡ false) rows i → i ≡ prefix_len p rows
count_is p rows i le h = sym (prefix_len_is p rows i (0, []) le (λ k lt. h.0 k (0, []) (omega arith) lt) (λ lt. h.1 i (0, []) (omega arith) lt))

-- ---- those that are due

none_due : (now : ℕ) (y : Row) (rows : List Row) → nat_le y.0 now ≡ false → AllByRecursion (λ z. row_cmp y z ≡ Less) rows → due_at rows now ≡ []
none_due now y [] late all = refl
none_due now y (z ∷ zs) late all =
    let le = not_later y z all.0 in
    let later : nat_le z.0 now ≡ false = grind arith in
    ap (λ b. cond b (z ∷ due_at zs now) (due_at zs now)) later ∙ none_due now y zs late all.1

taken_due : (now : ℕ) (rows : List Row) → IsStrictlySortedBy row_cmp rows → take (prefix_len (λ y. nat_le y.0 now) rows) rows ≡ due_at rows now
unfolding IsStrictlySortedBy
taken_due now [] sorted = refl
taken_due now (y ∷ ys) sorted = go (nat_le y.0 now) refl (taken_due now ys sorted.1)
  where
    one : (n : ℕ) → 1 + n ≡ suc n
    one n = omega arith

    go : (b : Bool) → nat_le y.0 now ≡ b → take (prefix_len (λ z. nat_le z.0 now) ys) ys ≡ due_at ys now
        → take (cond b (1 + prefix_len (λ z. nat_le z.0 now) ys) 0) (y ∷ ys) ≡ cond b (y ∷ due_at ys now) (due_at ys now)
    go true e ih = ap (λ n. take n (y ∷ ys)) (one (prefix_len (λ z. nat_le z.0 now) ys)) ∙ ap (λ zs. y ∷ zs) ih
    go false e ih = sym (none_due now y ys e sorted.0)

pub due_is : (now : ℕ) (rows : List Row) (n : ℕ) → AreOrdered rows → n ≡ prefix_len (λ y. nat_le y.0 now) rows → take n rows ≡ due_at rows now
due_is now rows n o is = ap (λ k. take k rows) is ∙ taken_due now rows o.ordered

all_due : (P : Row → Type 0) (now : ℕ) (rows : List Row) → AllByRecursion P rows → AllByRecursion P (due_at rows now)
all_due P now [] all = tt
all_due P now (y ∷ ys) all = go (nat_le y.0 now) (all_due P now ys all.1)
  where
    go : (b : Bool) → AllByRecursion P (due_at ys now) → AllByRecursion P (cond b (y ∷ due_at ys now) (due_at ys now))
    go true rest = (all.0, rest)
    go false rest = rest

sorted_due : (now : ℕ) (rows : List Row) → IsStrictlySortedBy row_cmp rows → IsStrictlySortedBy row_cmp (due_at rows now)
unfolding IsStrictlySortedBy
sorted_due now [] sorted = tt
sorted_due now (y ∷ ys) sorted = go (nat_le y.0 now) (sorted_due now ys sorted.1)
  where
    go : (b : Bool) → IsStrictlySortedBy row_cmp (due_at ys now) → IsStrictlySortedBy row_cmp (cond b (y ∷ due_at ys now) (due_at ys now))
    go true rest = (all_due (λ z. row_cmp y z ≡ Less) now ys sorted.0, rest)
    go false rest = rest

once_due : (now : ℕ) (rows : List Row) → IsDistinct same_channel rows → IsDistinct same_channel (due_at rows now)
unfolding IsDistinct
once_due now [] once = tt
once_due now (y ∷ ys) once = go (nat_le y.0 now) (once_due now ys once.1)
  where
    go : (b : Bool) → IsDistinct same_channel (due_at ys now) → IsDistinct same_channel (cond b (y ∷ due_at ys now) (due_at ys now))
    go true rest = (all_due (λ z. same_channel y z ≡ false) now ys once.0, rest)
    go false rest = rest

pub ordered_due : (now : ℕ) (rows : List Row) → AreOrdered rows → AreOrdered (due_at rows now)
ordered_due now rows o = record { ordered = sorted_due now rows o.ordered; once = once_due now rows o.once }

-- a channel's deadline among those that are due
pub deadline_due : (now : ℕ) (rows : List Row) → IsDistinct same_channel rows → (c : List ℕ) → deadline_in (due_at rows now) c ≡ come now (deadline_in rows c)
unfolding IsDistinct
deadline_due now [] once c = refl
deadline_due now (y ∷ ys) once c = go (nat_le y.0 now) refl (bytes_eq y.1 c) refl (deadline_due now ys once.1 c)
  where
    go : (b : Bool) → nat_le y.0 now ≡ b → (d : Bool) → bytes_eq y.1 c ≡ d → deadline_in (due_at ys now) c ≡ come now (deadline_in ys c)
        → deadline_in (cond b (y ∷ due_at ys now) (due_at ys now)) c ≡ come now (cond d (Some y.0) (deadline_in ys c))
    go true e true f ih = ap (λ x. cond x (Some y.0) (deadline_in (due_at ys now) c)) f ∙ sym (ap (λ x. cond x (Some y.0) None) e)
    go true e false f ih = ap (λ x. cond x (Some y.0) (deadline_in (due_at ys now) c)) f ∙ ih
    go false e true f ih =
        ih ∙ ap (λ o. come now o) (ap (λ n. deadline_in ys n) (sym (same_bytes y.1 c f)) ∙ none_apart y ys once.0) ∙ sym (ap (λ x. cond x (Some y.0) None) e)
    go false e false f ih = ih

nothing_sorted : IsStrictlySortedBy row_cmp []
unfolding IsStrictlySortedBy
nothing_sorted = tt

nothing_twice : IsDistinct same_channel []
unfolding IsDistinct
nothing_twice = tt

pub nothing_ordered : (rows : List Row) → rows ≡ [] → AreOrdered rows
nothing_ordered rows e = subst AreOrdered (sym e) (record { ordered = nothing_sorted; once = nothing_twice })
