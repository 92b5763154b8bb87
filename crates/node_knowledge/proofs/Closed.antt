-- A loop that closes the goals of a part.
use Rattle.std.proofs.Common.{◌≡◌, ◌≢◌, ℕ, ◌+◌, ◌<◌, ◌||◌, Bool, true, false, List, ◌++◌, length, map, take, drop, set, get_or, sym, ◌∙◌, ap, arith}
use Rattle.std.specs.Prelude.{◌==◌}
use Rattle.std.proofs.lemmas.Bool.Decides.{nat_tests}
use Rattle.std.proofs.lemmas.List.Edits.{map_over_more}
use Rattle.funding_plans.specs.declared.plan.Goal.{Goal}
use Rattle.channel_node.specs.Minds.{close_if}

abbrev closed_at : Bool → ℕ → Goal → Goal
closed_at lets place g = close_if lets (g.part == place) g

is_equal : (m n : ℕ) → m ≡ n → (m == n) ≡ true
is_equal m n e = grind (arith, nat_tests)

is_other : (m n : ℕ) → m ≢ n → (m == n) ≡ false
is_other m n e = grind (arith, nat_tests)

more : (lets : Bool) (place : ℕ) (xs ys : List Goal) (i : ℕ) (x : Goal) → i < length xs → ys ≡ map (closed_at lets place) (take i xs) ++ drop i xs → x ≡ get_or ys i x
    → set ys i (closed_at lets place (get_or ys i x)) ≡ map (closed_at lets place) (take (i + 1) xs) ++ drop (i + 1) xs
more lets place xs ys i x within before read =
    ap (λ (g : Goal). set ys i (closed_at lets place g)) (sym read) ∙ map_over_more (closed_at lets place) xs ys i x within before read

pub closed_more : (lets : Bool) (place : ℕ) (xs ys new : List Goal) (i : ℕ) (x : Goal) → i < length xs → ys ≡ map (λ (g : Goal). close_if lets (g.part == place) g) (take i xs) ++ drop i xs → x ≡ get_or ys i x
    → (get_or ys i x).part ≡ place → new ≡ set ys i (record (get_or ys i x) { closing = true; over = lets || (get_or ys i x).over })
    → new ≡ map (λ (g : Goal). close_if lets (g.part == place) g) (take (i + 1) xs) ++ drop (i + 1) xs
closed_more lets place xs ys new i x within before read same wrote =
    wrote ∙ (sym (ap (λ (b : Bool). set ys i (close_if lets b (get_or ys i x))) (is_equal (get_or ys i x).part place same)) ∙ more lets place xs ys i x within before read)

pub left_more : (lets : Bool) (place : ℕ) (xs ys new : List Goal) (i : ℕ) (x : Goal) → i < length xs → ys ≡ map (λ (g : Goal). close_if lets (g.part == place) g) (take i xs) ++ drop i xs → x ≡ get_or ys i x
    → (get_or ys i x).part ≢ place → new ≡ set ys i (get_or ys i x)
    → new ≡ map (λ (g : Goal). close_if lets (g.part == place) g) (take (i + 1) xs) ++ drop (i + 1) xs
left_more lets place xs ys new i x within before read other wrote =
    wrote ∙ (sym (ap (λ (b : Bool). set ys i (close_if lets b (get_or ys i x))) (is_other (get_or ys i x).part place other)) ∙ more lets place xs ys i x within before read)
