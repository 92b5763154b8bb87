-- Totals after an amount is set, and an amount within a total.
use Rattle.std.proofs.Common.{◌≡◌, ℕ, ◌+◌, ◌≤◌, List, [], ◌∷◌, Bool, true, false, cond, refl, sym, ◌∙◌, arith, Some}
use Rattle.std.proofs.lemmas.List.Sums.{sum_by-cons}
use Rattle.std.specs.Prelude.{sum_by, unwrap_or}
use Rattle.std.specs.Map.{lookup}
use Rattle.indexmap.specs.IndexMap.{insert_entry}
use Rattle.asset_holder.specs.Amounts.{counted, Respects}

-- what a total counts of an amount
abbrev part : Bool → ℕ → ℕ
part b n = cond b n 0

pub total_insert : {K : Type 0} (eq : K → K → Bool) (test : K → Bool) → Respects eq test → (key : K) (amount : ℕ) (es : List (K × ℕ))
    → sum_by (counted test) (insert_entry eq es key amount) + cond (test key) (unwrap_or (lookup (eq key) es) 0) 0 ≡ sum_by (counted test) es + cond (test key) amount 0
total_insert eq test alike key amount [] = go (test key)
  where
    go : (b : Bool) → (0 + cond b amount 0) + cond b 0 0 ≡ 0 + cond b amount 0
    go true = omega arith
    go false = omega arith
total_insert {K = K} eq test alike key amount (e ∷ es) = go (eq key e.0) refl (total_insert eq test alike key amount es)
  where
    here : (b d : Bool) (rest all changed : ℕ) → b ≡ d → changed ≡ cond d amount 0 + rest → all ≡ cond d e.1 0 + rest → changed + cond b e.1 0 ≡ all + cond b amount 0
    here true true rest all changed same is_changed is = omega (arith, is_changed, is)
    here true false rest all changed same is_changed is = absurd cc
    here false true rest all changed same is_changed is = absurd cc
    here false false rest all changed same is_changed is = omega (arith, is_changed, is)

    go : (b : Bool) → eq key e.0 ≡ b
        → sum_by (counted test) (insert_entry eq es key amount) + cond (test key) (unwrap_or (lookup (eq key) es) 0) 0 ≡ sum_by (counted test) es + cond (test key) amount 0
        → sum_by (counted test) (cond b ((e.0, amount) ∷ es) (e ∷ insert_entry eq es key amount)) + cond (test key) (unwrap_or (cond b (Some e.1) (lookup (eq key) es)) 0) 0 ≡ sum_by (counted test) (e ∷ es) + cond (test key) amount 0
    go true same ih =
        here (test key) (test e.0) (sum_by (counted test) es) (sum_by (counted test) (e ∷ es)) (sum_by (counted test) ((e.0, amount) ∷ es)) (alike key e.0 same)
        (sum_by-cons (counted test) (e.0, amount) es) (sum_by-cons (counted test) e es)
    go false other ih = omega (arith, ih, sum_by-cons (counted test) e es, sum_by-cons (counted test) e (insert_entry eq es key amount))

-- an amount is within each total that counts its key
pub amount_within : {K : Type 0} (eq : K → K → Bool) (test : K → Bool) → Respects eq test → (key : K) → test key ≡ true → (es : List (K × ℕ))
    → unwrap_or (lookup (eq key) es) 0 ≤ sum_by (counted test) es
amount_within eq test alike key passes [] = omega arith
amount_within eq test alike key passes (e ∷ es) = go (eq key e.0) refl (amount_within eq test alike key passes es)
  where
    counts : (b : Bool) → b ≡ true → cond b e.1 0 ≡ e.1
    counts true same = refl
    counts false same = absurd cc

    go : (b : Bool) → eq key e.0 ≡ b → unwrap_or (lookup (eq key) es) 0 ≤ sum_by (counted test) es
        → unwrap_or (cond b (Some e.1) (lookup (eq key) es)) 0 ≤ sum_by (counted test) (e ∷ es)
    go true same ih = omega (arith, sum_by-cons (counted test) e es, counts (test e.0) (sym (alike key e.0 same) ∙ passes))
    go false other ih = omega (arith, ih, sum_by-cons (counted test) e es)
