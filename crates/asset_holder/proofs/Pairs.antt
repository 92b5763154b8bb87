-- Pairs of a destination and an asset among those seen.
use Rattle.std.proofs.Common.{◌≡◌, ℕ, List, [], ◌∷◌, ◌++◌, Bool, true, false, cond, refl, ◌∙◌, ap, subst, arith}
use Rattle.std.specs.Prelude.{◌==◌, ◌||◌, ◌&&◌}
use Rattle.channel_values.specs.Outcomes.{is_same}
use Rattle.channel_values.specs.declared.value.Dest.{Dest}
use Rattle.channel_values.specs.declared.value.Dest.TheVariants.{Person, Channel}
use Rattle.call_history.proofs.Names.{same_bytes}
use Rattle.asset_holder.specs.Receipts.{Pair, is_pair, is_there, add_new}

same_dest : (a b : Dest) → is_same a b ≡ true → a ≡ b
same_dest (Person a) (Person b) e = ap Person (same_bytes a b e)
same_dest (Person a) (Channel b) e = absurd (cc)
same_dest (Channel a) (Person b) e = absurd (cc)
same_dest (Channel a) (Channel b) e = ap Channel (same_bytes a b e)

pub equal_nats : (a b : ℕ) → (a == b) ≡ true → a ≡ b
equal_nats a b e = grind arith

pub both_true : (a b : Bool) → (a && b) ≡ true → (a ≡ true) × (b ≡ true)
both_true true b e = (refl, e)
both_true false b e = absurd (cc)

pub same_pair : (a b : Pair) → is_pair a b ≡ true → a ≡ b
same_pair a b e =
    let parts = both_true (is_same a.0 b.0) (a.1 == b.1) e in
    λ i. (same_dest a.0 b.0 parts.0 i, equal_nats a.1 b.1 parts.1 i)

or_known : (a b : Bool) → (b ≡ true → a ≡ true) → a ≡ (a || b)
or_known true b h = refl
or_known false true h = h refl
or_known false false h = refl

or_false : (b : Bool) → (b || false) ≡ b
or_false true = refl
or_false false = refl

pub there_push : (pair p : Pair) (pairs : List Pair) → is_there pair (pairs ++ p ∷ []) ≡ (is_there pair pairs || is_pair p pair)
there_push pair p [] = or_false (is_pair p pair)
there_push pair p (q ∷ pairs) = ap (λ b. is_pair q pair || b) (there_push pair p pairs) ∙ or_assoc (is_pair q pair) (is_there pair pairs) (is_pair p pair)
  where
    or_assoc : (a b c : Bool) → (a || (b || c)) ≡ ((a || b) || c)
    or_assoc true b c = refl
    or_assoc false b c = refl

pub there_new : (pair p : Pair) (pairs : List Pair) → is_there pair (add_new pairs p) ≡ (is_there pair pairs || is_pair p pair)
there_new pair p pairs = by (is_there p pairs) refl
  where
    by : (b : Bool) → is_there p pairs ≡ b → is_there pair (cond b pairs (pairs ++ p ∷ [])) ≡ (is_there pair pairs || is_pair p pair)
    by true e = or_known (is_there pair pairs) (is_pair p pair) (λ same. subst (λ q. is_there q pairs ≡ true) (same_pair p pair same) e)
    by false e = there_push pair p pairs
