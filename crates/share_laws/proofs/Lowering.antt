-- What items afford once one of them is lowered.
use Rattle.std.proofs.Common.{◌≡◌, ℕ, zero, suc, ◌+◌, ◌-◌, ◌≤◌, min, Bool, true, false, List, [], ◌∷◌, subst, arith, cond}
use Rattle.channel_values.specs.declared.value.Dest.{Dest}
use Rattle.channel_values.specs.declared.value.Item.{Item}
use Rattle.channel_values.specs.Outcomes.{is_same}
use Rattle.channel_values.specs.Amounts.{aff}
use Rattle.call_history.specs.Rest.{lower_at}
use Rattle.share_laws.proofs.Amounts.{aff-mono}
use Rattle.share_laws.specs.Moved.{due_at, gain_at}

pub due-le : (xs : List Item) (i h : ℕ) → due_at xs i h ≤ h
due-le [] i h = omega arith
due-le (x ∷ xs) zero h = omega arith
due-le (x ∷ xs) (suc i) h = let p = due-le xs i (h - x.amount) in omega arith

cond-plus : (b : Bool) (x y x' y' k : ℕ) → x ≤ x' + k → y ≤ y' → cond b x y ≤ cond b x' y' + cond b k 0
cond-plus true x y x' y' k p q = p
cond-plus false x y x' y' k p q = omega arith

cond-more : (b : Bool) (x y x' y' k : ℕ) → x ≤ x' → y ≤ y' + k → cond b x y ≤ cond b x' y' + k
cond-more true x y x' y' k p q = omega arith
cond-more false x y x' y' k p q = q

-- a transfer of item i takes its amount from that item's destination alone
pub aff-transfer : (xs : List Item) (i h r : ℕ) (d : Dest) → h ≤ r →
    aff xs r d ≤ aff (lower_at xs i (due_at xs i h)) (r - due_at xs i h) d + gain_at xs i d (due_at xs i h)
aff-transfer [] i h r d p = omega arith
aff-transfer (x ∷ xs) zero h r d p =
    cond-plus (is_same x.to d) _ _ _ _ _ (omega arith)
    (aff-mono xs (r - x.amount) ((r - min x.amount h) - (x.amount - min x.amount h)) d (omega arith))
aff-transfer (x ∷ xs) (suc i) h r d p =
    let k : ℕ = due_at xs i (h - x.amount) in
    let kl : k ≤ h - x.amount = due-le xs i (h - x.amount) in
    let e : (r - x.amount) - k ≡ (r - k) - x.amount = omega arith in
    cond-more (is_same x.to d) _ _ _ _ _ (omega arith)
    (subst (λ (q : ℕ). aff xs (r - x.amount) d ≤ aff (lower_at xs i k) q d + gain_at xs i d k) e
    (aff-transfer xs i (h - x.amount) (r - x.amount) d (omega arith)))

-- what a claim pays of item i lowers that item's destination alone
pub aff-lower_at : (xs : List Item) (i k r : ℕ) (d : Dest) → aff xs r d ≤ aff (lower_at xs i k) r d + gain_at xs i d k
aff-lower_at [] i k r d = omega arith
aff-lower_at (x ∷ xs) zero k r d =
    cond-plus (is_same x.to d) _ _ _ _ _ (omega arith) (aff-mono xs (r - x.amount) (r - (x.amount - k)) d (omega arith))
aff-lower_at (x ∷ xs) (suc i) k r d =
    cond-more (is_same x.to d) _ _ _ _ _ (omega arith) (aff-lower_at xs i k (r - x.amount) d)
