-- The greatest turn of a mover, one turn down.
use Rattle.std.proofs.Common.{◌≡◌, ◌≢◌, ◌∙◌, inl, inr, ℕ, zero, suc, ◌-◌, ◌%◌, ◌<◌, ◌≤◌, Bool, true, false, eq-eqb, cond, eqb, refl, sym, ap, arith}
use Rattle.std.specs.Prelude.{◌⊎◌}
use Rattle.std.proofs.Math.Nat.{zero-mod, mod-eq_of_lt}
use Rattle.std.proofs.lemmas.Bool.Decides.{eqb_tells}
use Rattle.channel_values.specs.Rows.{last_turn}
use Rattle.channel_values.specs.LastTurn.{LastTurnIsGreatest}

pub turn_zero : (n j : ℕ) → last_turn n j 0 ≡ 0
unfolding last_turn
turn_zero n j = refl

pub turn_down : (n j turn : ℕ) → 0 < turn → last_turn n j turn ≡ cond (eqb (turn % n) j) turn (last_turn n j (turn - 1))
unfolding last_turn
turn_down n j zero h = absurd (omega arith)
turn_down n j (suc t) h = let e : suc t - 1 ≡ t = omega arith in rw e refl

pub turn_none : (n j turn : ℕ) → turn ≤ 0 → last_turn n j turn ≡ turn
turn_none n j turn h = let e : turn ≡ 0 = omega arith in rw e (turn_zero n j)

pub turn_here : (n j turn : ℕ) → turn % n ≡ j → last_turn n j turn ≡ turn
unfolding last_turn
turn_here n j zero h = refl
turn_here n j (suc t) h = same (eqb (suc t % n) j) (eq-eqb (suc t % n) j h)
  where
    same : (b : Bool) → b ≡ true → cond b (suc t) (last_turn n j t) ≡ suc t
    same true e = refl
    same false e = absurd cc

-- ---- the greatest turn of a mover

by_test : (n j t : ℕ) → (last_turn n j (suc t) ≡ suc t) × (suc t % n ≡ j) ⊎ (last_turn n j (suc t) ≡ last_turn n j t) × (suc t % n ≢ j)
unfolding last_turn
by_test n j t = split (eqb (suc t % n) j) (eqb_tells (suc t % n) j)
  where
    split : (b : Bool) → ((b ≡ true) × (suc t % n ≡ j)) ⊎ ((b ≡ false) × (suc t % n ≢ j)) → (cond b (suc t) (last_turn n j t) ≡ suc t) × (suc t % n ≡ j) ⊎ (cond b (suc t) (last_turn n j t) ≡ last_turn n j t) × (suc t % n ≢ j)
    split true (inl h) = inl (refl, h.1)
    split true (inr h) = absurd (let e = h.0 in cc)
    split false (inl h) = absurd (let e = h.0 in cc)
    split false (inr h) = inr (refl, h.1)

pub last_turn_at_most : (n j t : ℕ) → last_turn n j t ≤ t
last_turn_at_most n j zero = let e = turn_zero n j in omega arith
last_turn_at_most n j (suc t) = elim (by_test n j t) [
  | inl p ↦ (let e = p.0 in omega arith)
  | inr p ↦ (let e = p.0 in let h = last_turn_at_most n j t in omega arith)
]

pub last_turn_greatest : (n j t v : ℕ) → v ≤ t → v % n ≡ j → v ≤ last_turn n j t
last_turn_greatest n j zero v h e = omega arith
last_turn_greatest n j (suc t) v h e = elim (by_test n j t) [
  | inl p ↦ (let q = p.0 in omega arith)
  | inr p ↦ (
      let q = p.0 in
      let different : v ≢ suc t = λ same. p.1 (ap (λ x. x % n) (sym same) ∙ e) in
      let k = last_turn_greatest n j t v (omega arith) e in
      omega arith
      )
]

pub last_turn_mine : (n j t : ℕ) → j < n → j ≤ t → last_turn n j t % n ≡ j
last_turn_mine n j zero h k = let e : j ≡ 0 = omega arith in ap (λ x. x % n) (turn_zero n j) ∙ zero-mod n ∙ sym e
last_turn_mine n j (suc t) h k = elim (by_test n j t) [
  | inl p ↦ ap (λ x. x % n) p.0 ∙ p.1
  | inr p ↦ (
      let different : j ≢ suc t = λ same. p.1 (ap (λ x. x % n) (sym same) ∙ mod-eq_of_lt h) in
      ap (λ x. x % n) p.0 ∙ last_turn_mine n j t h (omega arith)
      )
]

pub is_last_turn : LastTurnIsGreatest
is_last_turn n j t h k = record {
  at_most = last_turn_at_most n j t;
  mine = last_turn_mine n j t h (omega arith);
  greatest = λ v le e. last_turn_greatest n j t v le e;
}
