-- What a table of rows wants, and in which stage it is.
use Rattle.std.proofs.Common.{◌≡◌, ℕ, zero, suc, ◌<◌, ◌≤◌, Bool, true, false, cond, ◌&&◌, ◌||◌, List, [], ◌∷◌, refl, sym, ◌∙◌, ap, subst, arith}
use Rattle.std.proofs.lemmas.Bool.{eq-eqb}
use Rattle.std.specs.Prelude.{◌==◌, nat_le, nat_lt, Option, Some, None}
use Rattle.std.specs.Str.{bytes_eq}
use Rattle.channel_values.specs.Parts.{StateParts, state_with}
use Rattle.channel_safety.proofs.Tests.{none-eq, and-left, and-right, lt-true, lt-false, clash}
use Rattle.funding_plans.specs.Limits.{is_valid}
use Rattle.funding_plans.specs.Rows.{Row, stage_in, wanted_in}
use Rattle.channel_values.specs.declared.value.AssetOutcome.{AssetOutcome}
use Rattle.fairness_laws.specs.OpeningChannels.{IsExactly}
use Rattle.ledger_channel.specs.OnLedgers.{Funded, on_ledger_rows}
use Rattle.ledger_channel.specs.OnLedgers as funded
use Rattle.funding_plans.specs.Seats.{Seat, holds, is_turn, repeats, final_state, toward, is_down}
use Rattle.fairness_laws.proofs.RootWishes.{when-some}

-- ---- the stage

-- whether the row at a place is left
abbrev pub leaves_at : ℕ → List Row → Bool
leaves_at n [] = false
leaves_at zero (r ∷ rows) = r.leaves
leaves_at (suc n) (r ∷ rows) = leaves_at n rows

-- a row that isn't left is no earlier than the stage
pub at-most : (rows : List Row) (n : ℕ) → leaves_at n rows ≡ false → stage_in rows ≤ n
at-most [] n e = omega arith
at-most (x ∷ rows) zero e = go x.leaves e
  where
    go : (b : Bool) → b ≡ false → cond b (suc (stage_in rows)) 0 ≤ 0
    go true is = absurd (clash true refl is)
    go false is = omega arith
at-most (x ∷ rows) (suc n) e = go x.leaves (at-most rows n e)
  where
    go : (b : Bool) → stage_in rows ≤ n → cond b (suc (stage_in rows)) 0 ≤ suc n
    go true up = omega arith
    go false up = omega arith

pub early : (rows : List Row) (n : ℕ) → leaves_at n rows ≡ false → stage_in rows < suc n
early rows n e = next (stage_in rows) n (at-most rows n e)
  where
    next : (a b : ℕ) → a ≤ b → a < suc b
    next a b h = omega arith

-- the rows before the stage are left
left-yet : (rows : List Row) (i : ℕ) → i < stage_in rows → leaves_at i rows ≡ true
left-yet [] i low = absurd (omega arith)
left-yet (x ∷ rows) i low = go x.leaves refl low (λ j low. left-yet rows j low)
  where
    later : x.leaves ≡ true → (i : ℕ) → i < suc (stage_in rows) → ((j : ℕ) → j < stage_in rows → leaves_at j rows ≡ true) → leaves_at i (x ∷ rows) ≡ true
    later l zero low rest = l
    later l (suc j) low rest = rest j (omega arith)

    go : (b : Bool) → x.leaves ≡ b → i < cond b (suc (stage_in rows)) 0 → ((j : ℕ) → j < stage_in rows → leaves_at j rows ≡ true) → leaves_at i (x ∷ rows) ≡ true
    go true l low rest = later l i low rest
    go false l low rest = absurd (omega arith)

pub left-before : (rows : List Row) (n i : ℕ) → stage_in rows ≡ n → i < n → leaves_at i rows ≡ true
left-before rows n i is low = left-yet rows i (subst (λ (m : ℕ). i < m) (sym is) low)

-- the row of the stage isn't left
stays : (rows : List Row) → leaves_at (stage_in rows) rows ≡ false
stays [] = refl
stays (x ∷ rows) = go x.leaves refl (stays rows)
  where
    go : (b : Bool) → x.leaves ≡ b → leaves_at (stage_in rows) rows ≡ false → leaves_at (cond b (suc (stage_in rows)) 0) (x ∷ rows) ≡ false
    go true l rest = rest
    go false l rest = l

pub stays-at : (rows : List Row) (n : ℕ) → stage_in rows ≡ n → leaves_at n rows ≡ false
stays-at rows n is = subst (λ (m : ℕ). leaves_at m rows ≡ false) is (stays rows)

-- the stage is that of a row that isn't left, where it is no less
pub stage-is : (rows : List Row) (n : ℕ) → leaves_at n rows ≡ false → nat_lt (stage_in rows) n ≡ false → (stage_in rows == n) ≡ true
stage-is rows n e low = eq-eqb (stage_in rows) n (both (stage_in rows) n (at-most rows n e) (lt-false (stage_in rows) n low))
  where
    both : (a b : ℕ) → a ≤ b → b ≤ a → a ≡ b
    both a b h k = omega arith

-- ---- a wish

-- one that is there
pub record Wished (b : Bool) (w : Option StateParts) (s : StateParts) : Type 0 where
  pub here : b ≡ true
  pub is : w ≡ Some s

pub wished : (b : Bool) (w : Option StateParts) (s : StateParts) → cond b w None ≡ Some s → Wished b w s
wished true w s e = record { here = refl; is = e }
wished false w s e = absurd (none-eq s e)

-- a repeated state has a turn below
pub repeats-below : (from until : ℕ) (c : Seat) (s : StateParts) → repeats from until c ≡ Some s → s.turn < until
repeats-below from until c s w =
    let r = when-some (nat_le from c.next && nat_lt c.next until && is_turn c && is_valid c.opening) (state_with c.next false c.opening []) s w in
    subst (λ (n : ℕ). n < until) (ap (λ (z : StateParts). z.turn) r.is)
    (lt-true c.next until (and-right (nat_le from c.next) (nat_lt c.next until) (and-left (nat_le from c.next && nat_lt c.next until) (is_turn c)
    (and-left (nat_le from c.next && nat_lt c.next until && is_turn c) (is_valid c.opening) r.holds))))

-- and its outcome is that of the opening, with no data
pub exactly : (c : Seat) (opening : List AssetOutcome) (from until : ℕ) (s : StateParts) → c.opening ≡ opening → repeats from until c ≡ Some s → IsExactly opening s
exactly c opening from until s is e =
    let w = when-some _ (state_with c.next false c.opening []) s e in
    (ap (λ (x : StateParts). x.is_final) (sym w.is), ap (λ (x : StateParts). x.outcome) (sym w.is) ∙ is, ap (λ (x : StateParts). x.app_bytes) (sym w.is))

-- ---- a payment channel that a ledger funds

-- which of its rows wants a state, and what is known where it does
pub data ChildWants (p : Funded) (c : List ℕ) (s : StateParts) : Type 0 where
  opens : p.closing ≡ false → bytes_eq p.channel.name c ≡ true → repeats 0 2 p.channel ≡ Some s → ChildWants p c s
  ups : p.closing ≡ false → holds 1 p.channel ≡ true → funded.is_settled_up p ≡ false → bytes_eq p.ledger.name c ≡ true → toward (funded.target_up p) p.ledger ≡ Some s
      → ChildWants p c s
  posts : p.closing ≡ false → funded.is_settled_up p ≡ true → bytes_eq p.channel.name c ≡ true → repeats 2 4 p.channel ≡ Some s → ChildWants p c s
  finals : p.closing ≡ true → p.channel.all_final ≡ false → bytes_eq p.channel.name c ≡ true → final_state p.channel ≡ Some s → ChildWants p c s
  downs : p.closing ≡ true → p.channel.all_final ≡ true → is_down p.child p.ledger ≡ false → bytes_eq p.ledger.name c ≡ true → toward (funded.target_down p) p.ledger ≡ Some s
      → ChildWants p c s

pub child-wants : (p : Funded) (c : List ℕ) (s : StateParts) → wanted_in c (on_ledger_rows p) ≡ Some s → ChildWants p c s
child-wants p c s e =
    by p.closing refl (holds 1 p.channel) refl (funded.is_settled_up p) refl (holds 3 p.channel) p.channel.all_final refl (is_down p.child p.ledger) refl e
  where
    by : (closing : Bool) → p.closing ≡ closing → (one : Bool) → holds 1 p.channel ≡ one → (up : Bool) → funded.is_settled_up p ≡ up → (three fin : Bool) → p.channel.all_final ≡ fin → (down : Bool) → is_down p.child p.ledger ≡ down
        → cond (closing || one)
        (cond (closing || up)
        (cond (closing || three) (cond closing (cond fin (cond down None (cond (bytes_eq p.ledger.name c) (toward (funded.target_down p) p.ledger) None)) (cond (bytes_eq p.channel.name c) (final_state p.channel) None)) None)
        (cond (bytes_eq p.channel.name c) (repeats 2 4 p.channel) None))
        (cond (bytes_eq p.ledger.name c) (toward (funded.target_up p) p.ledger) None))
        (cond (bytes_eq p.channel.name c) (repeats 0 2 p.channel) None) ≡ Some s → ChildWants p c s
    by false z false o up u three fin f down d e = let w = wished (bytes_eq p.channel.name c) (repeats 0 2 p.channel) s e in opens z w.here w.is
    by false z true o false u three fin f down d e = let w = wished (bytes_eq p.ledger.name c) (toward (funded.target_up p) p.ledger) s e in ups z o u w.here w.is
    by false z true o true u false fin f down d e = let w = wished (bytes_eq p.channel.name c) (repeats 2 4 p.channel) s e in posts z u w.here w.is
    by false z true o true u true fin f down d e = absurd (none-eq s e)
    by true z one o up u three false f down d e = let w = wished (bytes_eq p.channel.name c) (final_state p.channel) s e in finals z f w.here w.is
    by true z one o up u three true f false d e = let w = wished (bytes_eq p.ledger.name c) (toward (funded.target_down p) p.ledger) s e in downs z f d w.here w.is
    by true z one o up u three true f true d e = absurd (none-eq s e)
