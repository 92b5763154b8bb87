-- What is held gets no older, and once it is final it stays so.
use Rattle.std.proofs.Common.{◌≡◌, ℕ, ◌+◌, ◌<◌, ◌≤◌, Bool, true, false, cond, ◌&&◌, ◌||◌, not, List, refl, sym, ◌∙◌, ap, subst, arith}
use Rattle.std.specs.Prelude.{nat_lt, Option, Some, None}
use Rattle.channel_values.specs.Parts.{FixedParts, StateParts, IsState}
use Rattle.channel_values.specs.declared.chain.Signed.{Signed}
use Rattle.channel_values.specs.declared.value.AssetOutcome.{AssetOutcome}
use Rattle.channel_values.specs.Rules.{Rules, turn_of, top_turn, KeepsFinal}
use Rattle.call_history.specs.Marked.{Marked, is_supported, answered, extends, extended, is_newer, adopted}
use Rattle.channel_safety.specs.Journals.{Line, noted_in}
use Rattle.channel_safety.specs.Held.{note, show}
use Rattle.channel_safety.specs.Honest.{EndsWith}
use Rattle.channel_safety.proofs.Tests.{and-left, and-right, or-right, some-eq, lt-true, lt-false}
use Rattle.channel_safety.proofs.Chains.{IsClosed}
use Rattle.channel_safety.proofs.ChainsGrow.{extension}

-- a chain is held, of at least this turn
pub record HoldsNewer (r : Rules) (F : FixedParts) (turn : ℕ) (st : Option Marked) : Type 0 where
  pub latest : Marked
  pub is : st ≡ Some latest
  pub chain : is_supported r F latest ≡ true
  pub up : turn ≤ top_turn latest.states

-- and it is final, with this outcome
pub record HoldsClosed (r : Rules) (F : FixedParts) (turn : ℕ) (outcome : List AssetOutcome) (st : Option Marked) : Type 0 where
  pub holds : HoldsNewer r F turn st
  pub closed : IsClosed holds.latest.states outcome

pub extended-newer : (r : Rules) (F : FixedParts) (turn : ℕ) (o : Option Signed) (w : Marked) → is_supported r F w ≡ true → turn ≤ top_turn w.states
    → HoldsNewer r F turn (Some (extended r F o w))
extended-newer r F turn None w chain up = record { latest = w; is = refl; chain = chain; up = up }
extended-newer r F turn (Some s) w chain up = go (extends r F s w) refl
  where
    go : (b : Bool) → extends r F s w ≡ b → HoldsNewer r F turn (Some (cond b (answered F s w) w))
    go true e =
        let x = extension r F s w chain e in
        let is : s.state.turn ≡ x.before.turn + 1 = x.turn in
        let old : top_turn w.states ≡ x.before.turn = ap turn_of x.was in
        let new : top_turn (answered F s w).states ≡ s.state.turn = ap turn_of x.ends in
        record { latest = answered F s w; is = refl; chain = x.chain; up = omega (arith, up, is, old, new) }
    go false e = record { latest = w; is = refl; chain = chain; up = up }

pub extended-closed : (r : Rules) → KeepsFinal r → (F : FixedParts) (turn : ℕ) (outcome : List AssetOutcome) (o : Option Signed) (w : Marked)
    → ((s : Signed) → o ≡ Some s → IsState s.state) → is_supported r F w ≡ true → turn ≤ top_turn w.states → IsClosed w.states outcome → HoldsClosed r F turn outcome (Some (extended r F o w))
extended-closed r keeps F turn outcome None w valid chain up closed = record { holds = record { latest = w; is = refl; chain = chain; up = up }; closed = closed }
extended-closed r keeps F turn outcome (Some s) w valid chain up closed = go (extends r F s w) refl
  where
    go : (b : Bool) → extends r F s w ≡ b → HoldsClosed r F turn outcome (Some (cond b (answered F s w) w))
    go true e =
        let x = extension r F s w chain e in
        let is : s.state.turn ≡ x.before.turn + 1 = x.turn in
        let old : top_turn w.states ≡ x.before.turn = ap turn_of x.was in
        let new : top_turn (answered F s w).states ≡ s.state.turn = ap turn_of x.ends in
        let same : closed.top ≡ x.before = some-eq closed.top x.before (sym closed.is ∙ x.was) in
        let vs : IsState s.state = valid s refl in
        let vb : IsState x.before = subst IsState same closed.valid in
        let f : s.state.is_final ≡ true = keeps.stays F x.before s.state x.step (subst (λ (y : StateParts). y.is_final ≡ true) same closed.final) in
        record {
          holds = record { latest = answered F s w; is = refl; chain = x.chain; up = omega (arith, up, is, old, new) };
          closed = record { top = s.state; is = x.ends; final = f; same = keeps.same F x.before s.state vb vs x.step f ∙ (ap (λ (y : StateParts). y.outcome) (sym same) ∙ closed.same); valid = vs };
        }
    go false e = record { holds = record { latest = w; is = refl; chain = chain; up = up }; closed = closed }

pub note-newer : (r : Rules) (F : FixedParts) (turn : ℕ) (x : Line) (st : Option Marked) → HoldsNewer r F turn st → HoldsNewer r F turn (note r F x st)
note-newer r F turn x st h =
    subst (λ (y : Option Marked). HoldsNewer r F turn (note r F x y)) (sym h.is) (extended-newer r F turn (noted_in (r.named F) x.deed) h.latest h.chain h.up)

pub note-closed : (r : Rules) → KeepsFinal r → (F : FixedParts) (turn : ℕ) (outcome : List AssetOutcome) (x : Line) → ((s : Signed) → noted_in (r.named F) x.deed ≡ Some s → IsState s.state)
    → (st : Option Marked) → HoldsClosed r F turn outcome st → HoldsClosed r F turn outcome (note r F x st)
note-closed r keeps F turn outcome x valid st h =
    subst (λ (y : Option Marked). HoldsClosed r F turn outcome (note r F x y)) (sym h.holds.is) (extended-closed r keeps F turn outcome (noted_in (r.named F) x.deed) h.holds.latest valid h.holds.chain h.holds.up h.closed)

pub adopted-newer : (r : Rules) (F : FixedParts) (turn : ℕ) (chain w : Marked) → is_supported r F w ≡ true → turn ≤ top_turn w.states → HoldsNewer r F turn (Some (adopted r F chain w))
adopted-newer r F turn chain w is up = go (is_newer r F chain w) refl
  where
    go : (b : Bool) → is_newer r F chain w ≡ b → HoldsNewer r F turn (Some (cond b chain w))
    go true e =
        let a : is_supported r F chain ≡ true = and-left (is_supported r F chain) (not (is_supported r F w) || nat_lt (top_turn w.states) (top_turn chain.states)) e in
        let b : nat_lt (top_turn w.states) (top_turn chain.states) ≡ true = or-right (not (is_supported r F w)) (nat_lt (top_turn w.states) (top_turn chain.states)) (and-right (is_supported r F chain) (not (is_supported r F w) || nat_lt (top_turn w.states) (top_turn chain.states)) e) (ap not is) in
        let c : top_turn w.states < top_turn chain.states = lt-true (top_turn w.states) (top_turn chain.states) b in
        record { latest = chain; is = refl; chain = a; up = omega arith }
    go false e = record { latest = w; is = refl; chain = is; up = up }

pub adopted-closed : (r : Rules) (F : FixedParts) (turn : ℕ) (outcome : List AssetOutcome) (chain w : Marked) → is_supported r F w ≡ true → turn ≤ top_turn w.states → IsClosed w.states outcome
    → (is_supported r F chain ≡ true → turn ≤ top_turn chain.states → IsClosed chain.states outcome) → HoldsClosed r F turn outcome (Some (adopted r F chain w))
adopted-closed r F turn outcome chain w is up closed other = go (is_newer r F chain w) refl
  where
    go : (b : Bool) → is_newer r F chain w ≡ b → HoldsClosed r F turn outcome (Some (cond b chain w))
    go true e =
        let a : is_supported r F chain ≡ true = and-left (is_supported r F chain) (not (is_supported r F w) || nat_lt (top_turn w.states) (top_turn chain.states)) e in
        let b : nat_lt (top_turn w.states) (top_turn chain.states) ≡ true = or-right (not (is_supported r F w)) (nat_lt (top_turn w.states) (top_turn chain.states)) (and-right (is_supported r F chain) (not (is_supported r F w) || nat_lt (top_turn w.states) (top_turn chain.states)) e) (ap not is) in
        let c : top_turn w.states < top_turn chain.states = lt-true (top_turn w.states) (top_turn chain.states) b in
        let d : turn ≤ top_turn chain.states = omega arith in
        record { holds = record { latest = chain; is = refl; chain = a; up = d }; closed = other a d }
    go false e = record { holds = record { latest = w; is = refl; chain = is; up = up }; closed = closed }

-- a supported chain that is shown leaves one of at least its turn
pub adopted-at : (r : Rules) (F : FixedParts) (chain w : Marked) → is_supported r F chain ≡ true → HoldsNewer r F (top_turn chain.states) (Some (adopted r F chain w))
adopted-at r F chain w is = go (is_newer r F chain w) refl
  where
    go : (b : Bool) → is_newer r F chain w ≡ b → HoldsNewer r F (top_turn chain.states) (Some (cond b chain w))
    go true e = record { latest = chain; is = refl; chain = is; up = omega arith }
    go false e =
        let o : (not (is_supported r F w) || nat_lt (top_turn w.states) (top_turn chain.states)) ≡ false = and-false (is_supported r F chain) (not (is_supported r F w) || nat_lt (top_turn w.states) (top_turn chain.states)) is e in
        let p = or-false (not (is_supported r F w)) (nat_lt (top_turn w.states) (top_turn chain.states)) o in
        record { latest = w; is = refl; chain = not-is (is_supported r F w) p.0; up = lt-false (top_turn w.states) (top_turn chain.states) p.1 }
      where
        and-false : (a b : Bool) → a ≡ true → (a && b) ≡ false → b ≡ false
        and-false true b h k = k
        and-false false b h k = cc

        or-false : (a b : Bool) → (a || b) ≡ false → (a ≡ false) × (b ≡ false)
        or-false true b h = cc
        or-false false b h = (refl, h)

        not-is : (a : Bool) → not a ≡ false → a ≡ true
        not-is true h = refl
        not-is false h = cc

pub show-newer : (r : Rules) (F : FixedParts) (turn : ℕ) (chain : Marked) (st : Option Marked) → HoldsNewer r F turn st → HoldsNewer r F turn (show r F chain st)
show-newer r F turn chain st h =
    subst (λ (x : Option Marked). HoldsNewer r F turn (show r F chain x)) (sym h.is) (adopted-newer r F turn chain h.latest h.chain h.up)

pub show-closed : (r : Rules) (F : FixedParts) (turn : ℕ) (outcome : List AssetOutcome) (chain : Marked) (st : Option Marked)
    → (is_supported r F chain ≡ true → turn ≤ top_turn chain.states → IsClosed chain.states outcome) → HoldsClosed r F turn outcome st → HoldsClosed r F turn outcome (show r F chain st)
show-closed r F turn outcome chain st other h =
    subst (λ (x : Option Marked). HoldsClosed r F turn outcome (show r F chain x)) (sym h.holds.is) (adopted-closed r F turn outcome chain h.holds.latest h.holds.chain h.holds.up h.closed other)

pub ends-newer : (r : Rules) (F : FixedParts) (st : Option Marked) (s : StateParts) → EndsWith r F st s → HoldsNewer r F s.turn st
ends-newer r F st s e = let top : top_turn e.chain.states ≡ s.turn = ap turn_of e.ends in record { latest = e.chain; is = e.is; chain = e.chain_supported; up = omega arith }

pub ends-closed : (r : Rules) (F : FixedParts) (st : Option Marked) (s : StateParts) → IsState s → EndsWith r F st s → s.is_final ≡ true → HoldsClosed r F s.turn s.outcome st
unfolding ends-newer
ends-closed r F st s valid e f = record { holds = ends-newer r F st s e; closed = record { top = s; is = e.ends; final = f; same = refl; valid = valid } }
