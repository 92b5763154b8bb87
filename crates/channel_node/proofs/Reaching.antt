-- Once a state was noted, or a channel opened, what is held from then on isn't older.
use Rattle.std.proofs.Common.{◌≡◌, ℕ, ◌+◌, ◌<◌, ◌≤◌, ◌==◌, Bool, true, false, cond, ◌&&◌, ◌||◌, not, List, [], ◌∷◌, ◌++◌, inl, inr, length, refl, sym, ◌∙◌, ap, subst, arith}
use Rattle.std.specs.Prelude.{Option, Some, None, nat_lt}
use Rattle.std.specs.List.{slice_get}
use Rattle.channel_values.specs.Parts.{FixedParts, StateParts}
use Rattle.channel_values.specs.declared.chain.Signed.{Signed}
use Rattle.channel_values.specs.Rows.{last_of}
use Rattle.channel_values.specs.Rules.{Rules, people, newest, turn_of, top_turn, is_signed_well}
use Rattle.call_history.specs.Marked.{Marked, is_supported, answered, next_after, is_step, extends, extended, is_newer, adopted}
use Rattle.call_history.specs.Shown.{shown}
use Rattle.call_history.specs.declared.entry.Entry.{Entry}
use Rattle.channel_safety.specs.Journals.{In, Line, is_watched, noted_in}
use Rattle.channel_safety.specs.Held.{note, show, held}
use Rattle.channel_safety.specs.Good.{InTurn, IsYoung, IsGood}
use Rattle.channel_safety.proofs.Tests.{some-eq, none-eq, and-left, and-right, or-right, eqb-true, lt-true}
use Rattle.channel_safety.proofs.Chains.{top_at, parts}
use Rattle.channel_safety.proofs.ChainsGrow.{noted-good}
use Rattle.channel_safety.proofs.Places.{over-lines, over-entries}

-- something is held that ends with a state of at least this turn
pub record Reaches (r : Rules) (f : FixedParts) (turn : ℕ) (st : Option Marked) : Type 0 where
  pub w : Marked
  pub is : st ≡ Some w
  pub top : StateParts
  pub ends : newest w.states ≡ Some top
  pub up : turn ≤ top.turn
  pub good : IsGood r f w

-- the last state of the first round so far has the turn before the number of states
young-top : (r : Rules) (f : FixedParts) (states : List StateParts) (top : StateParts) (w : Marked) → w.states ≡ states → IsYoung r f w → newest states ≡ Some top → top.turn + 1 ≡ length states
young-top r f [] top w e y ends = absurd (none-eq top ends)
young-top r f (s ∷ rest) top w e y ends =
    let low : s.turn ≡ 0 = y.first s (ap (λ (xs : List StateParts). slice_get xs 0) e) in
    let high : (last_of s rest).turn ≡ s.turn + length rest = top_at s rest (subst InTurn e y.turns) in
    let same : (last_of s rest).turn ≡ top.turn = ap (λ (x : StateParts). x.turn) (some-eq (last_of s rest) top ends) in
    omega arith

module _ (r : Rules) (f : FixedParts) (turn : ℕ) where
  extended-reaches : (o : Option Signed) (w : Marked) (top : StateParts) → newest w.states ≡ Some top → turn ≤ top.turn → IsGood r f w → Reaches r f turn (Some (extended r f o w))
  extended-reaches None w top ends up good = record { w = w; is = refl; top = top; ends = ends; up = up; good = good }
  extended-reaches (Some s) w top ends up good = go (extends r f s w) refl
    where
      go : (b : Bool) → extends r f s w ≡ b → Reaches r f turn (Some (cond b (answered f s w) w))
      go false e = record { w = w; is = refl; top = top; ends = ends; up = up; good = good }
      go true e =
          let n = noted-good r f s w good e in
          let next : s.state.turn ≡ next_after (newest w.states) = eqb-true s.state.turn (next_after (newest w.states)) (and-left (s.state.turn == next_after (newest w.states)) (is_signed_well r f s && is_step r f s.state (newest w.states)) e) in
          let after : s.state.turn ≡ top.turn + 1 = next ∙ ap next_after ends in
          record { w = answered f s w; is = refl; top = s.state; ends = n.ends; up = omega arith; good = n.good }

  note-reaches : (x : Line) (st : Option Marked) → Reaches r f turn st → Reaches r f turn (note r f x st)
  note-reaches x st h = subst (λ (o : Option Marked). Reaches r f turn (note r f x o)) (sym h.is) (extended-reaches (noted_in (r.named f) x.deed) h.w h.top h.ends h.up h.good)

  adopted-reaches : (chain w : Marked) (top : StateParts) → newest w.states ≡ Some top → turn ≤ top.turn → IsGood r f w → Reaches r f turn (Some (adopted r f chain w))
  adopted-reaches chain w top ends up good = go (is_newer r f chain w) refl
    where
      go : (b : Bool) → is_newer r f chain w ≡ b → Reaches r f turn (Some (cond b chain w))
      go false e = record { w = w; is = refl; top = top; ends = ends; up = up; good = good }
      go true e = at (newest chain.states) refl
        where
          supp : is_supported r f chain ≡ true
          supp = and-left (is_supported r f chain) (not (is_supported r f w) || nat_lt (top_turn w.states) (top_turn chain.states)) e

          above : (x : StateParts) → newest chain.states ≡ Some x → IsGood r f w → turn ≤ x.turn
          above x is (inl y) =
              let full : people f ≤ top_turn chain.states + 1 = (parts r f chain supp).high in
              let small : length w.states < people f = y.few in
              let here : top.turn + 1 ≡ length w.states = young-top r f w.states top w refl y ends in
              let there : top_turn chain.states ≡ x.turn = ap turn_of is in
              omega arith
          above x is (inr held) =
              let low : nat_lt (top_turn w.states) (top_turn chain.states) ≡ true =
              or-right (not (is_supported r f w)) (nat_lt (top_turn w.states) (top_turn chain.states))
              (and-right (is_supported r f chain) (not (is_supported r f w) || nat_lt (top_turn w.states) (top_turn chain.states)) e) (ap not held) in
              let less : top_turn w.states < top_turn chain.states = lt-true (top_turn w.states) (top_turn chain.states) low in
              let here : top_turn w.states ≡ top.turn = ap turn_of ends in
              let there : top_turn chain.states ≡ x.turn = ap turn_of is in
              omega arith

          at : (o : Option StateParts) → newest chain.states ≡ o → Reaches r f turn (Some chain)
          at None is = absurd (some-first chain.states (parts r f chain supp).some is)
            where
              some-first : (xs : List StateParts) → 1 ≤ length xs → newest xs ≡ None → ⊥
              some-first [] h n = absurd (omega arith)
              some-first (x ∷ xs) h n = none-eq (last_of x xs) (sym n)
          at (Some x) is = record { w = chain; is = refl; top = x; ends = is; up = above x is good; good = inr supp }

  show-reaches : (chain : Marked) (st : Option Marked) → Reaches r f turn st → Reaches r f turn (show r f chain st)
  show-reaches chain st h = subst (λ (o : Option Marked). Reaches r f turn (show r f chain o)) (sym h.is) (adopted-reaches chain h.w h.top h.ends h.up h.good)

  -- from one place to a later one
  pub reaches-later : (newer : List Line) (later past : List Entry) (front : List Line) → ((y : Line) → In y newer → is_watched y.deed ≡ false → length past ≤ y.seen)
      → Reaches r f turn (held r f past front) → Reaches r f turn (held r f (later ++ past) (newer ++ front))
  reaches-later newer later past front rising h =
      over-entries r f (Reaches r f turn) later past (newer ++ front) (λ x i. note-reaches x) (λ l1 l2 k st s. show-reaches (shown r (r.named f) (l2 ++ past) k) st)
      (over-lines r f (Reaches r f turn) newer past front (λ x i. note-reaches x) rising h)

-- ---- that something is held

abbrev pub IsHeld : Option Marked → Type 0
IsHeld st = (w : Marked) × (st ≡ Some w)

module _ (r : Rules) (f : FixedParts) where
  note-held : (x : Line) (st : Option Marked) → IsHeld st → IsHeld (note r f x st)
  note-held x st h = (extended r f (noted_in (r.named f) x.deed) h.0, ap (note r f x) h.1)

  show-held : (chain : Marked) (st : Option Marked) → IsHeld st → IsHeld (show r f chain st)
  show-held chain st h = (adopted r f chain h.0, ap (show r f chain) h.1)

  pub held-later : (newer : List Line) (later past : List Entry) (front : List Line) → ((y : Line) → In y newer → is_watched y.deed ≡ false → length past ≤ y.seen)
      → IsHeld (held r f past front) → IsHeld (held r f (later ++ past) (newer ++ front))
  held-later newer later past front rising h =
      over-entries r f IsHeld later past (newer ++ front) (λ x i. note-held x) (λ l1 l2 k st s. show-held (shown r (r.named f) (l2 ++ past) k) st)
      (over-lines r f IsHeld newer past front (λ x i. note-held x) rising h)
