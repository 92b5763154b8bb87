-- What a seat's channel can end with, by the state that was signed last.
use Rattle.std.proofs.Common.{◌≡◌, ℕ, ◌<◌, true, List, [], ◌∷◌, ◌++◌, refl, ◌∙◌, ap}
use Rattle.std.specs.Prelude.{Option, Some, None, nat_le}
use Rattle.std.specs.Option.{option_map}
use Rattle.channel_values.specs.Parts.{FixedParts, StateParts, IsState}
use Rattle.channel_values.specs.declared.chain.Signed.{Signed}
use Rattle.channel_values.specs.declared.value.AssetOutcome.{AssetOutcome}
use Rattle.channel_safety.proofs.Tests.{cond-true}
use Rattle.call_history.specs.declared.entry.Entry.{Entry}
use Rattle.channel_values.specs.Rows.{last_of}
use Rattle.channel_values.specs.Rules.{people, newest}
use Rattle.channel_store.specs.Keeping.{is_held}
use Rattle.channel_store.specs.declared.kept.Kept.{Kept}
use Rattle.channel_safety.specs.Journals.{Line}
use Rattle.fairness_laws.proofs.OpenedParts.{SignsFirst}
use Rattle.fairness_laws.proofs.Seat.Sitting.{topped, could}
use Rattle.fairness_laws.specs.SeatSitting.{Sits}
use Rattle.share_laws.proofs.Fronts.{last-line}
use Rattle.channel_safety.proofs.Members.{In-append_right}
use Rattle.share_laws.specs.Places.{Order, last_made, listed, proposed, possible, outcomes_of}
use Rattle.share_laws.specs.Settled.{EndsWith}
use Rattle.funding_plans.specs.Seats.{Seat, state_is, holds}
use Rattle.support_rules.specs.Real.{real}

-- the latest state and the one that was signed last
pub record Ends (key : List ℕ) (orders : ℕ → Order) (past : List Entry) (front : List Line) (f : FixedParts) (c : Seat) : Type 0 where
  pub top : StateParts
  pub top_is : c.top ≡ Some top
  pub last : Signed
  pub last_is : last_made (real.named f) front ≡ Some last
  pub own_is : c.own ≡ Some last.state
  pub valid : IsState last.state
  pub can : possible real past front f ≡ outcomes_of last.state

module _ (key : List ℕ) (orders : ℕ → Order) (past : List Entry) (front : List Line) (f : FixedParts) (opening : List AssetOutcome) (c : Seat) (sits : Sits key orders past front f opening c) where
  abbrev k : Kept
  k = sits.seat.kept

  -- where a chain is held
  pub ends-held : is_held k ≡ true → Ends key orders past front f c
  ends-held h =
      let x = sits.held h in
      record {
        top = last_of x.last.state x.ends.rest;
        top_is = ap (λ (y : Seat). y.top) sits.seat.is ∙ (cond-true (is_held k) (newest k.chain.states) None h ∙ x.ends.ends);
        last = x.last;
        last_is = x.is;
        own_is =
            ap (λ (y : Seat). y.own) sits.seat.is
            ∙ (cond-true (is_held k) k.last None h ∙ (sits.seat.at.last ∙ ap (λ (o : Option Signed). option_map (λ (s : Signed). s.state) o) x.is));
        valid = x.ends.valid;
        can = could key orders past front f opening c sits h x.last x.is;
      }

  -- as it is where it has a latest state
  pub ends-top : (t : StateParts) → c.top ≡ Some t → Ends key orders past front f c
  ends-top t e = ends-held (topped key orders past front f opening c sits t e).holds

  -- or one of at least some turn
  pub ends-holds : (turn : ℕ) → holds turn c ≡ true → Ends key orders past front f c
  ends-holds turn e = go c.top refl e
    where
      go : (o : Option StateParts) → c.top ≡ o → state_is (λ s. nat_le turn s.turn) o ≡ true → Ends key orders past front f c
      go None is h = absurd cc
      go (Some t) is h = ends-top t is

  -- what it can end with is what that state says
  pub ends-with : (e : Ends key orders past front f c) (o : List AssetOutcome) → outcomes_of e.last.state ≡ o ∷ [] → EndsWith real past front (real.named f) o
  ends-with e o alone = record { fixed = f; own = sits.seat.own; is = refl; alone = e.can ∙ alone }

-- what was signed last, below the number of people, is the opening outcome
pub first-round : (f : FixedParts) (o : List AssetOutcome) (newer front : List Line) → SignsFirst f o (newer ++ front) → (t : Signed) → last_made (real.named f) front ≡ Some t → t.state.turn < people f → outcomes_of t.state ≡ o ∷ []
first-round f o newer front signs t made low =
    let l = last-line (real.named f) front t made in
    let first = signs l.0 t (In-append_right l.0 newer front l.1) l.2 low in
    ap (λ (bytes : List ℕ). t.state.outcome ∷ listed (proposed bytes)) first.1 ∙ ap (λ (x : List AssetOutcome). x ∷ []) first.0
