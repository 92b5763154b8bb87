-- What is held at a seat of a part, and what its person signed last there.
use Rattle.std.proofs.Common.{◌≡◌, ◌≢◌, ℕ, ◌<◌, false, List, [], ◌∷◌, ◌++◌, length, sym, ◌∙◌, ap, subst, arith}
use Rattle.std.proofs.lemmas.Bool.Decides.{nat_tests}
use Rattle.std.specs.Prelude.{Some, nat_le}
use Rattle.channel_values.specs.Outcomes.{IsOutcome}
use Rattle.channel_values.specs.Parts.{FixedParts, StateParts}
use Rattle.channel_values.specs.declared.value.AssetOutcome.{AssetOutcome}
use Rattle.call_history.specs.declared.entry.Entry.{Entry}
use Rattle.channel_values.specs.Rules.{people}
use Rattle.channel_safety.proofs.Members.{In-append_right}
use Rattle.channel_safety.specs.Journals.{In, Line}
use Rattle.fairness_laws.proofs.Seat.Past.{people-are}
use Rattle.fairness_laws.proofs.Outcomes.{exactly-alone}
use Rattle.fairness_laws.proofs.Seat.Sitting.{topped}
use Rattle.fairness_laws.proofs.Seat.Ends.{Ends, ends-top}
use Rattle.fairness_laws.specs.OpeningChannels.{IsExactly, SignsOnly}
use Rattle.fairness_laws.specs.SeatSitting.{Sits}
use Rattle.share_laws.proofs.Fronts.{last-line}
use Rattle.share_laws.specs.Places.{Order, possible, outcomes_of}
use Rattle.funding_plans.specs.Seats.{Seat, state_is, has_signed_past}
use Rattle.support_rules.specs.Real.{real}

low-turn : (n turn : ℕ) → nat_le n turn ≡ false → turn < n
low-turn n turn e = grind (arith, nat_tests)

module _ (key : List ℕ) (orders : ℕ → Order) (past : List Entry) (front : List Line) (f : FixedParts) (opening : List AssetOutcome) (c : Seat) (sits : Sits key orders past front f opening c) where
  -- outside payment channels the latest outcome is one with which the channel could end
  pub record Based (top : StateParts) : Type 0 where
    pub last : StateParts
    pub own_is : c.own ≡ Some last
    pub among : In top.outcome (outcomes_of last)
    pub valid : IsOutcome top.outcome

  pub based : f.app ≢ 1 → (top : StateParts) → c.top ≡ Some top → Based top
  based other top e =
      let t = topped key orders past front f opening c sits top e in
      let x = ends-top key orders past front f opening c sits top e in
      record {
        last = x.last.state;
        own_is = x.own_is;
        among = subst (λ (os : List (List AssetOutcome)). In top.outcome os) x.can (subst (λ (z : List AssetOutcome). In z (possible real past front f)) (sym (t.stands.same other)) t.there);
        valid = t.state.outcome;
      }

  module _ (e : Ends key orders past front f c) where
    -- who didn't sign past the set-up signed a turn of the first round last
    pub young-turn : has_signed_past c ≡ false → e.last.state.turn < people f
    young-turn young =
        subst (λ (n : ℕ). e.last.state.turn < n) (people-are key past front f opening c sits.seat)
        (low-turn (length c.people) e.last.state.turn (sym (ap (state_is (λ x. nat_le (length c.people) x.turn)) e.own_is) ∙ young))

    -- who signs nothing but one outcome can end with that alone
    pub promised : (promise : List AssetOutcome) (newer : List Line) → SignsOnly f promise (newer ++ front) → outcomes_of e.last.state ≡ promise ∷ []
    promised promise newer signs =
        let l = last-line (real.named f) front e.last e.last_is in
        let said : IsExactly promise e.last.state = signs l.0 e.last (In-append_right l.0 newer front l.1) l.2 in
        exactly-alone promise e.last.state said
