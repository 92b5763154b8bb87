-- What is held of a channel of a node at a place: it ends after the state that the node signed last.
use Rattle.std.proofs.Common.{◌≡◌, ◌≢◌, ℕ, ◌+◌, ◌*◌, ◌<◌, ◌≤◌, Bool, true, false, cond, List, length, refl, sym, ◌∙◌, ap, subst, arith}
use Rattle.std.specs.Prelude.{nat_le, Option, Some, None}
use Rattle.std.specs.List.{list_all}
use Rattle.std.specs.Option.{option_map}
use Rattle.channel_values.specs.Parts.{FixedParts, StateParts, IsState}
use Rattle.channel_values.specs.declared.chain.Signed.{Signed}
use Rattle.channel_values.specs.declared.value.AssetOutcome.{AssetOutcome}
use Rattle.channel_safety.proofs.Chains.{parts, top_at}
use Rattle.channel_safety.proofs.Tests.{some-eq, and-left, clash, le-true}
use Rattle.call_history.specs.Marked.{marked_of}
use Rattle.call_history.specs.declared.entry.Entry.{Entry}
use Rattle.channel_values.specs.Rows.{last_of}
use Rattle.channel_values.specs.Rules.{people, newest, turn_of}
use Rattle.channel_values.specs.Digests.{name_of_person}
use Rattle.channel_store.specs.Keeping.{is_held}
use Rattle.share_laws.specs.HeldLaws.{EndsPossibly}
use Rattle.channel_safety.specs.Journals.{In, Line}
use Rattle.channel_node.specs.Places.{Told, lines_of}
use Rattle.channel_node.specs.Playing.{Signing}
use Rattle.fairness_laws.specs.PaymentLaws.{At}
use Rattle.fairness_laws.specs.PlanSeats.{SeatIs}
use Rattle.fairness_laws.specs.PlanSettings.{IsFair}
use Rattle.fairness_laws.proofs.Seat.Past.{supported, own-is, own-made, of-past}
use Rattle.fairness_laws.proofs.Payment.Ended.{top-there, own-last}
use Rattle.fairness_laws.proofs.Payment.Made.{held-ends}
use Rattle.fairness_laws.proofs.Seat.Sitting.{one-of, last-state}
use Rattle.share_laws.specs.Finality.{StandsFor}
use Rattle.share_laws.specs.Places.{last_made, outcomes_of}
use Rattle.funding_plans.specs.Seats.{Seat, state_is, holds, has_signed_past}
use Rattle.support_rules.specs.Real.{real}

-- the state that was signed last of a channel
abbrev pub last-of : List ℕ → List Line → Option StateParts
last-of channel front = option_map (λ s. s.state) (last_made channel front)

module _ (s : Signing) (h : List Entry) (journal : List Told) (fair : IsFair s h journal) (past : List Entry) (front : List Told) (at : At s h journal past front)
    (f : FixedParts) (opening : List AssetOutcome) (c : Seat) (seat : SeatIs s.key past (lines_of s.key front) f opening c) where
  abbrev L : List Line
  L = lines_of s.key front

  -- the latest state, and the one that was signed last
  pub record Tops (t : StateParts) : Type 0 where
    pub held : is_held seat.kept ≡ true
    pub newest_is : newest seat.kept.chain.states ≡ Some t
    pub last : Signed
    pub is : last_made (real.named f) L ≡ Some last
    pub ends : EndsPossibly real s.key (name_of_person s.key) f last (marked_of seat.kept.chain)
    pub top : last_of last.state ends.rest ≡ t

  pub tops : (t : StateParts) → c.top ≡ Some t → Tops t
  tops t e =
      let x = top-there s h journal fair past L at.place f opening c seat t e in
      let w = held-ends s h journal fair f past L at.place seat.own.there seat.kept seat.at x.holds in
      record { held = x.holds; newest_is = x.newest_is; last = w.last; is = w.is; ends = w.ends; top = some-eq (last_of w.last.state w.ends.rest) t (sym w.ends.ends ∙ x.newest_is) }

  -- the latest state's outcome is one with which the channel could end, outside payment channels
  pub top-could : f.app ≢ 1 → (t : StateParts) (w : Tops t) → In t.outcome (outcomes_of w.last.state)
  top-could other t w =
      let o = one-of (λ (p : List AssetOutcome). StandsFor f (name_of_person s.key) p (last_of w.last.state w.ends.rest).outcome) (outcomes_of w.last.state) w.ends.possible in
      subst (λ (p : List AssetOutcome). In p (outcomes_of w.last.state)) (sym (ap (λ (y : StateParts). y.outcome) (sym w.top) ∙ o.2.same other)) o.1

  pub top-valid : (t : StateParts) → Tops t → IsState t
  top-valid t w = subst IsState w.top (last-state w.last.state w.ends.rest w.ends.valid w.ends.states)

  pub top-last : (t : StateParts) (w : Tops t) → last-of (real.named f) L ≡ Some w.last.state
  top-last t w = ap (option_map (λ s. s.state)) w.is

  -- the first round is held whole
  pub top-far : (t : StateParts) → Tops t → people f ≤ t.turn + 1
  top-far t w =
      let chain = sym (supported s.key past L f opening c seat) ∙ w.held in
      subst (λ (n : ℕ). people f ≤ n + 1) (ap turn_of w.newest_is) (parts real f (marked_of seat.kept.chain) chain).high

  -- where a chain is held there is a latest state
  pub held-top : is_held seat.kept ≡ true → (t : StateParts) × (c.top ≡ Some t)
  held-top e =
      let w = held-ends s h journal fair f past L at.place seat.own.there seat.kept seat.at e in
      (last_of w.last.state w.ends.rest, ap (λ (x : Seat). x.top) seat.is ∙ (ap (λ (b : Bool). cond b (newest seat.kept.chain.states) None) e ∙ w.ends.ends))

  pub final-top : c.all_final ≡ true → (t : StateParts) × (c.top ≡ Some t)
  final-top e = held-top (and-left (is_held seat.kept) (list_all (λ s. s.is_final) seat.kept.chain.states) (sym (ap (λ (x : Seat). x.all_final) seat.is) ∙ e))

  pub own-top : (o : StateParts) → c.own ≡ Some o → (t : StateParts) × (c.top ≡ Some t)
  own-top o e = held-top (own-last s h journal fair past L at.place f opening c seat o e).holds

  pub own-last-of : (o : StateParts) → c.own ≡ Some o → last-of (real.named f) L ≡ Some o
  own-last-of o e =
      let m = own-made s h journal fair.nodes past front at.front_is f opening c seat o e in
      ap (option_map (λ s. s.state)) m.1 ∙ ap (λ (x : StateParts). Some x) m.2

  -- as it is known where a chain is held
  pub held-own : is_held seat.kept ≡ true → c.own ≡ last-of (real.named f) L
  held-own e = own-is s h journal fair.nodes past front at.front_is f opening c seat ∙ ap (λ (b : Bool). cond b (last-of (real.named f) L) None) e

  -- who holds a turn
  pub record Held (turn : ℕ) : Type 0 where
    pub top : StateParts
    pub is : c.top ≡ Some top
    pub up : turn ≤ top.turn

  pub holds-it : (turn : ℕ) → holds turn c ≡ true → Held turn
  holds-it turn e = go c.top refl e
    where
      go : (o : Option StateParts) → c.top ≡ o → state_is (λ s. nat_le turn s.turn) o ≡ true → Held turn
      go None is e = absurd (clash false e refl)
      go (Some t) is e = record { top = t; is = is; up = le-true turn t.turn e }

  -- who holds a turn past the set-up and one round signed past the set-up
  pub held-past : (turn : ℕ) → 2 * people f ≤ turn + 1 → holds turn c ≡ true → has_signed_past c ≡ true
  held-past turn high e =
      let t = holds-it turn e in
      let w = tops t.top t.is in
      of-past s h journal fair.nodes past front at.front_is f opening c seat (record {
        signed = w.last;
        is = w.is;
        far = far (people f) w.last.state.turn (length w.ends.rest) t.top.turn (ap (λ (y : StateParts). y.turn) (sym w.top) ∙ top_at w.last.state w.ends.rest w.ends.turns) w.ends.few t.up high;
      })
    where
      far : (n l r t : ℕ) → t ≡ l + r → r < n → turn ≤ t → 2 * n ≤ turn + 1 → n ≤ l
      far n l r t p q u v = omega arith
