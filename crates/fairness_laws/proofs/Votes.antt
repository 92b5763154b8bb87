-- A known state of a node, its channel, and what the seat of that channel says of it.
use Rattle.std.proofs.Common.{◌≡◌, ℕ, Bool, true, false, cond, List, [], ◌∷◌, refl, sym, ◌∙◌, ap, subst}
use Rattle.std.specs.Prelude.{Option, Some, None}
use Rattle.std.specs.Option.{option_map}
use Rattle.channel_values.specs.Parts.{FixedParts, StateParts}
use Rattle.channel_values.specs.declared.chain.Signed.{Signed}
use Rattle.channel_values.specs.declared.value.AssetOutcome.{AssetOutcome}
use Rattle.channel_safety.proofs.Tests.{some-eq, none-eq, clash}
use Rattle.call_history.specs.History.{mode, rest_of_channel}
use Rattle.call_history.specs.Marked.{Marked, marked_of, is_supported}
use Rattle.call_history.specs.declared.entry.Entry.{Entry}
use Rattle.call_history.specs.declared.held_chain.Known.{Known}
use Rattle.channel_values.specs.Rules.{Rules}
use Rattle.channel_store.proofs.Good.{held_is}
use Rattle.channel_store.specs.Keeping.{is_held}
use Rattle.channel_store.specs.Storing.{kept_of}
use Rattle.call_history.specs.Mode.{is_final}
use Rattle.fairness_laws.proofs.Firsts.{IsKnownOf, kept-known, kept-apart, IsOfOwn, kept-own, kept-joined}
use Rattle.fairness_laws.proofs.Joining.{HasJoined}
use Rattle.fairness_laws.proofs.Joint.Seats.{same-fixed}
use Rattle.fairness_laws.proofs.Plan.Holding.{Holds}
use Rattle.fairness_laws.proofs.Seat.Past.{supported, own-is}
use Rattle.fairness_laws.proofs.Signing.{kept-of}
use Rattle.fairness_laws.specs.PaymentLaws.{At}
use Rattle.fairness_laws.specs.PlanSeats.{SeatIs}
use Rattle.fairness_laws.specs.PlanSettings.{IsFair}
use Rattle.run_record.specs.Plans.{are_two, has_two}
use Rattle.channel_safety.specs.Journals.{In, Line, made_in}
use Rattle.channel_node.specs.Minds.{Mind, facts_of}
use Rattle.channel_node.specs.Places.{Told, lines_of, mind_at}
use Rattle.channel_node.specs.Playing.{Signing}
use Rattle.node_guarantees.proofs.Apart.{found-again}
use Rattle.share_laws.proofs.Fronts.{last-line}
use Rattle.share_laws.specs.Places.{channels, last_made, possible_if, outcomes_of}
use Rattle.funding_plans.specs.Seats.{Seat}
use Rattle.support_rules.specs.Real.{real}
use Rattle.node_guarantees.specs.ViewLaws.{IsKeptAt}

-- a channel that can end with two outcomes has no state that can end with one
pub no-single : (r : Rules) (h : List Entry) (k : Known) → has_two r h k ≡ true → (o : List AssetOutcome) → outcomes_of k.last ≡ o ∷ [] → ⊥
no-single r h k two o is = go (is_final (mode r k.channel h)) (rest_of_channel r k.channel h) two
  where
    go : (final : Bool) (rest : Option (List AssetOutcome)) → are_two (possible_if final rest k.last) ≡ true → ⊥
    go true None e = cc
    go true (Some x) e = cc
    go false rest e = clash (are_two (outcomes_of k.last)) e (ap are_two is)

held-last : (b : Bool) (o : Option StateParts) (last : StateParts) → cond b o None ≡ Some last → (b ≡ true) × (o ≡ Some last)
held-last true o last e = (refl, e)
held-last false o last e = absurd (none-eq last e)

module _ (s : Signing) (h : List Entry) (journal : List Told) (fair : IsFair s h journal) (past : List Entry) (front : List Told) (at : At s h journal past front)
    (k : Known) (i : In k (facts_of (mind_at real s.key past front)).known) where
  abbrev m : Mind
  m = mind_at real s.key past front

  abbrev lines : List Line
  lines = lines_of s.key front

  abbrev x : IsKnownOf m.kept k
  x = kept-known m.kept k i

  abbrev own : IsOfOwn s h journal fair past front at x.item
  own = kept-own s h journal fair past front at x.item x.there

  abbrev pub fixed : FixedParts
  fixed = own.fixed

  pub own-there : In fixed (channels lines)
  own-there = own.there

  pub named-so : real.named fixed ≡ k.channel
  named-so = own.is_named ∙ x.is_named

  -- its channel is joined by the part that has it
  pub joins : HasJoined m.parts k.channel
  joins = subst (HasJoined m.parts) x.is_named (kept-joined s h journal fair past front at x.item x.there)

  holds : Holds s.key past lines m fixed
  holds = kept-of s h journal fair past front at fixed own-there

  item-is : holds.kept ≡ x.item
  item-is =
      some-eq holds.kept x.item
      (sym holds.found ∙ (ap (λ (n : List ℕ). kept_of n m.kept) own.is_named ∙ found-again m.kept (kept-apart s h journal fair past front at) x.item x.there))

  kept-at : IsKeptAt real past lines fixed x.item
  kept-at = subst (IsKeptAt real past lines fixed) item-is holds.at

  both : (is_held x.item ≡ true) × (x.item.last ≡ Some k.last)
  both = held-last (is_held x.item) x.item.last k.last x.last

  -- it was signed last
  last-is : option_map (λ (n : Signed). n.state) (last_made (real.named fixed) lines) ≡ Some k.last
  last-is = sym kept-at.last ∙ both.1

  pub last-named : option_map (λ (n : Signed). n.state) (last_made k.channel lines) ≡ Some k.last
  last-named = subst (λ (n : List ℕ). option_map (λ (z : Signed). z.state) (last_made n lines) ≡ Some k.last) named-so last-is

  -- what each signed state of the channel is, it is
  pub signed-is : (P : StateParts → Type 0) → ((y : Line) (n : Signed) → In y lines → made_in k.channel y.deed ≡ Some n → P n.state) → P k.last
  signed-is P each = go (last_made k.channel lines) refl last-named
    where
      go : (o : Option Signed) → last_made k.channel lines ≡ o → option_map (λ (n : Signed). n.state) o ≡ Some k.last → P k.last
      go None is e = absurd (none-eq k.last e)
      go (Some n) is e = let l = last-line k.channel lines n is in subst P (some-eq n.state k.last e) (each l.0 n l.1 l.2)

  -- ---- its seat

  module _ (opening : List AssetOutcome) (c : Seat) (seat : SeatIs s.key past lines fixed opening c) where
    held-there : is_held seat.kept ≡ true
    held-there =
        supported s.key past lines fixed opening c seat
        ∙ (ap (λ (w : Marked). is_supported real fixed w) (some-eq (marked_of seat.kept.chain) (marked_of x.item.chain) (sym seat.at.chain ∙ kept-at.chain))
        ∙ (ap (λ (f : FixedParts). is_supported real f (marked_of x.item.chain)) (sym kept-at.fixed)
        ∙ (sym (held_is real x.item kept-at.good) ∙ both.0)))

    own-so : c.own ≡ Some k.last
    own-so =
        own-is s h journal fair.nodes past front at.front_is fixed opening c seat
        ∙ (ap (λ (b : Bool). cond b (option_map (λ (n : Signed). n.state) (last_made (real.named fixed) lines)) None) held-there ∙ last-is)

  pub seat-own : (f : FixedParts) (opening : List AssetOutcome) (c : Seat) → SeatIs s.key past lines f opening c → real.named f ≡ k.channel → c.own ≡ Some k.last
  seat-own f opening c seat named =
      own-so opening c
      (subst (λ (g : FixedParts). SeatIs s.key past lines g opening c) (same-fixed s h journal fair past front at f fixed seat.own.there own-there (named ∙ sym named-so)) seat)
