-- What is wanted by a seat of a channel in which the node is asked for a state.
use Rattle.std.proofs.Common.{◌≡◌, ◌≢◌, ℕ, ◌*◌, ◌≤◌, true, false, List, ◌⊎◌, sym, ◌∙◌, ap, subst}
use Rattle.std.specs.Prelude.{Option, Some}
use Rattle.std.specs.Str.{bytes_eq}
use Rattle.channel_values.specs.Outcomes.{IsOutcome}
use Rattle.channel_values.specs.Parts.{FixedParts, StateParts, IsState}
use Rattle.channel_values.specs.declared.value.AssetOutcome.{AssetOutcome}
use Rattle.call_history.proofs.Names.{same_bytes}
use Rattle.call_history.specs.History.{mode}
use Rattle.call_history.specs.declared.entry.Entry.{Entry}
use Rattle.channel_values.specs.Rules.{people}
use Rattle.channel_values.specs.Digests.{name_of_person}
use Rattle.call_history.specs.Mode.{is_final}
use Rattle.channel_safety.specs.Journals.{Line}
use Rattle.channel_node.specs.Places.{Told, lines_of}
use Rattle.channel_node.specs.Playing.{Signing}
use Rattle.node_guarantees.specs.Orders.{orders_of}
use Rattle.fairness_laws.proofs.Channels.{one-named, channel-of, carried}
use Rattle.fairness_laws.proofs.Seat.Sitting.{repeats_are_fair, finals_are_fair, passes_are_fair, moves_are_fair}
use Rattle.fairness_laws.proofs.Signing.{sits}
use Rattle.fairness_laws.specs.PaymentLaws.{At}
use Rattle.fairness_laws.specs.PlanSeats.{SeatIs}
use Rattle.fairness_laws.specs.PlanSettings.{IsFair}
use Rattle.fairness_laws.specs.SeatSitting.{Sits}
use Rattle.funding_plans.specs.Limits.{is_valid}
use Rattle.share_laws.specs.Places.{Order}
use Rattle.share_laws.specs.Fairly.{Wants}
use Rattle.share_laws.specs.Signatures.{IsOwn}
use Rattle.share_laws.specs.Wanted.{IsTarget}
use Rattle.funding_plans.specs.Seats.{Seat, repeats, final_state, pass_on, toward}
use Rattle.support_rules.specs.Real.{real}
use Rattle.fairness_laws.specs.Carried.{OpensWith}

-- of the channel f a state is asked for that the seat c of the channel x wants
module _ (s : Signing) (h : List Entry) (journal : List Told) (fair : IsFair s h journal) (past : List Entry) (front : List Told) (at : At s h journal past front)
    (f : FixedParts) (state : StateParts) (own : IsOwn real (lines_of s.key front) f) (valid : IsState state) (going : is_final (mode real (real.named f) past) ≡ false)
    (x : FixedParts) (opening : List AssetOutcome) (c : Seat) (seat : SeatIs s.key past (lines_of s.key front) x opening c) (named : bytes_eq c.name (real.named f) ≡ true) where
  abbrev lines : List Line
  lines = lines_of s.key front

  abbrev orders : ℕ → Order
  orders = orders_of real s.key journal

  abbrev me : List ℕ
  me = name_of_person s.key

  same : x ≡ f
  same = one-named lines x f seat.own own (sym (ap (λ (y : Seat). y.name) seat.is) ∙ same_bytes c.name (real.named f) named)

  pub going-there : is_final (mode real (real.named x) past) ≡ false
  going-there = subst (λ (y : FixedParts). is_final (mode real (real.named y) past) ≡ false) (sym same) going

  sit : Sits s.key orders past lines x opening c
  sit = sits s h journal fair past front at x opening c seat going-there

  of-channel : Wants real me orders past lines x state → Wants real me orders past lines f state
  of-channel w = subst (λ (y : FixedParts). Wants real me orders past lines y state) same w

  pub wants-repeated : OpensWith x opening (lines_of s.key journal) → (from until : ℕ) → until ≤ 2 * people x → repeats from until c ≡ Some state → Wants real me orders past lines f state
  wants-repeated opens from until few e =
      of-channel (repeats_are_fair s.key orders past lines x opening c sit
      (carried s h journal fair past front at x opening (channel-of s h journal past front at x seat.own.there seat.kept.me seat.mine) opens) from until few state valid e)

  pub wants-final : final_state c ≡ Some state → Wants real me orders past lines f state
  wants-final e = of-channel (finals_are_fair s.key orders past lines x opening c sit state e)

  pub wants-pass : (on : List AssetOutcome) → pass_on on c ≡ Some state → Wants real me orders past lines f state
  wants-pass on e = of-channel (passes_are_fair s.key orders past lines x opening c sit on state e)

  pub wants-move : x.app ≢ 1 → (target : Option (List AssetOutcome)) → toward target c ≡ Some state
      → ((top : StateParts) (t : List AssetOutcome) → c.top ≡ Some top → target ≡ Some t → is_valid t ≡ true
      → IsOutcome t × ((t ≡ top.outcome) ⊎ IsTarget real me orders past lines x top.outcome t))
      → Wants real me orders past lines f state
  wants-move other target e fits = of-channel (moves_are_fair s.key orders past lines x opening c sit other target state e fits)
