-- What the table knows of the state that was signed last of a channel, and what was signed last.
use Rattle.std.proofs.Common.{◌≡◌, ℕ, ◌<◌, ◌≤◌, Bool, true, false, List, length, refl, sym, ◌∙◌, ap, subst}
use Rattle.std.specs.Prelude.{◌==◌, nat_le, Option, Some, None}
use Rattle.std.specs.Option.{option_map}
use Rattle.channel_values.specs.Parts.{FixedParts, StateParts}
use Rattle.channel_values.specs.declared.chain.Signed.{Signed}
use Rattle.channel_values.specs.declared.value.AssetOutcome.{AssetOutcome}
use Rattle.support_rules.specs.Ballots.{ballot_of}
use Rattle.support_rules.specs.Toward.{has_no_votes}
use Rattle.channel_safety.proofs.Tests.{some-eq, none-eq, clash, le-false}
use Rattle.call_history.specs.declared.entry.Entry.{Entry}
use Rattle.channel_values.specs.Rules.{people}
use Rattle.channel_safety.specs.Journals.{Line}
use Rattle.channel_node.specs.Places.{Told, lines_of}
use Rattle.channel_node.specs.Playing as playing
use Rattle.fairness_laws.specs.PaymentLaws.{At}
use Rattle.fairness_laws.specs.PlanSeats.{SeatIs}
use Rattle.fairness_laws.specs.PlanSettings.{IsFair}
use Rattle.fairness_laws.proofs.Joint.Core.{Late}
use Rattle.fairness_laws.proofs.Seat.Held.{last-of, own-last-of}
use Rattle.fairness_laws.proofs.Seat.Past.{past-of, of-past, people-are}
use Rattle.fairness_laws.proofs.Outcomes.{bare-data}
use Rattle.fairness_laws.proofs.Payment.Sharing.{no-bytes}
use Rattle.share_laws.specs.Places.{last_made}
use Rattle.funding_plans.specs.Seats.{Seat, state_is, has_no_data, has_signed_past}
use Rattle.support_rules.specs.Real.{real}

-- no data, no votes
pub data-votes : (n : ℕ) (s : StateParts) → has_no_data s ≡ has_no_votes (ballot_of n s.app_bytes)
data-votes n s = go (has_no_data s) (has_no_votes (ballot_of n s.app_bytes)) refl refl
  where
    go : (a b : Bool) → has_no_data s ≡ a → has_no_votes (ballot_of n s.app_bytes) ≡ b → a ≡ b
    go true true e f = refl
    go false false e f = refl
    go true false e f = absurd (clash (has_no_votes (ballot_of n s.app_bytes)) (ap (λ (bytes : List ℕ). has_no_votes (ballot_of n bytes)) (no-bytes s.app_bytes e)) f)
    go false true e f = absurd (clash (has_no_data s) (ap (λ (bytes : List ℕ). length bytes == 0) (bare-data n s.app_bytes f)) e)

module _ (s : playing.Signing) (h : List Entry) (journal : List Told) (fair : IsFair s h journal) (past : List Entry) (front : List Told) (at : At s h journal past front)
    (f : FixedParts) (opening : List AssetOutcome) (c : Seat) (seat : SeatIs s.key past (lines_of s.key front) f opening c) (n : ℕ) (many : people f ≡ n) (name : List ℕ) (named : real.named f ≡ name) where
  abbrev L : List Line
  L = lines_of s.key front

  pub late-of : has_signed_past c ≡ true → Late n (last-of name L)
  late-of e =
      let x = past-of s h journal fair.nodes past front at.front_is f opening c seat e in
      record {
        state = x.signed.state;
        is = subst (λ (m : List ℕ). last-of m L ≡ Some x.signed.state) named (ap (option_map (λ (z : Signed). z.state)) x.is);
        far = subst (λ (m : ℕ). m ≤ x.signed.state.turn) many x.far;
      }

  pub of-late : Late n (last-of name L) → has_signed_past c ≡ true
  of-late x = go (last_made name L) refl x.is
    where
      go : (o : Option Signed) → last_made name L ≡ o → option_map (λ (z : Signed). z.state) o ≡ Some x.state → has_signed_past c ≡ true
      go None is e = absurd (none-eq x.state e)
      go (Some t) is e =
          of-past s h journal fair.nodes past front at.front_is f opening c seat (record {
            signed = t;
            is = subst (λ (m : List ℕ). last_made m L ≡ Some t) (sym named) is;
            far = subst (λ (m : ℕ). m ≤ t.state.turn) (sym many) (subst (λ (z : StateParts). n ≤ z.turn) (sym (some-eq t.state x.state e)) x.far);
          })

  pub own-of : (last : StateParts) → c.own ≡ Some last → last-of name L ≡ Some last
  own-of last e = subst (λ (m : List ℕ). last-of m L ≡ Some last) named (own-last-of s h journal fair past front at f opening c seat last e)

  -- a state of the first round
  pub low-turn : (last : StateParts) → c.own ≡ Some last → has_signed_past c ≡ false → last.turn < n
  low-turn last e early =
      subst (λ (m : ℕ). last.turn < m) (people-are s.key past (lines_of s.key front) f opening c seat ∙ many)
      (le-false (length c.people) last.turn (subst (λ (o : Option StateParts). state_is (λ z. nat_le (length c.people) z.turn) o ≡ false) e early))
