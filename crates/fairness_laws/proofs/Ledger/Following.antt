-- What is signed in a ledger of two people toward a target follows the latest outcome.
use Rattle.std.proofs.Common.{◌≡◌, ℕ, ◌-◌, ◌^◌, ◌<◌, Bool, true, false, not, ◌&&◌, ◌||◌, cond, eqb, List, [], ◌∷◌, refl, sym, ◌∙◌, ap, subst, arith}
use Rattle.std.proofs.lemmas.Bool.Decides.{nat_tests}
use Rattle.std.specs.Prelude.{◌==◌, nat_le, nat_lt, is_ok, Option, Some, None}
use Rattle.std.specs.Option.{option_map}
use Rattle.std.specs.Str.{bytes_eq}
use Rattle.channel_values.specs.Outcomes.{IsOutcome}
use Rattle.channel_values.specs.Parts.{StateParts}
use Rattle.channel_values.specs.Reading.{outcome_of}
use Rattle.channel_values.specs.Spelling.{outcome}
use Rattle.channel_values.specs.declared.value.AssetOutcome.{AssetOutcome}
use Rattle.support_rules.specs.Ballots.{Ballot, ballot_of}
use Rattle.support_rules.specs.Rules.{is_same_outcome}
use Rattle.support_rules.specs.Toward.{Move, no_votes, wanted_move, moved, wanted_on, wanted_toward, is_settled}
use Rattle.channel_safety.proofs.Tests.{some-eq, none-eq, clash, and-left, and-right, lt-true}
use Rattle.call_history.proofs.Names.{bytes_eq_self}
use Rattle.share_laws.specs.Places.{outcomes_of}
use Rattle.share_laws.proofs.Voting.{moves_end}
use Rattle.fairness_laws.specs.LedgerKeeping.{Follows, stays, settles, proposes}

module _ (target : List AssetOutcome) (valid : IsOutcome target) (s : StateParts) (own : Option StateParts) (t : StateParts) where
  module _ (wanted : wanted_toward 2 target s own ≡ Some t) where
    no-data : (o : List AssetOutcome) → moved s (record { outcome = o; ballot = no_votes }) ≡ t → (t.outcome ≡ o) × (outcomes_of t ≡ t.outcome ∷ [])
    no-data o is = (sym (ap (λ (x : StateParts). x.outcome) is), subst (λ (x : StateParts). outcomes_of x ≡ x.outcome ∷ []) is refl)

    few : (bytes : List ℕ) (b : Ballot) → ballot_of 2 bytes ≡ Some b → (b.votes == 0) ≡ false → (b.votes == 1) ≡ true
    few [] b e none = absurd (clash (b.votes == 0) (ap (λ (x : Ballot). x.votes == 0) (sym (some-eq (record { votes = 0; proposal = [] }) b e))) none)
    few (k ∷ bytes) b e none = go (nat_le 1 k && nat_lt k 2 && is_ok (outcome_of bytes)) refl e
      where
        one : (n m : ℕ) → n ≡ m → n < 2 → (m == 0) ≡ false → (m == 1) ≡ true
        one n m p q r = grind (arith, nat_tests)

        go : (c : Bool) → (nat_le 1 k && nat_lt k 2 && is_ok (outcome_of bytes)) ≡ c → cond c (Some (record { votes = k; proposal = bytes })) None ≡ Some b → (b.votes == 1) ≡ true
        go true c h =
            one k b.votes (ap (λ (x : Ballot). x.votes) (some-eq (record { votes = k; proposal = bytes }) b h))
            (lt-true k 2 (and-right (nat_le 1 k) (nat_lt k 2) (and-left (nat_le 1 k && nat_lt k 2) (is_ok (outcome_of bytes)) c))) none
        go false c h = absurd (none-eq b h)

    on-move : (b : Ballot) (settled : Bool) (m : Move) → ((b.votes == 0) ≡ false → (b.votes == 1) ≡ true) → wanted_move 2 target s.outcome b settled ≡ Some m → moved s m ≡ t → Follows s.outcome target t
    on-move b settled m few e is =
        by-votes (b.votes == 0) refl (bytes_eq b.proposal (outcome target)) (b.votes == 1) refl (is_same_outcome s.outcome target) refl settled e
      where
        made-of : (x : Move) → Some x ≡ Some m → moved s x ≡ t
        made-of x h = ap (moved s) (some-eq x m h) ∙ is

        rests : Some (record { outcome = s.outcome; ballot = no_votes }) ≡ Some m → Follows s.outcome target t
        rests h = let d = no-data s.outcome (made-of _ h) in stays d.0 d.1

        by-votes : (none : Bool) → (b.votes == 0) ≡ none → (same one : Bool) → (b.votes == 1) ≡ one → (there : Bool) → is_same_outcome s.outcome target ≡ there → (settled : Bool) →
            cond (not none) (cond same (Some (cond one (record { outcome = target; ballot = no_votes }) (record { outcome = s.outcome; ballot = record { votes = b.votes - 1; proposal = outcome target } }))) (Some (record { outcome = s.outcome; ballot = no_votes }))) (cond (not there) (Some (record { outcome = s.outcome; ballot = record { votes = 1; proposal = outcome target } })) (cond settled None (Some (record { outcome = s.outcome; ballot = no_votes })))) ≡ Some m →
            Follows s.outcome target t
        by-votes true n same one o true th true h = absurd (none-eq m h)
        by-votes true n same one o true th false h = rests h
        by-votes true n same one o false th settled h =
            proposes (sym (ap (λ (x : StateParts). x.outcome) (made-of _ h))) (λ q i. moves_end 2 target valid s own t wanted q i)
            (λ e. clash (is_same_outcome s.outcome target) (subst (λ (x : List AssetOutcome). is_same_outcome s.outcome x ≡ true) (sym e) (bytes_eq_self (outcome s.outcome))) th)
        by-votes false n false one o there th settled h = rests h
        by-votes false n true true o there th settled h = let d = no-data target (made-of _ h) in settles d.0 d.1
        by-votes false n true false o there th settled h = absurd (clash (b.votes == 1) (few n) o)

  pub follows-toward : wanted_toward 2 target s own ≡ Some t → Follows s.outcome target t
  unfolding wanted_toward
  follows-toward e = by-end (s.is_final || eqb s.turn (2 ^ 48 - 1)) e
    where
      by-move : (w : Option Move) → wanted_on 2 target s (is_settled 2 target own) (ballot_of 2 s.app_bytes) ≡ w → option_map (moved s) w ≡ Some t → Follows s.outcome target t
      by-move None f h = absurd cc
      by-move (Some m) f h = by-ballot (ballot_of 2 s.app_bytes) refl f
        where
          same : ◌≡◌ {A = Option StateParts} (Some (moved s m)) (Some t) → moved s m ≡ t
          same h = cc

          by-ballot : (b : Option Ballot) → ballot_of 2 s.app_bytes ≡ b → wanted_on 2 target s (is_settled 2 target own) b ≡ Some m → Follows s.outcome target t
          by-ballot None z g = absurd cc
          by-ballot (Some b) z g = on-move e b (is_settled 2 target own) m (few e s.app_bytes b z) g (same h)

      by-end : (z : Bool) → cond z None (option_map (moved s) (wanted_on 2 target s (is_settled 2 target own) (ballot_of 2 s.app_bytes))) ≡ Some t → Follows s.outcome target t
      by-end true h = absurd cc
      by-end false h = by-move (wanted_on 2 target s (is_settled 2 target own) (ballot_of 2 s.app_bytes)) refl h
