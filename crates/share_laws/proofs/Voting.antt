-- The move toward a target can end with the outcome that it follows, or with the target.
use Rattle.std.proofs.Common.{◌≡◌, ℕ, ◌-◌, ◌^◌, Bool, true, false, not, ◌&&◌, ◌||◌, cond, eqb, leb, List, [], ◌∷◌, Result, Option, Some, None, refl, sym, ◌∙◌, ap, subst, inl, inr, ◌⊎◌}
use Rattle.std.specs.Option.{option_map, option_or}
use Rattle.std.specs.Result.{result_ok}
use Rattle.std.specs.Str.{bytes_eq}
use Rattle.channel_values.specs.Outcomes.{IsOutcome}
use Rattle.channel_values.specs.Parts.{FixedParts, StateParts}
use Rattle.channel_values.specs.Spelling.{outcome}
use Rattle.channel_values.specs.Reading.{outcome_of}
use Rattle.channel_values.specs.declared.fault.ByteFault.{ByteFault}
use Rattle.channel_values.specs.declared.chain.Signed.{Signed}
use Rattle.channel_values.specs.declared.value.AssetOutcome.{AssetOutcome}
use Rattle.channel_values.proofs.Format.{valid_again}
use Rattle.channel_values.proofs.Formats.{outcome_format}
use Rattle.call_history.specs.Mode.{is_final}
use Rattle.channel_values.specs.Rules.{Rules}
use Rattle.call_history.specs.History.{mode, rest_of_channel}
use Rattle.call_history.specs.declared.entry.Entry.{Entry}
use Rattle.channel_safety.specs.Held.{held}
use Rattle.channel_safety.specs.Journals.{In, Line, some_if}
use Rattle.support_rules.specs.Ballots.{Ballot, ballot_of, data_of}
use Rattle.support_rules.specs.Rules.{is_same_outcome}
use Rattle.support_rules.specs.Toward.{Move, no_votes, wanted_move, moved, wanted_on, wanted_toward, is_settled}
use Rattle.funding_plans.specs.Shapes.{items_in, list_in}
use Rattle.share_laws.specs.Places.{proposed, listed, outcomes_of, last_made, possible, possible_after, is_held}
use Rattle.share_laws.specs.Moves.{stays}
use Rattle.share_laws.specs.Signatures.{signing, IsFairAt}
use Rattle.share_laws.specs.Votes.{MovesEndAsWanted, VotesKeepShares}
use Rattle.call_history.proofs.Names.{bytes_eq_self}
use Rattle.share_laws.proofs.AtPlaces.{signatures_keep}

module _ (n : ℕ) (target : List AssetOutcome) (valid : IsOutcome target) where
  -- what is proposed is the target
  proposes : (k : ℕ) (q : List AssetOutcome) → In q (listed (proposed (data_of (record { votes = k; proposal = outcome target })))) → q ≡ target
  proposes k q = by_votes (eqb k 0)
    where
      by_limit : (t : Bool) → In q (listed (cond t (result_ok (outcome_of (outcome target))) None)) → q ≡ target
      by_limit false i = absurd i
      by_limit true i =
          one (subst (λ (x : Result (List AssetOutcome) ByteFault). In q (listed (result_ok x))) (valid_again outcome_format target valid) i)
        where
          one : (q ≡ target) ⊎ ⊥ → q ≡ target
          one (inl e) = e
          one (inr e) = absurd e

      by_votes : (t : Bool) → In q (listed (proposed (cond t [] (k ∷ outcome target)))) → q ≡ target
      by_votes true i = absurd i
      by_votes false i = by_limit (leb 1 k && leb k 3) i

  abbrev ends : Move → List (List AssetOutcome)
  ends m = m.outcome ∷ listed (proposed (data_of m.ballot))

  rests : (o q : List AssetOutcome) → In q (ends (record { outcome = o; ballot = no_votes })) → q ≡ o
  rests o q (inl e) = e
  rests o q (inr i) = absurd i

  opens : (o q : List AssetOutcome) (k : ℕ) → In q (ends (record { outcome = o; ballot = record { votes = k; proposal = outcome target } })) → (q ≡ o) ⊎ (q ≡ target)
  opens o q k (inl e) = inl e
  opens o q k (inr i) = inr (proposes k q i)

  on_move : (o : List AssetOutcome) (b : Ballot) (settled : Bool) (m : Move) → wanted_move n target o b settled ≡ Some m → (q : List AssetOutcome) → In q (ends m) → (q ≡ o) ⊎ (q ≡ target)
  on_move o b settled m e q i = by_votes (eqb b.votes 0) (bytes_eq b.proposal (outcome target)) (eqb b.votes 1) (is_same_outcome o target) settled e
    where
      as_is : (x : Move) → ◌≡◌ {A = Option Move} (Some x) (Some m) → In q (ends x)
      as_is x h = subst (λ (y : Move). In q (ends y)) (sym (same x h)) i
        where
          same : (x : Move) → ◌≡◌ {A = Option Move} (Some x) (Some m) → x ≡ m
          same x h = cc

      by_votes : (none same one there settled : Bool) →
          cond (not none) (cond same (Some (cond one (record { outcome = target; ballot = no_votes }) (record { outcome = o; ballot = record { votes = b.votes - 1; proposal = outcome target } }))) (Some (record { outcome = o; ballot = no_votes }))) (cond (not there) (Some (record { outcome = o; ballot = record { votes = n - 1; proposal = outcome target } })) (cond settled None (Some (record { outcome = o; ballot = no_votes })))) ≡ Some m →
          (q ≡ o) ⊎ (q ≡ target)
      by_votes true same one true true h = absurd cc
      by_votes true same one true false h = inl (rests o q (as_is _ h))
      by_votes true same one false settled h = opens o q (n - 1) (as_is _ h)
      by_votes false false one there settled h = inl (rests o q (as_is _ h))
      by_votes false true true there settled h = inr (rests target q (as_is _ h))
      by_votes false true false there settled h = opens o q (b.votes - 1) (as_is _ h)

  on_state : (s : StateParts) (own : Option StateParts) (t : StateParts) → wanted_toward n target s own ≡ Some t → (q : List AssetOutcome) → In q (outcomes_of t) → (q ≡ s.outcome) ⊎ (q ≡ target)
  unfolding wanted_toward
  on_state s own t e q i = by_end (s.is_final || eqb s.turn (2 ^ 48 - 1)) e
    where
      by_move : (w : Option Move) → wanted_on n target s (is_settled n target own) (ballot_of n s.app_bytes) ≡ w → option_map (moved s) w ≡ Some t → (q ≡ s.outcome) ⊎ (q ≡ target)
      by_move None f h = absurd cc
      by_move (Some m) f h = by_ballot (ballot_of n s.app_bytes) f
        where
          same : ◌≡◌ {A = Option StateParts} (Some (moved s m)) (Some t) → moved s m ≡ t
          same h = cc

          by_ballot : (b : Option Ballot) → wanted_on n target s (is_settled n target own) b ≡ Some m → (q ≡ s.outcome) ⊎ (q ≡ target)
          by_ballot None g = absurd cc
          by_ballot (Some b) g = on_move s.outcome b (is_settled n target own) m g q (subst (λ (x : StateParts). In q (outcomes_of x)) (sym (same h)) i)

      by_end : (z : Bool) → cond z None (option_map (moved s) (wanted_on n target s (is_settled n target own) (ballot_of n s.app_bytes))) ≡ Some t → (q ≡ s.outcome) ⊎ (q ≡ target)
      by_end true h = absurd cc
      by_end false h = by_move (wanted_on n target s (is_settled n target own) (ballot_of n s.app_bytes)) refl h

pub moves_end : MovesEndAsWanted
moves_end n target valid s own t e o i = on_state n target valid s own t e o i

-- what the channel can end with after a signature is what the state can
pub possible-signed : (r : Rules) (past : List Entry) (front : List Line) (f : FixedParts) (state : StateParts) (signature : List ℕ) (adds : List FixedParts) →
    is_final (mode r (r.named f) past) ≡ false → (o : List AssetOutcome) → In o (possible r past (signing r past f state signature adds ∷ front) f) → In o (outcomes_of state)
possible-signed r past front f state signature adds going o i =
    by_held (is_held r f (held r f past (signing r past f state signature adds ∷ front)))
    (subst (λ (t : Bool). In o (cond (is_held r f (held r f past (signing r past f state signature adds ∷ front)))
    (possible_after t (rest_of_channel r (r.named f) past) (last_made (r.named f) (signing r past f state signature adds ∷ front))) [])) going i)
  where
    last : last_made (r.named f) (signing r past f state signature adds ∷ front) ≡ Some (record { state = state; signature = signature })
    last = ap (λ (t : Bool). option_or (some_if t (record { state = state; signature = signature })) (last_made (r.named f) front)) (bytes_eq_self (r.named f))

    by_held : (t : Bool) → In o (cond t (possible_after false (rest_of_channel r (r.named f) past) (last_made (r.named f) (signing r past f state signature adds ∷ front))) []) → In o (outcomes_of state)
    by_held true j = subst (λ (x : Option Signed). In o (possible_after false (rest_of_channel r (r.named f) past) x)) last j
    by_held false j = absurd j

pub votes_keep : VotesKeepShares
votes_keep r me orders past front f n target s own state signature adds mine ok funded going holds valid wanted could fair =
    signatures_keep r me orders past front f state signature adds mine ok funded holds
    (λ o i. inr (λ asset. one o asset (moves_end n target valid s own state wanted o (possible-signed r past front f state signature adds going o i))))
  where
    one : (o : List AssetOutcome) (asset : ℕ) → (o ≡ s.outcome) ⊎ (o ≡ target) → IsFairAt r me orders past front f asset o
    one o asset (inl e) = record {
      from = s.outcome;
      could = could;
      list = ap (λ (q : List AssetOutcome). list_in asset q) e;
      fair = λ taken is. stays (ap (λ (q : List AssetOutcome). items_in asset q) (e ∙ sym is));
    }
    one o asset (inr e) = subst (λ (q : List AssetOutcome). IsFairAt r me orders past front f asset q) (sym e) (fair asset)
