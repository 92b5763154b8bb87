-- What is wanted toward an outcome is a step.
use Rattle.std.proofs.Common.{◌≡◌, ◌≢◌, ℕ, suc, ◌-◌, ◌<◌, ◌≤◌, ◌^◌, Bool, true, false, not, ◌&&◌, ◌||◌, cond, eqb, leb, ltb, List, [], ◌∷◌, Result, refl, sym, ap, subst, inl, inr, arith}
use Rattle.std.specs.Prelude.{Option, Some, None, ◌⊎◌, is_ok}
use Rattle.std.specs.Option.{option_map}
use Rattle.std.specs.Str.{bytes_eq}
use Rattle.std.proofs.lemmas.Bool.Decides.{nat_tests, eqb_tells}
use Rattle.std.proofs.lemmas.Slice.Eq.{bytes_eq-Decides}
use Rattle.channel_values.specs.declared.fault.ByteFault.{ByteFault}
use Rattle.channel_values.specs.declared.value.AssetOutcome.{AssetOutcome}
use Rattle.channel_values.specs.Parts.{StateParts}
use Rattle.channel_values.specs.Outcomes.{IsOutcome}
use Rattle.channel_values.specs.Spelling.{outcome}
use Rattle.channel_values.specs.Reading.{outcome_of}
use Rattle.channel_values.proofs.Format.{valid_again}
use Rattle.channel_values.proofs.Formats.{outcome_format}
use Rattle.channel_values.specs.declared.fault.StepFault.TheVariants as faults
use Rattle.channel_values.specs.Words.{fault_if, ◌⊳◌}
use Rattle.support_rules.specs.Ballots.{Ballot, ballot_of, data_of}
use Rattle.support_rules.specs.Rules.{is_same_outcome, is_move, is_vote, is_final_vote, move_fault, ballots_fault}
use Rattle.support_rules.specs.Toward.{Move, no_votes, wanted_move, moved, wanted_on, wanted_toward, is_settled, WantedIsStep}

same_ballot : (x y : Ballot) → ◌≡◌ {A = Option Ballot} (Some x) (Some y) → x ≡ y
same_ballot x y e = cc

same_bytes : (a : List ℕ) → bytes_eq a a ≡ true
same_bytes a = (bytes_eq-Decides a a).1 refl

-- the three lines of the table hold
lines_hold : (m v p s f : Bool) → m ≡ true → (v ≡ true → p ≡ true) → (s ≡ true) ⊎ (f ≡ true) → (fault_if (not m) faults.Votes ⊳ fault_if (v && not p) faults.Proposal ⊳ fault_if (not s && not f) faults.Outcome) ≡ None
lines_hold false v p s f e g h = absurd cc
lines_hold true true true true f e g h = refl
lines_hold true true true false true e g h = refl
lines_hold true true true false false e g (inl h) = absurd cc
lines_hold true true true false false e g (inr h) = absurd cc
lines_hold true true false s f e g h = absurd (let x = g refl in cc)
lines_hold true false p true f e g h = refl
lines_hold true false p false true e g h = refl
lines_hold true false p false false e g (inl h) = absurd cc
lines_hold true false p false false e g (inr h) = absurd cc

moves_to_none : (n k : ℕ) → is_move n k 0 ≡ true
moves_to_none n k = grind (arith, nat_tests)

no_vote_to_none : (k : ℕ) → is_vote k 0 ≡ true → ⊥
no_vote_to_none k h = grind (arith, nat_tests)

-- no votes are wanted any more, and the outcome stays
calm : (n : ℕ) (a : Ballot) (o : List AssetOutcome) → move_fault n a no_votes o o ≡ None
calm n a o = lines_hold (is_move n a.votes 0) (is_vote a.votes 0) (bytes_eq a.proposal []) (is_same_outcome o o) (is_final_vote a no_votes o) (moves_to_none n a.votes) (λ h. absurd (no_vote_to_none a.votes h)) (inl (same_bytes (outcome o)))

ballot_back : (n : ℕ) (b : Ballot) → 1 ≤ b.votes → b.votes < n → is_ok (outcome_of b.proposal) ≡ true → ballot_of n (data_of b) ≡ Some b
ballot_back n b h k e = some_votes (eqb b.votes 0) (other b.votes 0 (λ z. absurd (omega arith)))
  where
    other : (x y : ℕ) → x ≢ y → eqb x y ≡ false
    other x y z = grind (arith, nat_tests)

    all_three : (x y z : Bool) → x ≡ true → y ≡ true → z ≡ true → cond (x && y && z) (Some b) None ≡ Some b
    all_three true true true p q r = refl
    all_three true true false p q r = absurd cc
    all_three true false z p q r = absurd cc
    all_three false y z p q r = absurd cc

    at_least : (x y : ℕ) → x ≤ y → leb x y ≡ true
    at_least x y z = grind (arith, nat_tests)

    some_votes : (t : Bool) → t ≡ false → ballot_of n (cond t [] (b.votes ∷ b.proposal)) ≡ Some b
    some_votes true z = absurd cc
    some_votes false z = all_three (leb 1 b.votes) (ltb b.votes n) (is_ok (outcome_of b.proposal)) (at_least 1 b.votes h) (at_least (suc b.votes) n k) e

ballot_none : (n : ℕ) → ballot_of n (data_of no_votes) ≡ Some no_votes
ballot_none n = refl

reads : (target : List AssetOutcome) → IsOutcome target → is_ok (outcome_of (outcome target)) ≡ true
reads target h = ap (λ (r : Result (List AssetOutcome) ByteFault). is_ok r) (valid_again outcome_format target h)

-- the ballots of data that were read have fewer than n votes
ballot_fits : (n : ℕ) (bytes : List ℕ) (b : Ballot) → ballot_of n bytes ≡ Some b → b.votes ≡ 0 ⊎ b.votes < n
ballot_fits n [] b e = inl (ap (λ (x : Ballot). x.votes) (sym (same_ballot no_votes b e)))
ballot_fits n (k ∷ bytes) b e = tested (leb 1 k) (ltb k n) (is_ok (outcome_of bytes)) refl e
  where
    below : (x y : ℕ) → ltb x y ≡ true → x < y
    below x y z = grind (arith, nat_tests)

    tested : (x y z : Bool) → ltb k n ≡ y → cond (x && y && z) (Some (record { votes = k; proposal = bytes })) None ≡ Some b → b.votes ≡ 0 ⊎ b.votes < n
    tested true true true q e = inr (subst (λ (x : ℕ). x < n) (ap (λ (x : Ballot). x.votes) (same_ballot (record { votes = k; proposal = bytes }) b e)) (below k n q))
    tested true true false q e = absurd cc
    tested true false z q e = absurd cc
    tested false y z q e = absurd cc

zero_move : (n k : ℕ) → k ≡ 0 → is_move n k (n - 1) ≡ true
zero_move n k e = grind (arith, nat_tests)

zero_vote : (k l : ℕ) → k ≡ 0 → is_vote k l ≡ true → ⊥
zero_vote k l e h = grind (arith, nat_tests)

vote_move : (n k : ℕ) → 2 ≤ k → is_move n k (k - 1) ≡ true
vote_move n k e = grind (arith, nat_tests)

module _ (n : ℕ) (several : 2 ≤ n) (target : List AssetOutcome) (valid : IsOutcome target) (o : List AssetOutcome) (b : Ballot) (few : b.votes ≡ 0 ⊎ b.votes < n) where
  -- a ballot that reads back, by a move that is one
  proposes : (k : ℕ) → 1 ≤ k → k < n → ballot_of n (data_of (record { votes = k; proposal = outcome target })) ≡ Some (record { votes = k; proposal = outcome target })
  proposes k h l = ballot_back n (record { votes = k; proposal = outcome target }) h l (reads target valid)

  moves_as : (m x : Move) → m ≡ x → ballots_fault n (Some b) (ballot_of n (data_of x.ballot)) o x.outcome ≡ None → ballots_fault n (Some b) (ballot_of n (data_of m.ballot)) o m.outcome ≡ None
  moves_as m x e h = subst (λ (y : Move). ballots_fault n (Some b) (ballot_of n (data_of y.ballot)) o y.outcome ≡ None) (sym e) h

  proposed : b.votes ≡ 0 → ballots_fault n (Some b) (ballot_of n (data_of (record { votes = n - 1; proposal = outcome target }))) o o ≡ None
  proposed z =
      let a : Ballot = record { votes = n - 1; proposal = outcome target } in
      subst (λ (x : Option Ballot). ballots_fault n (Some b) x o o ≡ None) (sym (proposes (n - 1) (omega arith) (omega arith)))
      (lines_hold (is_move n b.votes (n - 1)) (is_vote b.votes (n - 1)) (bytes_eq b.proposal (outcome target)) (is_same_outcome o o) (is_final_vote b a o) (zero_move n b.votes z) (λ h. absurd (zero_vote b.votes (n - 1) z h)) (inl (same_bytes (outcome o))))

  last_vote : b.votes ≡ 1 → bytes_eq b.proposal (outcome target) ≡ true → ballots_fault n (Some b) (Some no_votes) o target ≡ None
  last_vote z q =
      let p : b.proposal ≡ outcome target = (bytes_eq-Decides b.proposal (outcome target)).0 q in
      lines_hold (is_move n b.votes 0) (is_vote b.votes 0) (bytes_eq b.proposal []) (is_same_outcome o target) (is_final_vote b no_votes target) (moves_to_none n b.votes) (λ h. absurd (no_vote_to_none b.votes h)) (inr (final (eqb b.votes 1) (bytes_eq (outcome target) b.proposal) (one b.votes z) ((bytes_eq-Decides (outcome target) b.proposal).1 (sym p))))
    where
      one : (x : ℕ) → x ≡ 1 → eqb x 1 ≡ true
      one x e = grind (arith, nat_tests)

      final : (x y : Bool) → x ≡ true → y ≡ true → (x && true && y) ≡ true
      final true true e f = refl
      final true false e f = absurd cc
      final false y e f = absurd cc

  votes_on : 2 ≤ b.votes → b.votes < n → bytes_eq b.proposal (outcome target) ≡ true → ballots_fault n (Some b) (ballot_of n (data_of (record { votes = b.votes - 1; proposal = outcome target }))) o o ≡ None
  votes_on z l q =
      let a : Ballot = record { votes = b.votes - 1; proposal = outcome target } in
      subst (λ (x : Option Ballot). ballots_fault n (Some b) x o o ≡ None) (sym (proposes (b.votes - 1) (omega arith) (omega arith)))
      (lines_hold (is_move n b.votes (b.votes - 1)) (is_vote b.votes (b.votes - 1)) (bytes_eq b.proposal (outcome target)) (is_same_outcome o o) (is_final_vote b a o) (vote_move n b.votes z) (λ h. q) (inl (same_bytes (outcome o))))

  pub on_move : (settled : Bool) (m : Move) → wanted_move n target o b settled ≡ Some m → ballots_fault n (Some b) (ballot_of n (data_of m.ballot)) o m.outcome ≡ None
  on_move settled m e = by_votes (eqb b.votes 0) (eqb_tells b.votes 0) (bytes_eq b.proposal (outcome target)) refl (eqb b.votes 1) (eqb_tells b.votes 1) (is_same_outcome o target) settled m e
    where
      rests : (m : Move) → m ≡ record { outcome = o; ballot = no_votes } → ballots_fault n (Some b) (ballot_of n (data_of m.ballot)) o m.outcome ≡ None
      rests m e = subst (λ (x : Move). ballots_fault n (Some b) (ballot_of n (data_of x.ballot)) o x.outcome ≡ None) (sym e) (calm n b o)

      by_votes : (none : Bool) → ((none ≡ true) × (b.votes ≡ 0)) ⊎ ((none ≡ false) × (b.votes ≢ 0)) → (same : Bool) → bytes_eq b.proposal (outcome target) ≡ same → (one : Bool) → ((one ≡ true) × (b.votes ≡ 1)) ⊎ ((one ≡ false) × (b.votes ≢ 1)) → (there settled : Bool) (m : Move) →
          cond (not none) (cond same (Some (cond one (record { outcome = target; ballot = no_votes }) (record { outcome = o; ballot = record { votes = b.votes - 1; proposal = outcome target } }))) (Some (record { outcome = o; ballot = no_votes }))) (cond (not there) (Some (record { outcome = o; ballot = record { votes = n - 1; proposal = outcome target } })) (cond settled None (Some (record { outcome = o; ballot = no_votes })))) ≡ Some m →
          ballots_fault n (Some b) (ballot_of n (data_of m.ballot)) o m.outcome ≡ None
      by_votes true z same q one w true true m e = absurd cc
      by_votes true z same q one w true false m e = rests m cc
      by_votes true (inl z) same q one w false settled m e = moves_as m (record { outcome = o; ballot = record { votes = n - 1; proposal = outcome target } }) (cc) (proposed z.1)
      by_votes true (inr z) same q one w false settled m e = absurd (let f = z.0 in cc)
      by_votes false z false q one w there settled m e = rests m cc
      by_votes false z true q true (inl w) there settled m e = moves_as m (record { outcome = target; ballot = no_votes }) (cc) (last_vote w.1 q)
      by_votes false z true q true (inr w) there settled m e = absurd (let f = w.0 in cc)
      by_votes false (inl z) true q false w there settled m e = absurd (let f = z.0 in cc)
      by_votes false (inr z) true q false (inl w) there settled m e = absurd (let f = w.0 in cc)
      by_votes false (inr z) true q false (inr w) there settled m e = moves_as m (record { outcome = o; ballot = record { votes = b.votes - 1; proposal = outcome target } }) (cc) (votes_on (let a = z.1 in let c = w.1 in omega arith) (elim few [ inl x ↦ absurd (z.1 x) | inr x ↦ x ]) q)

mapped : {A B : Type 0} (f : A → B) (o : Option A) (y : B) → option_map f o ≡ Some y → (x : A) × (o ≡ Some x) × (f x ≡ y)
mapped f None y h = absurd cc
mapped f (Some x) y h = (x, refl, cc)

unless : (b : Bool) (x : Option StateParts) (t : StateParts) → cond b None x ≡ Some t → x ≡ Some t
unless true x t h = absurd cc
unless false x t h = h

pub wanted_is_step : WantedIsStep
unfolding wanted_toward
wanted_is_step n several target valid s own t h =
    let settled = is_settled n target own in
    let e = unless (s.is_final || eqb s.turn (2 ^ 48 - 1)) (option_map (moved s) (wanted_on n target s (is_settled n target own) (ballot_of n s.app_bytes))) t h in
    by_ballot (ballot_of n s.app_bytes) refl (mapped (moved s) (wanted_on n target s (is_settled n target own) (ballot_of n s.app_bytes)) t e)
  where
    by_ballot : (b : Option Ballot) → ballot_of n s.app_bytes ≡ b → (m : Move) × (wanted_on n target s (is_settled n target own) b ≡ Some m) × (moved s m ≡ t) → ballots_fault n b (ballot_of n t.app_bytes) s.outcome t.outcome ≡ None
    by_ballot None e w = absurd (let x = w.1 in cc)
    by_ballot (Some b) e w =
        subst (λ (x : StateParts). ballots_fault n (Some b) (ballot_of n x.app_bytes) s.outcome x.outcome ≡ None) w.2
        (on_move n several target valid s.outcome b (ballot_fits n s.app_bytes b e) (is_settled n target own) w.0 w.1)
