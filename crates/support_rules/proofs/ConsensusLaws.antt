-- From a state on, fewer than n consensus moves end in its outcome or in its proposal: a new proposal takes n moves.
use Rattle.std.proofs.Common.{◌≡◌, ℕ, suc, ◌+◌, ◌-◌, ◌<◌, ◌≤◌, Bool, true, false, not, ◌&&◌, eqb, List, refl, sym, subst, inl, inr, arith}
use Rattle.std.specs.Prelude.{Option, Some, None, ◌⊎◌}
use Rattle.std.specs.Str.{bytes_eq}
use Rattle.std.proofs.lemmas.Bool.Decides.{Decides-eqb, nat_tests}
use Rattle.std.proofs.lemmas.Slice.Eq.{bytes_eq-Decides}
use Rattle.channel_values.specs.declared.value.AssetOutcome.{AssetOutcome}
use Rattle.channel_values.specs.Outcomes.{IsOutcome}
use Rattle.channel_values.specs.Spelling.{outcome}
use Rattle.channel_values.proofs.Format.{spelled_once}
use Rattle.channel_values.proofs.Formats.{outcome_format}
use Rattle.channel_values.specs.declared.fault.StepFault.TheVariants as faults
use Rattle.channel_values.specs.Words.{fault_if, ◌⊳◌}
use Rattle.support_rules.specs.Ballots.{Ballot}
use Rattle.support_rules.specs.Rules.{is_same_outcome, is_vote, is_move, is_final_vote, move_fault, ballots_fault}
use Rattle.channel_values.proofs.Lines.{both_none, unbroken, not_not, and_true, and_false, or_true}

pub same_outcome : (a b : List AssetOutcome) → IsOutcome a → IsOutcome b → is_same_outcome a b ≡ true → a ≡ b
same_outcome a b ha hb e = spelled_once outcome_format a b ha hb ((bytes_eq-Decides (outcome a) (outcome b)).0 e)

-- the bytes are what the ballot proposes, and it has votes
pub record IsProposed (o : Option Ballot) (bytes : List ℕ) : Type 0 where
  pub ballot : Ballot
  pub is_there : o ≡ Some ballot
  pub votes : 0 < ballot.votes
  pub proposal : ballot.proposal ≡ bytes

-- an outcome that was there or was proposed at first
abbrev pub OutcomeKept : Option Ballot → List AssetOutcome → List AssetOutcome → Type 0
OutcomeKept first before o = (o ≡ before) ⊎ IsProposed first (outcome o)

-- after i moves: no votes, the first proposal, or one that more moves are wanted for than are left
abbrev pub BallotKept : ℕ → Option Ballot → ℕ → Option Ballot → Type 0
BallotKept n first i None = Unit {0}
BallotKept n first i (Some b) = ((b.votes ≡ 0) ⊎ IsProposed first b.proposal) ⊎ (n ≤ b.votes + i)

move_cases : (n k l : ℕ) → is_move n k l ≡ true → ((l ≡ 0) ⊎ ((k ≡ 0) × (l ≡ n - 1))) ⊎ (is_vote k l ≡ true)
move_cases n k l h = grind (arith, nat_tests, or_true, and_true)

vote_means : (k l : ℕ) → is_vote k l ≡ true → (2 ≤ k) × (l + 1 ≡ k)
vote_means k l h = grind (arith, nat_tests, and_true)

pub ballot_later : (n : ℕ) (first : Option Ballot) (i : ℕ) (b : Option Ballot) → BallotKept n first i b → BallotKept n first (suc i) b
ballot_later n first i None h = tt
ballot_later n first i (Some b) (inl h) = inl h
ballot_later n first i (Some b) (inr h) = inr (omega arith)

module _ (n : ℕ) (first : Option Ballot) (was : List AssetOutcome) (i : ℕ) (left : suc i < n) (a b : Ballot) (o p : List AssetOutcome) (ho : IsOutcome o) (hp : IsOutcome p) where
  votes_kept : ((b.votes ≡ 0) ⊎ ((a.votes ≡ 0) × (b.votes ≡ n - 1))) ⊎ (is_vote a.votes b.votes ≡ true) → (is_vote a.votes b.votes ≡ true → a.proposal ≡ b.proposal) → BallotKept n first i (Some a) → BallotKept n first (suc i) (Some b)
  votes_kept (inl (inl e)) same k = inl (inl e)
  votes_kept (inl (inr e)) same k = inr (omega arith)
  votes_kept (inr v) same (inl (inl e)) = absurd (let m = vote_means a.votes b.votes v in omega arith)
  votes_kept (inr v) same (inl (inr q)) = inl (inr (subst (λ (bytes : List ℕ). IsProposed first bytes) (same v) q))
  votes_kept (inr v) same (inr q) = inr (let m = vote_means a.votes b.votes v in omega arith)

  outcome_kept : (is_same_outcome o p ≡ true) ⊎ (is_final_vote a b p ≡ true) → BallotKept n first i (Some a) → OutcomeKept first was o → OutcomeKept first was p
  outcome_kept (inl e) k kept = subst (λ (q : List AssetOutcome). OutcomeKept first was q) (same_outcome o p ho hp e) kept
  outcome_kept (inr e) k kept =
      let x = and_true (eqb a.votes 1 && eqb b.votes 0) (bytes_eq (outcome p) a.proposal) e in
      let y = and_true (eqb a.votes 1) (eqb b.votes 0) x.0 in
      let one = (Decides-eqb a.votes 1).0 y.0 in
      let same = (bytes_eq-Decides (outcome p) a.proposal).0 x.1 in
      by_ballot one same k
    where
      by_ballot : a.votes ≡ 1 → outcome p ≡ a.proposal → BallotKept n first i (Some a) → OutcomeKept first was p
      by_ballot one same (inl (inl e)) = absurd (omega arith)
      by_ballot one same (inl (inr q)) = inr (subst (λ (bytes : List ℕ). IsProposed first bytes) (sym same) q)
      by_ballot one same (inr q) = absurd (omega arith)

  pub move_kept : move_fault n a b o p ≡ None → BallotKept n first i (Some a) → OutcomeKept first was o → BallotKept n first (suc i) (Some b) × OutcomeKept first was p
  move_kept h k kept =
      let l1 = both_none (fault_if (not (is_move n a.votes b.votes)) faults.Votes) (fault_if (is_vote a.votes b.votes && not (bytes_eq a.proposal b.proposal)) faults.Proposal ⊳ fault_if (not (is_same_outcome o p) && not (is_final_vote a b p)) faults.Outcome) h in
      let l2 = both_none (fault_if (is_vote a.votes b.votes && not (bytes_eq a.proposal b.proposal)) faults.Proposal) (fault_if (not (is_same_outcome o p) && not (is_final_vote a b p)) faults.Outcome) l1.1 in
      let moves = not_not (is_move n a.votes b.votes) (unbroken (not (is_move n a.votes b.votes)) faults.Votes l1.0) in
      let stays = unbroken (is_vote a.votes b.votes && not (bytes_eq a.proposal b.proposal)) faults.Proposal l2.0 in
      let turns = unbroken (not (is_same_outcome o p) && not (is_final_vote a b p)) faults.Outcome l2.1 in
      (votes_kept (move_cases n a.votes b.votes moves) (same_proposal (is_vote a.votes b.votes) (bytes_eq a.proposal b.proposal) stays (bytes_eq-Decides a.proposal b.proposal).0) k, outcome_kept (either (and_false (not (is_same_outcome o p)) (not (is_final_vote a b p)) turns)) k kept)
    where
      same_proposal : (v e : Bool) → (v && not e) ≡ false → (e ≡ true → a.proposal ≡ b.proposal) → v ≡ true → a.proposal ≡ b.proposal
      same_proposal true true h f g = f refl
      same_proposal true false h f g = absurd cc
      same_proposal false e h f g = absurd cc

      either : (not (is_same_outcome o p) ≡ false) ⊎ (not (is_final_vote a b p) ≡ false) → (is_same_outcome o p ≡ true) ⊎ (is_final_vote a b p ≡ true)
      either (inl h) = inl (not_not (is_same_outcome o p) h)
      either (inr h) = inr (not_not (is_final_vote a b p) h)

pub ballots_kept : (n : ℕ) (first : Option Ballot) (was : List AssetOutcome) (i : ℕ) → suc i < n → (a b : Option Ballot) (o p : List AssetOutcome) → IsOutcome o → IsOutcome p → ballots_fault n a b o p ≡ None → BallotKept n first i a → OutcomeKept first was o → BallotKept n first (suc i) b × OutcomeKept first was p
ballots_kept n first was i left None b o p ho hp h k kept = absurd cc
ballots_kept n first was i left (Some a) None o p ho hp h k kept = absurd cc
ballots_kept n first was i left (Some a) (Some b) o p ho hp h k kept = move_kept n first was i left a b o p ho hp h k kept
