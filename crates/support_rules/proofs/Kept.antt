-- What fewer than n steps of others keep for a participant.
use Rattle.std.proofs.Common.{◌≡◌, ◌≢◌, ℕ, zero, suc, ◌+◌, ◌<◌, ◌≤◌, Bool, true, false, not, ◌&&◌, ◌||◌, cond, eqb, List, [], ◌∷◌, length, map, Result, Ok, refl, sym, ap, subst, ◌∙◌, inl, inr, arith}
use Rattle.std.specs.Prelude.{Option, Some, None, ◌⊎◌}
use Rattle.std.specs.List.{AllByRecursion}
use Rattle.std.specs.Str.{bytes_eq}
use Rattle.std.proofs.lemmas.Bool.Decides.{nat_tests}
use Rattle.std.proofs.lemmas.Slice.Eq.{bytes_eq-Decides}
use Rattle.channel_values.specs.declared.value.Dest.{Dest}
use Rattle.channel_values.specs.declared.value.AssetOutcome.{AssetOutcome}
use Rattle.channel_values.specs.declared.fault.ByteFault.{ByteFault}
use Rattle.channel_values.specs.Parts.{FixedParts, StateParts, IsState}
use Rattle.channel_values.specs.Outcomes.{IsOutcome}
use Rattle.channel_values.specs.Spelling.{outcome}
use Rattle.channel_values.specs.Reading.{outcome_of}
use Rattle.channel_values.proofs.Format.{valid_again}
use Rattle.channel_values.proofs.Formats.{outcome_format}
use Rattle.channel_values.specs.Digests.{name_of_person}
use Rattle.channel_values.specs.declared.fault.StepFault.{StepFault}
use Rattle.channel_values.specs.declared.fault.StepFault.TheVariants as faults
use Rattle.channel_values.specs.Words.{fault_if, ◌⊳◌}
use Rattle.support_rules.specs.Ballots.{Ballot, ballot_of}
use Rattle.support_rules.specs.Rules.{is_same_outcome, consensus_fault, payment_fault, fixed_fault, app_fault, person_at}
use Rattle.channel_values.specs.Rows.{mover, last_of}
use Rattle.channel_values.specs.Supported.{AreSteps}
use Rattle.support_rules.specs.Steps.{persons, is_set_up, repeat_fault, step_fault}
use Rattle.support_rules.specs.Real.{real}
use Rattle.support_rules.specs.NoWorse.{NoWorse}
use Rattle.support_rules.specs.May.{read_or_none, proposed, may, OneOf, Ends, StepsKeepMay}
use Rattle.channel_values.proofs.Lines.{both_none, unbroken, not_not}
use Rattle.support_rules.proofs.ConsensusLaws.{same_outcome, IsProposed, OutcomeKept, BallotKept, ballot_later, ballots_kept}
use Rattle.support_rules.proofs.PaymentLaws.{no_worse_again, no_worse_twice, payment_better}

-- the state before again, but for the turn and whether it is final
pub record Repeats (s t : StateParts) : Type 0 where
  pub app_bytes : s.app_bytes ≡ t.app_bytes
  pub outcome : s.outcome ≡ t.outcome

pub repeats : (s t : StateParts) → IsState s → IsState t → repeat_fault s t ≡ None → Repeats s t
repeats s t hs ht h =
    let l = both_none (fault_if (not (bytes_eq s.app_bytes t.app_bytes)) faults.Data) (fault_if (not (is_same_outcome s.outcome t.outcome)) faults.Outcome) h in
    record {
      app_bytes = (bytes_eq-Decides s.app_bytes t.app_bytes).0 (not_not _ (unbroken (not (bytes_eq s.app_bytes t.app_bytes)) faults.Data l.0));
      outcome = same_outcome s.outcome t.outcome hs.outcome ht.outcome (not_not _ (unbroken (not (is_same_outcome s.outcome t.outcome)) faults.Outcome l.1));
    }

either_none : (b : Bool) (x y : Option StepFault) → cond b x y ≡ None → (x ≡ None) ⊎ (y ≡ None)
either_none true x y h = inl h
either_none false x y h = inr h

-- a step repeats a state, or is one of the application
pub step_means : (f : FixedParts) (s t : StateParts) → IsState s → IsState t → step_fault f s t ≡ None → Repeats s t ⊎ (app_fault f.app (persons f) (mover (length f.keys) t.turn) s t ≡ None)
unfolding step_fault
step_means f s t hs ht h =
    let n : ℕ = length f.keys in
    let app = app_fault f.app (persons f) (mover (length f.keys) t.turn) s t in
    let rest = cond (is_set_up (length f.keys) t.turn || t.is_final) (repeat_fault s t) (app_fault f.app (persons f) (mover (length f.keys) t.turn) s t) in
    let l = both_none (fault_if (s.is_final && not t.is_final) faults.AfterFinal) (fault_if (t.is_final && is_set_up (length f.keys) t.turn) faults.EarlyFinal ⊳ rest) h in
    let m = both_none (fault_if (t.is_final && is_set_up (length f.keys) t.turn) faults.EarlyFinal) rest l.1 in
    elim (either_none (is_set_up (length f.keys) t.turn || t.is_final) (repeat_fault s t) app m.1) [
      | inl e ↦ inl (repeats s t hs ht e)
      | inr e ↦ inr e
    ]

differ : (a b : ℕ) → a ≢ b → eqb a b ≡ false
differ a b h = grind (arith, nat_tests)

third : (a b : Bool) (x y z : Option StepFault) → a ≡ false → b ≡ false → cond a x (cond b y z) ≡ None → z ≡ None
third true b x y z e f h = absurd cc
third false true x y z e f h = absurd cc
third false false x y z e f h = h

length_map : (xs : List (List ℕ)) → length (map name_of_person xs) ≡ length xs
length_map [] = refl
length_map (x ∷ xs) = ap suc (length_map xs)

-- ---- consensus

module _ (f : FixedParts) (app : f.app ≡ 0) (first : Option Ballot) (was : List AssetOutcome) where
  consensus_step : (i : ℕ) → suc i < length f.keys → (s t : StateParts) → IsState s → IsState t → step_fault f s t ≡ None → BallotKept (length f.keys) first i (ballot_of (length f.keys) s.app_bytes) → OutcomeKept first was s.outcome → BallotKept (length f.keys) first (suc i) (ballot_of (length f.keys) t.app_bytes) × OutcomeKept first was t.outcome
  unfolding app_fault
  consensus_step i left s t hs ht h k kept = by_kind (step_means f s t hs ht h)
    where
      by_kind : Repeats s t ⊎ (app_fault f.app (persons f) (mover (length f.keys) t.turn) s t ≡ None) → BallotKept (length f.keys) first (suc i) (ballot_of (length f.keys) t.app_bytes) × OutcomeKept first was t.outcome
      by_kind (inl r) = (
        subst (λ (bytes : List ℕ). BallotKept (length f.keys) first (suc i) (ballot_of (length f.keys) bytes)) r.app_bytes (ballot_later (length f.keys) first i (ballot_of (length f.keys) s.app_bytes) k),
        subst (λ (o : List AssetOutcome). OutcomeKept first was o) r.outcome kept,
      )
      by_kind (inr e) =
          let e1 : consensus_fault (length (persons f)) s t ≡ None = subst (λ (a : ℕ). app_fault a (persons f) (mover (length f.keys) t.turn) s t ≡ None) app e in
          let e2 : consensus_fault (length f.keys) s t ≡ None = subst (λ (a : ℕ). consensus_fault a s t ≡ None) (length_map f.keys) e1 in
          ballots_kept (length f.keys) first was i left (ballot_of (length f.keys) s.app_bytes) (ballot_of (length f.keys) t.app_bytes) s.outcome t.outcome hs.outcome ht.outcome e2 k kept

  consensus_steps : (i : ℕ) (s : StateParts) (ts : List StateParts) → length ts + i < length f.keys → IsState s → AllByRecursion IsState ts → AreSteps real f s ts → BallotKept (length f.keys) first i (ballot_of (length f.keys) s.app_bytes) → OutcomeKept first was s.outcome → OutcomeKept first was (last_of s ts).outcome × IsState (last_of s ts)
  consensus_steps i s [] left hs hts h k kept = (kept, hs)
  consensus_steps i s (t ∷ ts) left hs hts h k kept =
      let p = consensus_step i (omega arith) s t hs hts.0 h.0 k kept in
      consensus_steps (suc i) t ts (omega arith) hts.0 hts.1 h.1 p.0 p.1

at_first : (n : ℕ) (b : Option Ballot) → BallotKept n b 0 b
at_first n None = tt
at_first n (Some b) = by_votes b.votes refl
  where
    by_votes : (v : ℕ) → b.votes ≡ v → BallotKept n (Some b) 0 (Some b)
    by_votes zero e = inl (inl e)
    by_votes (suc v) e = inl (inr (record { ballot = b; is_there = refl; votes = omega arith; proposal = refl }))

-- what is proposed is one of the possible outcomes
among_proposed : (P : List AssetOutcome → Type 0) (b : Option Ballot) (o : List AssetOutcome) → P o → IsOutcome o → IsProposed b (outcome o) → OneOf P (proposed b)
among_proposed P None o here valid q = absurd (let e = q.is_there in cc)
among_proposed P (Some b) o here valid q =
    let e : b ≡ q.ballot = same b q.ballot q.is_there in
    let v : eqb b.votes 0 ≡ false = not_zero b.votes (subst (λ (x : Ballot). 0 < x.votes) (sym e) q.votes) in
    let r : outcome_of b.proposal ≡ Ok o = ap (λ (x : Ballot). outcome_of x.proposal) e ∙ ap outcome_of q.proposal ∙ valid_again outcome_format o valid in
    subst (λ (t : Bool). OneOf P (cond t [] (read_or_none (outcome_of b.proposal)))) (sym v)
    (subst (λ (t : Result (List AssetOutcome) ByteFault). OneOf P (read_or_none t)) (sym r) (inl here))
  where
    same : (x y : Ballot) → Some x ≡ Some y → x ≡ y
    same x y e = cc

    not_zero : (n : ℕ) → 0 < n → eqb n 0 ≡ false
    not_zero n h = differ n 0 (λ e. absurd (omega arith))

-- ---- payment and fixed

module _ (f : FixedParts) (j : ℕ) where
  better_steps : ((s t : StateParts) → IsState s → IsState t → step_fault f s t ≡ None → mover (length f.keys) t.turn ≢ j → NoWorse (person_at (persons f) j) s.outcome t.outcome) →
      (s : StateParts) (ts : List StateParts) → IsState s → AllByRecursion IsState ts → AreSteps real f s ts → AllByRecursion (λ t. mover (length f.keys) t.turn ≢ j) ts → NoWorse (person_at (persons f) j) s.outcome (last_of s ts).outcome
  better_steps one s [] hs hts h others = no_worse_again (person_at (persons f) j) s.outcome
  better_steps one s (t ∷ ts) hs hts h others =
      no_worse_twice (person_at (persons f) j) s.outcome t.outcome (last_of t ts).outcome (one s t hs hts.0 h.0 others.0) (better_steps one t ts hts.0 hts.1 h.1 others.1)

  same_no_worse : (s t : StateParts) → s.outcome ≡ t.outcome → NoWorse (person_at (persons f) j) s.outcome t.outcome
  same_no_worse s t e = subst (λ (o : List AssetOutcome). NoWorse (person_at (persons f) j) s.outcome o) e (no_worse_again (person_at (persons f) j) s.outcome)

  payment_step : f.app ≡ 1 → length f.keys ≡ 2 → j < 2 → (s t : StateParts) → IsState s → IsState t → step_fault f s t ≡ None → mover (length f.keys) t.turn ≢ j → NoWorse (person_at (persons f) j) s.outcome t.outcome
  unfolding app_fault
  payment_step app two me s t hs ht h other = elim (step_means f s t hs ht h) [
    | inl r ↦ same_no_worse s t r.outcome
    | inr e ↦ (
        let e1 : payment_fault (persons f) (mover (length f.keys) t.turn) s t ≡ None = subst (λ (a : ℕ). app_fault a (persons f) (mover (length f.keys) t.turn) s t ≡ None) app e in
        payment_better (persons f) (length_map f.keys ∙ two) (mover (length f.keys) t.turn) j (subst (λ (n : ℕ). mover n t.turn < 2) (sym two) (omega arith)) me other s t e1
        )
  ]

fixed_same : (f : FixedParts) → 2 ≤ f.app → (s t : StateParts) → IsState s → IsState t → step_fault f s t ≡ None → s.outcome ≡ t.outcome
unfolding app_fault
fixed_same f app s t hs ht h = elim (step_means f s t hs ht h) [
  | inl r ↦ r.outcome
  | inr e ↦ (
      let e1 : fixed_fault s t ≡ None = third (eqb f.app 0) (eqb f.app 1) (consensus_fault (length (persons f)) s t) (payment_fault (persons f) (mover (length f.keys) t.turn) s t) (fixed_fault s t) (differ f.app 0 (λ q. absurd (omega arith))) (differ f.app 1 (λ q. absurd (omega arith))) e in
      let l = both_none (fault_if (not (eqb (length s.app_bytes) 0) || not (eqb (length t.app_bytes) 0)) faults.Data) (fault_if (not (is_same_outcome s.outcome t.outcome)) faults.Outcome) e1 in
      same_outcome s.outcome t.outcome hs.outcome ht.outcome (not_not _ (unbroken (not (is_same_outcome s.outcome t.outcome)) faults.Outcome l.1))
      )
]

-- outside payment channels and consensus nothing changes
fixed_steps : (f : FixedParts) → 2 ≤ f.app → (s : StateParts) (ts : List StateParts) → IsState s → AllByRecursion IsState ts → AreSteps real f s ts → (last_of s ts).outcome ≡ s.outcome
unfolding app_fault
fixed_steps f app s [] hs hts h = refl
fixed_steps f app s (t ∷ ts) hs hts h =
    fixed_steps f app t ts hts.0 hts.1 h.1 ∙ sym (fixed_same f app s t hs hts.0 h.0)

pub steps_keep : StepsKeepMay
steps_keep f valid j me s hs ts hts h few others = by_app f.app refl
  where
    d : Dest
    d = person_at (persons f) j

    itself : (o : List AssetOutcome) → Ends f j o o
    itself o = record { no_worse = no_worse_again d o; same = λ q. refl }

    by_app : (a : ℕ) → f.app ≡ a → OneOf (λ o. Ends f j o (last_of s ts).outcome) (may f s)
    by_app zero e =
        let k = consensus_steps f e (ballot_of (length f.keys) s.app_bytes) s.outcome 0 s ts (omega arith) hs hts h (at_first (length f.keys) (ballot_of (length f.keys) s.app_bytes)) (inl refl) in
        by_outcome (last_of s ts).outcome k.1.outcome k.0
      where
        by_outcome : (o : List AssetOutcome) → IsOutcome o → OutcomeKept (ballot_of (length f.keys) s.app_bytes) s.outcome o → OneOf (λ p. Ends f j p o) (may f s)
        by_outcome o v (inl q) = inl (subst (λ (p : List AssetOutcome). Ends f j p o) q (itself o))
        by_outcome o v (inr q) = inr (subst (λ (a : ℕ). OneOf (λ p. Ends f j p o) (cond (eqb a 0) (proposed (ballot_of (length f.keys) s.app_bytes)) [])) (sym e) (among_proposed (λ p. Ends f j p o) (ballot_of (length f.keys) s.app_bytes) o (itself o) v q))
    by_app (suc zero) e =
        let two = valid.payment e in
        inl (record {
          no_worse = better_steps f j (payment_step f j e two (subst (λ (n : ℕ). j < n) two me)) s ts hs hts h others;
          same = λ q. absurd (q e);
        })
    by_app (suc (suc a)) e =
        inl (subst (λ (o : List AssetOutcome). Ends f j s.outcome o) (sym (fixed_steps f (omega arith) s ts hs hts h)) (itself s.outcome))
