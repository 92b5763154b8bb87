-- The first fault of a record that isn't sound.
use Rattle.std.specs.Prelude.{◌≡◌, ◌≤◌, ◌<◌, ◌-◌, ◌+◌, ℕ, List, length, take, Option, Some, None}
use Rattle.std.specs.List.{All, HoldsAt}
use Rattle.call_history.specs.declared.entry.Entry.{Entry}
use Rattle.run_record.specs.declared.run_record.Record.{Record}
use Rattle.run_record.specs.Sound.{IsLegal, sums_wanted, HasPlan, HasShares, HasSums, IsSound}
use Rattle.record_checker.specs.declared.checking.Verdict.{Verdict}
use Rattle.record_checker.specs.declared.checking.Verdict.TheVariants as verdicts

-- the entry at place k, counted from 1, is the first that doesn't follow on those before it
pub record IsFirstWrong (history : List Entry) (k : ℕ) : Type 0 where
  pub counted : 1 ≤ k
  pub inside : k ≤ length history
  pub before : IsLegal (take (k - 1) history)
  pub wrong : IsLegal (take k history) → ⊥

-- at place i, counted from 0, two lists differ first; one of them may end there
pub record IsFirstDifference {X : Type 0} (xs ys : List X) (i : ℕ) : Type 0 where
  pub before : take i xs ≡ take i ys
  pub other : take (i + 1) xs ≡ take (i + 1) ys → ⊥

abbrev pub Differs : {X : Type 0} → List X → List X → Option ℕ → Type 0
Differs xs ys None = xs ≡ ys
Differs xs ys (Some i) = IsFirstDifference xs ys i

-- the element at place i, counted from 0, is the first that isn't so
pub record IsFirstWithout {X : Type 0} (P : X → Type 0) (xs : List X) (i : ℕ) : Type 0 where
  pub inside : i < length xs
  pub before : All P (take i xs)
  pub fails : HoldsAt (λ x. P x → ⊥) xs i

abbrev pub Lacks : {X : Type 0} → (X → Type 0) → List X → Option ℕ → Type 0
Lacks P xs None = All P xs
Lacks P xs (Some i) = IsFirstWithout P xs i

-- what is tried before the shares
pub record HasPlans (r : Record) : Type 0 where
  pub summed : HasSums r
  pub plans : All (HasPlan r.history) r.ends

-- what each verdict says of a record
abbrev pub Says : Verdict → Record → Type 0
Says verdicts.Sound r = IsSound r
Says (verdicts.Reply k) r = IsFirstWrong r.history k
Says (verdicts.Sums i) r = IsLegal r.history × IsFirstDifference r.sums (sums_wanted r.history) i
Says (verdicts.Plan i) r = HasSums r × IsFirstWithout (HasPlan r.history) r.ends i
Says (verdicts.Share i) r = HasPlans r × IsFirstWithout (HasShares r.history) r.ends i
