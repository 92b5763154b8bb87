-- Which outcomes can become final for a participant that signs no more.
use Rattle.std.specs.Prelude.{◌≡◌, ◌≢◌, ℕ, ◌<◌, ◌==◌, Bool, List, [], ◌∷◌, length, Option, Some, None, Result, Ok, Err, ◌⊎◌, if◌then◌else◌}
use Rattle.std.specs.List.{AllByRecursion, slice_get}
use Rattle.channel_values.specs.declared.fault.ByteFault.{ByteFault}
use Rattle.channel_values.specs.declared.value.AssetOutcome.{AssetOutcome}
use Rattle.channel_values.specs.declared.chain.Mark.{Mark}
use Rattle.channel_values.specs.declared.chain.Chain.{Chain}
use Rattle.channel_values.specs.Parts.{FixedParts, StateParts, IsFixed, IsState}
use Rattle.channel_values.specs.Reading.{outcome_of}
use Rattle.channel_values.specs.Rows.{mover, last_of, last_turn}
use Rattle.channel_values.specs.Rules.{people, top_outcome}
use Rattle.channel_values.specs.Support.{support_of}
use Rattle.channel_values.specs.Supported.{AreSteps}
use Rattle.support_rules.specs.Ballots.{Ballot, ballot_of}
use Rattle.support_rules.specs.Rules.{person_at}
use Rattle.support_rules.specs.Steps.{persons}
use Rattle.support_rules.specs.Real.{real}
use Rattle.support_rules.specs.NoWorse.{NoWorse}

abbrev pub read_or_none : Result (List AssetOutcome) ByteFault → List (List AssetOutcome)
read_or_none (Ok o) = o ∷ []
read_or_none (Err e) = []

-- what is proposed, where there are votes
abbrev pub proposed : Option Ballot → List (List AssetOutcome)
proposed None = []
proposed (Some b) = if b.votes == 0 then [] else read_or_none (outcome_of b.proposal)

-- the outcomes that can still become final for the one whose last signed state is s
abbrev pub may : FixedParts → StateParts → List (List AssetOutcome)
may f s = s.outcome ∷ (if f.app == 0 then proposed (ballot_of (people f) s.app_bytes) else [])

abbrev pub OneOf : {X : Type 0} → (X → Type 0) → List X → Type 0
OneOf P [] = ⊥
OneOf P (x ∷ xs) = P x ⊎ OneOf P xs

-- The outcome p may stand for o: it is no worse for the participant at place j, and outside payment channels, whose
-- application is 1, it is o.
pub record Ends (f : FixedParts) (j : ℕ) (o p : List AssetOutcome) : Type 0 where
  pub no_worse : NoWorse (person_at (persons f) j) o p
  pub same : f.app ≢ 1 → p ≡ o

-- Fewer than n steps of others than the participant at place j end in an outcome that was possible before them.
abbrev pub StepsKeepMay : Type 0
StepsKeepMay =
    (f : FixedParts) → IsFixed f → (j : ℕ) → j < people f →
    (s : StateParts) → IsState s → (ts : List StateParts) → AllByRecursion IsState ts →
    AreSteps real f s ts → length ts < people f → AllByRecursion (λ t. mover (people f) t.turn ≢ j) ts →
    OneOf (λ o. Ends f j o (last_of s ts).outcome) (may f s)

-- Where a chain supports a turn, and the mark of the participant at place j stands on a state of that participant's own
-- turn, that is its last turn, and the chain ends in an outcome that was possible then.
abbrev pub SupportKeepsMay : Type 0
SupportKeepsMay =
    (chain : Chain) → IsFixed chain.fixed → AllByRecursion IsState chain.states →
    (verified : List Bool) (turn : ℕ) → support_of real chain verified ≡ Ok turn →
    (j : ℕ) → j < people chain.fixed → (mark : Mark) → slice_get chain.marks j ≡ Some mark →
    (s : StateParts) → slice_get chain.states mark.place ≡ Some s → mover (people chain.fixed) s.turn ≡ j →
    (s.turn ≡ last_turn (people chain.fixed) j turn)
    × OneOf (λ o. Ends chain.fixed j o (top_outcome chain.states)) (may chain.fixed s)
