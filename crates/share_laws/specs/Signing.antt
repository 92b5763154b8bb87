-- What a participant's own signature does to what its channels can end with.
use Rattle.std.specs.Prelude.{◌≡◌, ℕ, ◌+◌, ◌≤◌, false, List, ◌∷◌, Some, ◌⊎◌}
use Rattle.std.specs.Str.{bytes_eq}
use Rattle.channel_values.specs.declared.value.AssetOutcome.{AssetOutcome}
use Rattle.channel_values.specs.declared.value.Dest.TheVariants.{Person}
use Rattle.channel_values.specs.Amounts.{aff}
use Rattle.funding_plans.specs.declared.plan.Part.{Part}
use Rattle.share_laws.specs.Books.{Counting, outcome_in, books_under}
use Rattle.funding_plans.specs.Shapes.{items_in, list_in}
use Rattle.share_laws.specs.Moves.{IsFair}

-- one counting channel of a list becomes another
pub data Becomes (was now : Counting) : (ks ls : List Counting) → Type 0 where
  here : {ks : List Counting} → Becomes was now (was ∷ ks) (now ∷ ks)
  later : {ks ls : List Counting} (k : Counting) → bytes_eq k.channel was.channel ≡ false → Becomes was now ks ls
      → Becomes was now (k ∷ ks) (k ∷ ls)

-- one channel more counts
pub data Starts (now : Counting) : (ks ls : List Counting) → Type 0 where
  first : {ks : List Counting} → Starts now ks (now ∷ ks)
  after : {ks ls : List Counting} (k : Counting) → bytes_eq k.channel now.channel ≡ false → Starts now ks ls
      → Starts now (k ∷ ks) (k ∷ ls)

-- an outcome with which the channel can end
abbrev pub CanEnd : Counting → List AssetOutcome → Type 0
CanEnd k o = (o ≡ k.outcome) ⊎ (k.proposal ≡ Some o)

-- For an outcome with which the channel could end, whatever the others end with, o is fair.
pub record ComesFairly (me : List ℕ) (ps : List Part) (held : List ℕ → ℕ) (ks : List Counting) (was : Counting)
    (asset : ℕ) (o : List AssetOutcome) : Type 0 where
  pub from : List AssetOutcome
  pub could : CanEnd was from
  pub list : list_in asset o ≡ list_in asset from
  pub fair : (taken : List (List ℕ)) → outcome_in ks taken was.channel ≡ from →
      IsFair (books_under held ks asset taken) me ps was.channel (items_in asset o)

-- Against an outcome with which the channel could end, o affords the person at most k less.
pub record ComesByPaying (me : List ℕ) (k : ℕ) (was : Counting) (asset : ℕ) (o : List AssetOutcome) : Type 0 where
  pub from : List AssetOutcome
  pub could : CanEnd was from
  pub list : list_in asset o ≡ list_in asset from
  pub affords : (r : ℕ) → aff (items_in asset from) r (Person me) ≤ aff (items_in asset o) r (Person me) + k
