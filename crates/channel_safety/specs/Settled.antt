-- What a final channel ended with, as its digest says.
use Rattle.std.specs.Prelude.{◌≡◌, ℕ, List, ◌++◌, Some}
use Rattle.channel_values.specs.declared.value.AssetOutcome.{AssetOutcome}
use Rattle.call_history.specs.declared.standing.Standing.TheVariants.{Final}
use Rattle.channel_values.specs.Rules.{Rules}
use Rattle.call_history.specs.History.{Legal, row, mode, settled}
use Rattle.call_history.specs.declared.entry.Entry.{Entry}
use Rattle.channel_safety.specs.Journals.{Line}
use Rattle.channel_safety.specs.Occurring.{OccursOutcome, NoCollision}

-- the channel has settled on an outcome of an entry, whose digest its row records
pub record SettlesOnOccurring (r : Rules) (channel : List ℕ) (h : List Entry) : Type 0 where
  pub outcome : List AssetOutcome
  pub is : settled r channel h ≡ Some outcome
  pub recorded : (row r channel h).outcome_digest ≡ r.outcome_digest outcome
  pub occurs : OccursOutcome h outcome

-- A final channel has; and an outcome of an entry, also of a later one, that has the recorded digest is that one.
pub record FinalOutcomesAreTold : Type 0 where
  pub settles :
      (r : Rules) (channel : List ℕ) (h : List Entry) → Legal r h → mode r channel h ≡ Final
      → SettlesOnOccurring r channel h
  pub told :
      (r : Rules) (channel : List ℕ) (later past : List Entry) (journal : List Line) (o : List AssetOutcome)
      → Legal r past → NoCollision r (later ++ past) journal → mode r channel past ≡ Final
      → OccursOutcome (later ++ past) o → (row r channel past).outcome_digest ≡ r.outcome_digest o
      → settled r channel past ≡ Some o
