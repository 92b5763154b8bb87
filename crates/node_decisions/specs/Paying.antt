-- Terms for the making of a payment's outcome.
use Rattle.std.specs.Prelude.{◌≡◌, ◌<◌, ◌^◌, ℕ, List, [], true, Option, Some, None, Result, IfErr}
use Rattle.std.specs.List.{AllByRecursion}
use Rattle.channel_values.specs.declared.fault.ByteFault.{ByteFault}
use Rattle.channel_values.specs.declared.fault.ByteFault.TheVariants.{NoMemory}
use Rattle.channel_values.specs.declared.value.AssetOutcome.{AssetOutcome}
use Rattle.support_rules.specs.Rules.{total_of}
use Rattle.channel_store.specs.declared.kept.Kept.{Kept}
use Rattle.funding_plans.specs.Shapes.{items_in}
use Rattle.channel_node.specs.Minds.{Mind}
use Rattle.channel_node.specs.Refusing.{latest_outcome, is_payable}
use Rattle.support_rules.specs.Real.{real}

-- no outcome ends nothing
abbrev pub or_nothing : Option (List AssetOutcome) → List AssetOutcome
or_nothing None = []
or_nothing (Some outcome) = outcome

abbrev pub AreWithin : List AssetOutcome → Type 0
AreWithin outcome = AllByRecursion (λ o. total_of o.shape < 2 ^ 64) outcome

-- where this holds it fails only when memory runs out
abbrev pub OnlyMemory : {A : Type 0} → Type 0 → Result A ByteFault → Type 0
OnlyMemory Holds result = Holds → IfErr result (λ fault. fault ≡ NoMemory)

-- the channel, where it is kept, is one for payments, has a turn left and the amount, and the next state with it
-- follows
abbrev pub IsPayable : Mind → List ℕ → (asset amount : ℕ) → Option Kept → Type 0
IsPayable m channel asset amount None = Unit {0}
IsPayable m channel asset amount (Some k) = is_payable real m channel asset amount k (items_in asset (latest_outcome m channel k)) ≡ true
