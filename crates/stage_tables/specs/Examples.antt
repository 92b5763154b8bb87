-- What fits a person with a running ledger, by examples: each holds, and fails where one condition is reversed.
use Rattle.std.specs.Prelude.{◌≡◌, ℕ, ◌-◌, ◌^◌, Bool, true, false, List, [], ◌∷◌, replicate}
use Rattle.channel_values.specs.Parts.{fixed_with, state_with}
use Rattle.channel_values.specs.declared.value.AssetOutcome.{AssetOutcome}
use Rattle.channel_values.specs.declared.value.Dest.TheVariants.{Person, Channel}
use Rattle.channel_values.specs.declared.value.Item.{Item}
use Rattle.channel_values.specs.declared.value.Shape.TheVariants.{Allocation, Guarantee}
use Rattle.funding_plans.specs.Known.{FactsOf}
use Rattle.funding_plans.specs.declared.plan.Part.TheVariants.{Root}
use Rattle.stage_tables.specs.Fitting.{are_shared, fits_between, both_lend, is_double_small}

-- ---- people, and a ledger of the first two

abbrev pub first : List ℕ
first = 1 ∷ []

abbrev pub middle : List ℕ
middle = 2 ∷ []

abbrev pub second : List ℕ
second = 3 ∷ []

abbrev pub ledger : List ℕ
ledger = 4 ∷ []

abbrev pub elsewhere : List ℕ
elsewhere = 5 ∷ []

abbrev pub item : List ℕ → ℕ → Item
item person amount = record { to = Person person; amount = amount }

abbrev pub with_items : List Item → List AssetOutcome
with_items items = record { asset = 0; shape = Allocation items } ∷ []

abbrev pub plain : List AssetOutcome
plain = with_items (item first 10 ∷ item middle 7 ∷ [])

-- and items of others, so that there are 16
abbrev pub full : List AssetOutcome
full = with_items (item first 10 ∷ item middle 7 ∷ replicate 14 (record { to = Channel elsewhere; amount = 1 }))

-- what the first knows, where the ledger has this outcome and application, and may be closing
abbrev pub facts : List AssetOutcome → ℕ → Bool → FactsOf
facts outcome app closing =
    record {
      me = first;
      plan = record { me = first; parts = Root ledger ∷ [] };
      view = record { now = 0; count = 0; channels = []; paid = [] };
      places = record { channel = ledger; people = first ∷ middle ∷ []; me = 0; next = 4 } ∷ [];
      chains = record {
        channel = ledger;
        chain = record { fixed = fixed_with ((1 ∷ []) ∷ (2 ∷ []) ∷ []) 0 app 10; states = state_with 3 false outcome [] ∷ []; marks = [] };
      } ∷ [];
      known = [];
      goals = record { part = 0; opening = outcome; amounts = (0, 0); closing = closing; over = false } ∷ [];
    }

-- ---- the examples

pub record Examples : Type 0 where
  pub shared : are_shared (first ∷ middle ∷ []) plain ≡ true
  pub of_another : are_shared (first ∷ second ∷ []) plain ≡ false
  pub guaranteed : are_shared (first ∷ []) (record { asset = 0; shape = Guarantee ledger (Person first ∷ []) } ∷ []) ≡ false
  pub lent : fits_between (facts plain 0 false) ledger 0 (10, 7) (first ∷ middle ∷ []) ≡ true
  pub turned : fits_between (facts plain 0 false) ledger 0 (7, 7) (middle ∷ first ∷ []) ≡ false
  pub too_much : fits_between (facts plain 0 false) ledger 0 (10, 8) (first ∷ middle ∷ []) ≡ false
  pub in_another_asset : fits_between (facts plain 0 false) ledger 1 (0, 0) (first ∷ middle ∷ []) ≡ false
  pub without_room : fits_between (facts full 0 false) ledger 0 (10, 7) (first ∷ middle ∷ []) ≡ false
  pub of_payments : fits_between (facts plain 1 false) ledger 0 (10, 7) (first ∷ middle ∷ []) ≡ false
  pub closing : fits_between (facts plain 0 true) ledger 0 (10, 7) (first ∷ middle ∷ []) ≡ false
  pub not_there : fits_between (facts plain 0 false) elsewhere 0 (10, 7) (first ∷ middle ∷ []) ≡ false
  -- the first doesn't ask about the ledger of the other two
  pub at_an_end : both_lend (facts plain 0 false) (ledger, elsewhere) 0 (10, 7) first middle second ≡ true
  pub at_the_middle : both_lend (facts plain 0 false) (elsewhere, ledger) 0 (10, 7) second first middle ≡ false
  pub small : is_double_small (2 ^ 63 - 1, 0) ≡ true
  pub large : is_double_small (2 ^ 62, 2 ^ 62) ≡ false
