-- What callers see of holdings: tables of amounts, in the order in which each key first had one.
use Rattle.std.specs.Prelude.{◌≡◌, ◌+◌, ◌-◌, ◌==◌, ◌&&◌, ℕ, Bool, List, [], sum_by, nat_eq}
use Rattle.std.specs.List.{IsDistinct}
use Rattle.std.specs.Map.{keys_of}
use Rattle.std.specs.Str.{bytes_eq}
use Rattle.channel_values.specs.declared.value.Dest.TheVariants.{Person, Channel}
use Rattle.call_history.specs.Flows.{brings, takes, enters}
use Rattle.call_history.specs.declared.funds.Flow.{Flow}
use Rattle.asset_holder.specs.Amounts.{amount_in, counted}

-- Clauses mention only the tables' amounts, and that these add up.
pub record Balances : Type 0 where
  -- what channels hold and persons were paid, by name and asset, and what came from outside, by asset
  pub held : List ((List ℕ × ℕ) × ℕ)
  pub paid : List ((List ℕ × ℕ) × ℕ)
  pub deposited : List (ℕ × ℕ)
  -- how many more flows fit without more memory
  pub room : ℕ

-- the keys are the same name and asset
abbrev pub same_pair : List ℕ × ℕ → List ℕ × ℕ → Bool
same_pair x y = bytes_eq x.0 y.0 && (x.1 == y.1)

-- the key is of this asset
abbrev pub is_of : ℕ → List ℕ × ℕ → Bool
is_of asset key = key.1 == asset

-- what a channel holds of an asset, what a person was paid of it, and what came from outside
abbrev pub amount_held : Balances → List ℕ → ℕ → ℕ
amount_held b channel asset = amount_in same_pair b.held (channel, asset)

abbrev pub amount_paid : Balances → List ℕ → ℕ → ℕ
amount_paid b person asset = amount_in same_pair b.paid (person, asset)

abbrev pub amount_deposited : Balances → ℕ → ℕ
amount_deposited b asset = amount_in nat_eq b.deposited asset

-- what all channels hold and all persons were paid, of an asset
abbrev pub held_by_all : Balances → ℕ → ℕ
held_by_all b asset = sum_by (counted (is_of asset)) b.held

abbrev pub paid_to_all : Balances → ℕ → ℕ
paid_to_all b asset = sum_by (counted (is_of asset)) b.paid

-- nothing came in
pub record AreEmpty (b : Balances) : Type 0 where
  pub held : b.held ≡ []
  pub paid : b.paid ≡ []
  pub deposited : b.deposited ≡ []

-- all amounts stay
pub record AreSame (old new : Balances) : Type 0 where
  pub held : new.held ≡ old.held
  pub paid : new.paid ≡ old.paid
  pub deposited : new.deposited ≡ old.deposited

-- One more flow changes these balances: of its source, of its destination, and where it comes from outside what was
-- deposited. Where a channel pays itself, what it holds stays.
pub record HasMoved (old : Balances) (flow : Flow) (new : Balances) : Type 0 where
  pub held : (channel : List ℕ) (asset : ℕ) → amount_held new channel asset
      ≡ (amount_held old channel asset + brings (Channel channel) asset flow) - takes channel asset flow
  pub paid : (person : List ℕ) (asset : ℕ) → amount_paid new person asset
      ≡ amount_paid old person asset + brings (Person person) asset flow
  pub deposited : (asset : ℕ) → amount_deposited new asset ≡ amount_deposited old asset + enters asset flow

-- Of each asset, what came from outside is what all channels hold and all persons were paid. Each channel and each
-- person has one amount of it.
pub record AreConserved (b : Balances) : Type 0 where
  pub held : IsDistinct same_pair (keys_of b.held)
  pub paid : IsDistinct same_pair (keys_of b.paid)
  pub sums : (asset : ℕ) → amount_deposited b asset ≡ held_by_all b asset + paid_to_all b asset
