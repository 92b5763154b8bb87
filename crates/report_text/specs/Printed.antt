-- Which assets and which balances are printed.
use Rattle.std.specs.Prelude.{◌≡◌, ◌<◌, ◌==◌, ◌↔◌, ◌++◌, ◌∷◌, [], ℕ, List, Bool, true, ⊤}
use Rattle.std.specs.List.{list_any}
use Rattle.channel_values.specs.Outcomes.{AreApart}
use Rattle.call_history.specs.Flows.{deposited_in}
use Rattle.call_history.specs.History.{flows_of}
use Rattle.call_history.specs.declared.entry.Entry.{Entry}
use Rattle.call_history.specs.declared.funds.Flow.{Flow}
use Rattle.asset_holder.specs.Receipts.{Pair, is_pair, is_there, assets_of, receivers_of}

-- ---- assets

abbrev pub IsBelow : ℕ → List ℕ → Type 0
IsBelow n [] = ⊤
IsBelow n (x ∷ xs) = (n < x) × IsBelow n xs

-- each number is below those after it
abbrev pub AreRising : List ℕ → Type 0
AreRising [] = ⊤
AreRising (x ∷ xs) = IsBelow x xs × AreRising xs

abbrev pub is_listed : ℕ → List ℕ → Bool
is_listed asset assets = list_any (λ a. a == asset) assets

-- the printed assets of a history are strictly rising, and exactly those of which something was deposited
pub record AssetsAreThoseDeposited (h : List Entry) : Type 0 where
  pub rising : AreRising (assets_of (flows_of h))
  pub listed : (asset : ℕ) → (is_listed asset (assets_of (flows_of h)) ≡ true) ↔ (0 < deposited_in (flows_of h) asset)

-- ---- balances

-- a flow brings something to a destination, of an asset
abbrev pub is_received : Pair → List Flow → Bool
is_received pair flows = list_any (λ f. is_pair (f.to, f.asset) pair) flows

-- each destination and asset that received something stands once, and after those that received something before
pub record ReceiversComeOnce (flows : List Flow) : Type 0 where
  pub once : AreApart is_pair (receivers_of flows)
  pub listed : (pair : Pair) → is_there pair (receivers_of flows) ≡ is_received pair flows
  pub in_order : (later : List Flow) → (rest : List Pair) × (receivers_of (flows ++ later) ≡ receivers_of flows ++ rest)
