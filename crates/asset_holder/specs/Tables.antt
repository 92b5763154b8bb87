-- Balances as maps.
use Rattle.std.specs.Prelude.{◌≡◌, ◌<◌, ◌+◌, ◌-◌, ◌^◌, ℕ, List, min}
use Rattle.indexmap.specs.IndexMap.{IndexMap, spare}
use Rattle.asset_holder.specs.Balances.{Balances, amount_deposited, held_by_all, paid_to_all}

-- a deposit takes a row of held and one of deposited, and a payment up to two of held and one of paid
abbrev pub balances : {S : Type 0} → IndexMap (List ℕ × ℕ) ℕ S → IndexMap (List ℕ × ℕ) ℕ S → IndexMap ℕ ℕ S → Balances
balances held paid deposited = record {
  held = held.entries;
  paid = paid.entries;
  deposited = deposited.entries;
  room = min (spare held - 1) (min (spare paid) (spare deposited));
}

-- of each asset, what was deposited is what all hold and were paid, and fits
pub record AreBalanced (b : Balances) : Type 0 where
  pub sums : (asset : ℕ) → amount_deposited b asset ≡ held_by_all b asset + paid_to_all b asset
  pub fits : (asset : ℕ) → amount_deposited b asset < 2 ^ 64
