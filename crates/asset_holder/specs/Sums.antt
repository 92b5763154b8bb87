-- What flows sum up to, as maps.
use Rattle.std.specs.Prelude.{◌≡◌, ◌≤◌, ◌+◌, ◌*◌, ◌==◌, ◌&&◌, ℕ, List, Bool, length, sum_by, nat_eq, is_some, Some, if◌then◌else◌}
use Rattle.std.specs.Map.{lookup}
use Rattle.std.specs.Str.{bytes_eq}
use Rattle.channel_values.specs.declared.value.Dest.TheVariants.{Person, Channel}
use Rattle.call_history.specs.Flows.{is_person, carries, enters, into, out_of}
use Rattle.call_history.specs.declared.funds.Flow.{Flow}
use Rattle.asset_holder.specs.Amounts.{amount_in}
use Rattle.asset_holder.specs.Receipts.{Pair, is_there, receivers_of, assets_of}

-- a name and an asset
abbrev pub Key : Type 0
Key = List ℕ × ℕ

abbrev pub same_key : Key → Key → Bool
same_key x y = bytes_eq x.0 y.0 && (x.1 == y.1)

-- whether a map has a key
abbrev pub has : {K : Type 0} → (K → K → Bool) → List (K × ℕ) → K → Bool
has eq rows key = is_some (lookup (eq key) rows)

-- the key's sum is greater by this, and the others stay
abbrev pub AddsTo : {K : Type 0} → (K → K → Bool) → List (K × ℕ) → K → ℕ → List (K × ℕ) → Type 0
AddsTo {K = K} eq old key more new =
    (k : K) → lookup (eq k) new ≡ (if eq key k then Some (amount_in eq old key + more) else lookup (eq k) old)

-- what a flow pays to a person, of an asset
abbrev pub pays_person : ℕ → Flow → ℕ
pays_person asset flow = if is_person flow.to then carries asset flow else 0

-- what a u64 can say, of each flow
abbrev pub AreSmall : List Flow → Type 0
AreSmall flows = sum_by (λ flow. flow.amount) flows ≤ 18446744073709551615 * length flows

-- what was received: who received it, by channel and by person, and by all persons
pub record AreReceipts (flows : List Flow) (pairs : List Pair) (channels persons : List (Key × ℕ))
    (paid : List (ℕ × ℕ)) : Type 0 where
  pub pairs_are : pairs ≡ receivers_of flows
  pub to_channels : (k : Key) → amount_in same_key channels k ≡ into flows (Channel k.0) k.1
  pub to_persons : (k : Key) → amount_in same_key persons k ≡ into flows (Person k.0) k.1
  pub to_all : (asset : ℕ) → amount_in nat_eq paid asset ≡ sum_by (pays_person asset) flows
  pub known_channels : (k : Key) → has same_key channels k ≡ is_there (Channel k.0, k.1) pairs
  pub known_persons : (k : Key) → has same_key persons k ≡ is_there (Person k.0, k.1) pairs
  pub small : AreSmall flows

-- where it came from: out of channels, and from outside
pub record AreSources (flows : List Flow) (spent : List (Key × ℕ)) (deposited : List (ℕ × ℕ)) : Type 0 where
  pub of_channels : (k : Key) → amount_in same_key spent k ≡ out_of flows k.0 k.1
  pub of_outside : (asset : ℕ) → amount_in nat_eq deposited asset ≡ sum_by (enters asset) flows
  pub small : AreSmall flows

-- the tables of flows
pub record IsIndexed (flows : List Flow) (pairs : List Pair) (channels persons : List (Key × ℕ)) (paid : List (ℕ × ℕ))
    (spent : List (Key × ℕ)) (deposited : List (ℕ × ℕ)) (assets : List ℕ) : Type 0 where
  pub receipts : AreReceipts flows pairs channels persons paid
  pub sources : AreSources flows spent deposited
  pub assets_are : assets ≡ assets_of flows
