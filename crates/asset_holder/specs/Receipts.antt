-- Who received what, and of which assets.
use Rattle.std.specs.Prelude.{◌==◌, ◌&&◌, ℕ, List, [], ◌∷◌, ◌++◌, Bool, if◌then◌else◌, fold}
use Rattle.std.specs.List.{list_any}
use Rattle.std.specs.Ordering.{nat_cmp}
use Rattle.std.specs.BTreeSet.{insert_key}
use Rattle.channel_values.specs.Outcomes.{is_same}
use Rattle.channel_values.specs.declared.value.Dest.{Dest}
use Rattle.call_history.specs.declared.funds.Flow.{Flow}

-- the assets of the flows, rising
abbrev pub assets_of : List Flow → List ℕ
assets_of flows = fold (λ seen flow. insert_key nat_cmp seen flow.asset) [] flows

-- a destination and an asset
abbrev pub Pair : Type 0
Pair = Dest × ℕ

abbrev pub is_pair : Pair → Pair → Bool
is_pair a b = is_same a.0 b.0 && (a.1 == b.1)

abbrev pub is_there : Pair → List Pair → Bool
is_there pair pairs = list_any (λ p. is_pair p pair) pairs

abbrev pub add_new : List Pair → Pair → List Pair
add_new seen pair = if is_there pair seen then seen else seen ++ pair ∷ []

-- who received something, with its asset, in the order of first receipt
abbrev pub receivers_of : List Flow → List Pair
receivers_of flows = fold (λ seen flow. add_new seen (flow.to, flow.asset)) [] flows
