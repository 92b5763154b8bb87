-- Arrays that don't have two items.
use Rattle.std.proofs.Common.{◌≡◌, List, [], ◌∷◌, length, ◌<◌, ◌≤◌, Err, refl, arith}
use Rattle.serde_json.specs.View.{items_view}
use Rattle.serde_json.specs.declared.value.Value.{Value}
use Rattle.node_lines.specs.Values.{two_in}
use Rattle.node_lines.specs.declared.faults.Invalid.TheVariants as faults

pub short : (vs : List Value) → length vs < 2 → two_in (items_view vs) ≡ Err faults.Shape
short [] h = refl
short (a ∷ []) h = refl
short (a ∷ b ∷ rest) h = absurd (omega arith)

pub long : (vs : List Value) → 3 ≤ length vs → two_in (items_view vs) ≡ Err faults.Shape
long [] h = absurd (omega arith)
long (a ∷ []) h = absurd (omega arith)
long (a ∷ b ∷ []) h = absurd (omega arith)
long (a ∷ b ∷ c ∷ rest) h = refl
