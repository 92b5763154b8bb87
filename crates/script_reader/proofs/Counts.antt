-- How the values of a script are counted.
use Rattle.std.proofs.Common.{◌≡◌, suc, List, [], ◌∷◌, length, refl, ap}
use Rattle.std.specs.Prelude.{String}
use Rattle.std.specs.declared.alloc.Global.{Global}
use Rattle.serde_json.specs.declared.value.Value.{Value}
use Rattle.serde_json.specs.View.{items_view, members_view}
use Rattle.script_reader.specs.Kinds.{member_count, item_count}

pub member_count_view : (ms : List (String Global × Value)) → member_count (members_view ms) ≡ length ms
member_count_view [] = refl
member_count_view (m ∷ ms) = ap suc (member_count_view ms)

pub item_count_view : (vs : List Value) → item_count (items_view vs) ≡ length vs
item_count_view [] = refl
item_count_view (v ∷ vs) = ap suc (item_count_view vs)
