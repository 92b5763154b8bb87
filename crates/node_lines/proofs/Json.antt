-- The JSON value of a text.
use Rattle.std.proofs.Common.{◌≡◌, ℕ, suc, Bool, true, false, List, [], ◌∷◌, length, Some, None, Ok, Err, refl, ap, ◌∙◌}
use Rattle.std.specs.Prelude.{String, if◌then◌else◌}
use Rattle.std.specs.Str.{IsUtf8, is_utf8}
use Rattle.std.specs.declared.alloc.Global.{Global}
use Rattle.std.proofs.lemmas.Bool.{cond-true, cond-false}
use Rattle.std.proofs.lemmas.Str.{IsUtf8-from_is_utf8, is_utf8-from_IsUtf8}
use Rattle.serde_json.specs.Data.{Data}
use Rattle.serde_json.specs.Read.{read}
use Rattle.serde_json.specs.View.{members_view}
use Rattle.serde_json.specs.declared.value.Value.{Value}
use Rattle.node_lines.specs.Faults.{given}
use Rattle.node_lines.specs.Values.{value_of, member_count}
use Rattle.node_lines.specs.declared.faults.Invalid.TheVariants as faults

pub member_count_view : (ms : List (String Global × Value)) → member_count (members_view ms) ≡ length ms
member_count_view [] = refl
member_count_view (m ∷ ms) = ap suc (member_count_view ms)

pub value_found : (text : List ℕ) (d : Data) → IsUtf8 text → read text ≡ Some d → value_of text ≡ Ok d
unfolding value_of
value_found text d utf8 found =
    ap (given faults.Json) (cond-true _ (read text) None (is_utf8-from_IsUtf8 text utf8) ∙ found)

pub no_value : (text : List ℕ) → (IsUtf8 text → read text ≡ None) → value_of text ≡ Err faults.Json
unfolding value_of
no_value text none = go (is_utf8 text) refl
  where
    go : (b : Bool) → is_utf8 text ≡ b → given faults.Json (if is_utf8 text then read text else None) ≡ Err faults.Json
    go true e = ap (given faults.Json) (cond-true _ (read text) None e ∙ none (IsUtf8-from_is_utf8 text e))
    go false e = ap (given faults.Json) (cond-false _ (read text) None e)
