-- The set of a list of names, with one more.
use Rattle.std.proofs.Common.{◌≡◌, ℕ, List, [], ◌∷◌, ◌++◌, Bool, true, false, cond, refl, sym, ◌∙◌, ap}
use Rattle.std.proofs.lemmas.List.Folds.{list_any-append}
use Rattle.std.proofs.lemmas.Map.Text.{btree_set_updates_text}
use Rattle.std.specs.Prelude.{◌||◌, String, string_bytes}
use Rattle.std.specs.BTreeSet.{BTreeSet, Updates}
use Rattle.std.specs.List.{list_any}
use Rattle.std.specs.Str.{bytes_eq}
use Rattle.std.specs.String.{string_cmp}
use Rattle.script_steps.specs.Index.{IsIndex}

pub index_push : {Y : Type 0} (old new : BTreeSet (String Y)) (names : List (List ℕ)) (text : String Y) → IsIndex names old → Updates string_cmp old new text true
    → IsIndex (names ++ string_bytes text ∷ []) new
index_push old new names text is updates q =
    btree_set_updates_text (string_bytes text) old new true updates q
    ∙ ap (λ b. cond (bytes_eq (string_bytes text) q) true b) (is q)
    ∙ last (bytes_eq (string_bytes text) q) (list_any (λ n. bytes_eq n q) names)
    ∙ sym (list_any-append (λ n. bytes_eq n q) names (string_bytes text ∷ []))
  where
    last : (b all : Bool) → cond b true all ≡ (all || (b || false))
    last true true = refl
    last true false = refl
    last false true = refl
    last false false = refl
