-- Values that are read one after another.
use Rattle.std.proofs.Common.{◌≡◌, ℕ, ◌+◌, List, [], ◌∷◌, ◌++◌, length, ap, ◌∙◌, ◌<◌, get_or, drop, Result, Ok, Err}
use Rattle.std.proofs.lemmas.List.{at_drop_more}
use Rattle.serde_json.specs.Data.{Data}
use Rattle.serde_json.specs.declared.value.Value.{Value}
use Rattle.serde_json.specs.View.{view, items_view}
use Rattle.node_lines.specs.Faults.{◌>>=◌}
use Rattle.node_lines.specs.Values.{many_in}
use Rattle.node_lines.specs.declared.faults.Invalid.{Invalid}

-- what is read of the values that are left, after those seen
abbrev pub many_left : {X : Type 0} → (Data → Result X Invalid) → List X → List Value → Result (List X) Invalid
many_left one seen vs = many_in one seen (items_view vs)

pub goes_on : {X : Type 0} (one : Data → Result X Invalid) (seen : List X) (x : X) (vs : List Value) (i : ℕ) (d : Value) → i < length vs → one (view (get_or vs i d)) ≡ Ok x → many_left one seen (drop i vs) ≡ many_left one (seen ++ x ∷ []) (drop (i + 1) vs)
goes_on one seen x vs i d h e = at_drop_more (many_left one seen) vs i d h ∙ ap (λ r. r >>= λ n. many_in one (seen ++ n ∷ []) (items_view (drop (i + 1) vs))) e

pub stops : {X : Type 0} (one : Data → Result X Invalid) (seen : List X) (fault : Invalid) (vs : List Value) (i : ℕ) (d : Value) → i < length vs → one (view (get_or vs i d)) ≡ Err fault → many_left one seen (drop i vs) ≡ Err fault
stops one seen fault vs i d h e = at_drop_more (many_left one seen) vs i d h ∙ ap (λ r. r >>= λ n. many_in one (seen ++ n ∷ []) (items_view (drop (i + 1) vs))) e
