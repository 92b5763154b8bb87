-- Values that are read one after another.
use Rattle.std.proofs.Common.{◌≡◌, ℕ, ◌+◌, List, [], ◌∷◌, ◌++◌, length, ap, ◌∙◌, ◌<◌, get_or, drop, Result, Ok, Err}
use Rattle.std.proofs.lemmas.List.{at_drop_more}
use Rattle.serde_json.specs.Data.{Data}
use Rattle.serde_json.specs.declared.value.Value.{Value}
use Rattle.serde_json.specs.View.{view, items_view}
use Rattle.script_steps.specs.Rules.{◌>>=◌}
use Rattle.script_reader.specs.Kinds.{many_in}
use Rattle.script_steps.specs.declared.step.Rule.{Rule}

-- what is read of the values that are left, after those seen
abbrev pub many_left : {X : Type 0} → (Data → Result X Rule) → List X → List Value → Result (List X) Rule
many_left one seen vs = many_in one seen (items_view vs)

pub goes_on : {X : Type 0} (one : Data → Result X Rule) (seen : List X) (x : X) (vs : List Value) (i : ℕ) (d : Value) → i < length vs → one (view (get_or vs i d)) ≡ Ok x → many_left one seen (drop i vs) ≡ many_left one (seen ++ x ∷ []) (drop (i + 1) vs)
goes_on one seen x vs i d h e = at_drop_more (many_left one seen) vs i d h ∙ ap (λ r. r >>= λ n. many_in one (seen ++ n ∷ []) (items_view (drop (i + 1) vs))) e

pub stops : {X : Type 0} (one : Data → Result X Rule) (seen : List X) (rule : Rule) (vs : List Value) (i : ℕ) (d : Value) → i < length vs → one (view (get_or vs i d)) ≡ Err rule → many_left one seen (drop i vs) ≡ Err rule
stops one seen rule vs i d h e = at_drop_more (many_left one seen) vs i d h ∙ ap (λ r. r >>= λ n. many_in one (seen ++ n ∷ []) (items_view (drop (i + 1) vs))) e
