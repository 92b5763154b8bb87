-- Things that are resolved one after another.
use Rattle.std.proofs.Common.{◌≡◌, ℕ, ◌+◌, List, [], ◌∷◌, ◌++◌, length, ap, ◌∙◌, ◌<◌, get_or, drop, Result, Ok, Err}
use Rattle.std.proofs.lemmas.List.{at_drop_more}
use Rattle.script_steps.specs.Rules.{◌>>=◌}
use Rattle.script_reader.specs.Resolved.{each}
use Rattle.script_steps.specs.declared.step.Rule.{Rule}

pub goes_on : {A X : Type 0} (one : A → Result X Rule) (seen : List X) (x : X) (vs : List A) (i : ℕ) (d : A) → i < length vs → one (get_or vs i d) ≡ Ok x → each one seen (drop i vs) ≡ each one (seen ++ x ∷ []) (drop (i + 1) vs)
goes_on one seen x vs i d h e = at_drop_more (each one seen) vs i d h ∙ ap (λ r. r >>= λ n. each one (seen ++ n ∷ []) (drop (i + 1) vs)) e

pub stops : {A X : Type 0} (one : A → Result X Rule) (seen : List X) (rule : Rule) (vs : List A) (i : ℕ) (d : A) → i < length vs → one (get_or vs i d) ≡ Err rule → each one seen (drop i vs) ≡ Err rule
stops one seen rule vs i d h e = at_drop_more (each one seen) vs i d h ∙ ap (λ r. r >>= λ n. each one (seen ++ n ∷ []) (drop (i + 1) vs)) e
