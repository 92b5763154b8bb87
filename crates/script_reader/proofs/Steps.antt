-- Steps that are read one after another.
use Rattle.std.proofs.Common.{◌≡◌, ℕ, ◌+◌, List, [], ◌∷◌, ◌++◌, length, ap, ◌∙◌, ◌<◌, get_or, drop, Result, Ok, Err, Some, None, arith, length-append, append-nil}
use Rattle.std.proofs.lemmas.List.{at_drop_more}
use Rattle.std.proofs.lemmas.List.Elements.{filter_map-append}
use Rattle.serde_json.specs.declared.value.Value.{Value}
use Rattle.serde_json.specs.View.{view, items_view}
use Rattle.lms_signatures.specs.Signing.{Signing}
use Rattle.script_steps.specs.Bounds.{signers_of}
use Rattle.script_steps.specs.Conditions.{after, signer_of}
use Rattle.script_reader.specs.Reading.{step_of}
use Rattle.script_reader.specs.Script.{◌>>=◌, at_step, steps_from}
use Rattle.script_steps.specs.declared.context.Context.{Context}
use Rattle.script_steps.specs.declared.step.Step.{Step}
use Rattle.script_reader.specs.declared.script.ScriptFault.{ScriptFault}

-- what is read of the values that are left, after the steps seen
abbrev pub steps_left : Context → List Step → List Value → Result (List Step) ScriptFault
steps_left c seen vs = steps_from c seen (items_view vs)

pub goes_on : (c : Context) (seen : List Step) (s : Step) (vs : List Value) (i n : ℕ) (d : Value) → i < length vs → n ≡ length seen + 1 → at_step n (step_of c (view (get_or vs i d))) ≡ Ok s
    → steps_left c seen (drop i vs) ≡ steps_left (after c s) (seen ++ s ∷ []) (drop (i + 1) vs)
goes_on c seen s vs i n d h same e =
    let here : at_step (length seen + 1) (step_of c (view (get_or vs i d))) ≡ Ok s = rw (← same) e in
    at_drop_more (steps_left c seen) vs i d h
    ∙ ap (λ r. r >>= λ x. steps_from (after c x) (seen ++ x ∷ []) (items_view (drop (i + 1) vs))) here

pub stops : (c : Context) (seen : List Step) (f : ScriptFault) (vs : List Value) (i n : ℕ) (d : Value) → i < length vs → n ≡ length seen + 1 → at_step n (step_of c (view (get_or vs i d))) ≡ Err f
    → steps_left c seen (drop i vs) ≡ Err f
stops c seen f vs i n d h same e =
    let here : at_step (length seen + 1) (step_of c (view (get_or vs i d))) ≡ Err f = rw (← same) e in
    at_drop_more (steps_left c seen) vs i d h ∙ ap (λ r. r >>= λ x. steps_from (after c x) (seen ++ x ∷ []) (items_view (drop (i + 1) vs))) here

pub length_push : (seen : List Step) (s : Step) → length (seen ++ s ∷ []) ≡ length seen + 1
length_push seen s = omega (arith, length-append seen (s ∷ []))

pub signer_push : (seen : List Step) (s : Step) (x : Signing) → signer_of s ≡ Some x → signers_of (seen ++ s ∷ []) ≡ signers_of seen ++ x ∷ []
signer_push seen s x h = filter_map-append signer_of seen (s ∷ []) ∙ cc

pub signer_none : (seen : List Step) (s : Step) → signer_of s ≡ None → signers_of (seen ++ s ∷ []) ≡ signers_of seen
signer_none seen s h =
    let ends : signers_of (s ∷ []) ≡ [] = cc in
    filter_map-append signer_of seen (s ∷ []) ∙ ap (λ l. signers_of seen ++ l) ends ∙ append-nil (signers_of seen)
