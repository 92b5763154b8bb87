-- Refusals in their order: each call is a table, of which the first line that holds is the answer.
use Rattle.std.specs.Prelude.{Bool, Option, Some, None, Result, Ok, Err, if◌then◌else◌}
use Rattle.call_history.specs.declared.refusal.Refusal.{Refusal}
use Rattle.call_history.specs.declared.refusal.Reply.{Reply}
use Rattle.call_history.specs.declared.refusal.Reply.TheVariants.{No}

-- a refusal where the test says so, else what comes after it
abbrev pub refuse_if : {A : Type 0} → Bool → Refusal → Result A Refusal → Result A Refusal
refuse_if refused refusal rest = if refused then Err refusal else rest

-- the refusal for a fault where there is one, else what comes after it
abbrev pub refuse_fault : {A F : Type 0} → Option F → (F → Refusal) → Result A Refusal → Result A Refusal
refuse_fault None refusal rest = rest
refuse_fault (Some fault) refusal rest = Err (refusal fault)

-- the reply that says it
abbrev pub told : {A : Type 0} → (A → Reply) → Result A Refusal → Reply
told say (Ok value) = say value
told say (Err refusal) = No refusal
