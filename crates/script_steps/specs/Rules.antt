-- One check after another, with the first rule that is broken.
use Rattle.std.specs.Prelude.{◌≡◌, ℕ, Bool, Option, Some, None, Result, Ok, Err, if◌then◌else◌, ⊤}
use Rattle.script_steps.specs.declared.step.Rule.{Rule}
use Rattle.script_steps.specs.declared.step.StepFault.{StepFault}
use Rattle.script_steps.specs.declared.step.StepFault.TheVariants.{NoMemory, Broken}

infixl 10 ◌>>=◌
abbrev pub ◌>>=◌ : {A B : Type 0} → Result A Rule → (A → Result B Rule) → Result B Rule
(Ok x) >>= f = f x
(Err e) >>= f = Err e

-- the value, or this rule is broken
abbrev pub given : {A : Type 0} → Rule → Option A → Result A Rule
given rule None = Err rule
given rule (Some x) = Ok x

-- this holds, or the rule is broken
abbrev pub holds : Rule → Bool → Result ℕ Rule
holds rule b = if b then Ok 0 else Err rule

-- What a function returned is what the definition gives, unless memory ran out.
abbrev pub Gives : {X Y : Type 0} → (X → Y) → Result X StepFault → Result Y Rule → Type 0
Gives view (Ok x) read = read ≡ Ok (view x)
Gives view (Err NoMemory) read = ⊤
Gives view (Err (Broken rule)) read = read ≡ Err rule
