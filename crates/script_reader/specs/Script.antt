-- The steps that a script's bytes are, or their first fault.
use Rattle.std.specs.Prelude.{◌≡◌, ◌⊎◌, ◌+◌, ◌++◌, ◌∷◌, [], ℕ, List, length, Bool, false, IsUtf8, Some, None, Result, Ok, Err, ⊤}
use Rattle.serde_json.specs.Data.{Data, Items, no_items, item}
use Rattle.serde_json.specs.Read.{read}
use Rattle.script_reader.specs.Listed.{listed}
use Rattle.script_steps.specs.Conditions.{after}
use Rattle.script_reader.specs.Reading.{step_of, Keeps}
use Rattle.script_steps.specs.declared.context.Context.{Context}
use Rattle.script_steps.specs.declared.step.Rule.{Rule}
use Rattle.script_steps.specs.declared.step.Rule.TheVariants as rules
use Rattle.script_steps.specs.declared.step.Step.{Step}
use Rattle.script_steps.specs.declared.step.StepFault.{StepFault}
use Rattle.script_steps.specs.declared.step.StepFault.TheVariants as stepfaults
use Rattle.script_reader.specs.declared.script.ScriptFault.{ScriptFault}
use Rattle.script_reader.specs.declared.script.ScriptFault.TheVariants.{Broken, NoMemory}

abbrev pub fault_at : ℕ → StepFault → ScriptFault
fault_at step stepfaults.NoMemory = NoMemory
fault_at step (stepfaults.Broken rule) = Broken step rule

-- a rule that is broken at this step
abbrev pub at_step : {A : Type 0} → ℕ → Result A Rule → Result A ScriptFault
at_step step (Ok x) = Ok x
at_step step (Err rule) = Err (Broken step rule)

infixl 10 ◌>>=◌
abbrev pub ◌>>=◌ : {A B : Type 0} → Result A ScriptFault → (A → Result B ScriptFault) → Result B ScriptFault
(Ok x) >>= f = f x
(Err e) >>= f = Err e

-- before the first step
abbrev pub start : Bool → Context
start race = record { race = race; people = []; channels = []; states = []; signers = []; rounds = 0 }

-- the steps that the items are, after those seen, after which c is declared
abbrev pub steps_from : Context → List Step → Items → Result (List Step) ScriptFault
steps_from c seen no_items = Ok seen
steps_from c seen (item d ds) = at_step (length seen + 1) (step_of c d) >>= λ s. steps_from (after c s) (seen ++ s ∷ []) ds

-- the steps of a JSON value, after those after which c is declared, or its first fault
abbrev pub script_of : Context → Data → Result (List Step) ScriptFault
script_of c d = do
  items ← at_step 0 (listed d)
  steps_from c [] items

-- What a function returned is what the definition gives, unless memory ran out.
abbrev pub Ends : {X Y : Type 0} → (X → Y) → Result X ScriptFault → Result Y ScriptFault → Type 0
Ends view (Ok x) read = read ≡ Ok (view x)
Ends view (Err NoMemory) read = ⊤
Ends view (Err (Broken step rule)) read = read ≡ Err (Broken step rule)

-- the bytes are the text of this value
abbrev pub IsJson : List ℕ → Data → Type 0
IsJson bytes d = IsUtf8 bytes × (read bytes ≡ Some d)

-- the bytes are no JSON text
abbrev pub IsNoJson : List ℕ → Type 0
IsNoJson bytes = IsUtf8 bytes → read bytes ≡ None

-- the bytes are a script of these steps, where c is declared before it
abbrev pub IsScriptIn : Context → List ℕ → List Step → Type 0
IsScriptIn c bytes steps = (d : Data) × IsJson bytes d × (script_of c d ≡ Ok steps)

-- the bytes are no JSON text, which breaks a rule of the whole script
abbrev pub BreaksJson : ℕ → Rule → List ℕ → Type 0
BreaksJson step rule bytes = IsNoJson bytes × (step ≡ 0) × (rule ≡ rules.NotJson)

-- the bytes are a JSON text whose first fault is this one
abbrev pub BreaksScript : Context → ℕ → Rule → List ℕ → Type 0
BreaksScript c step rule bytes = (d : Data) × IsJson bytes d × (script_of c d ≡ Err (Broken step rule))

abbrev pub BreaksIn : Context → ℕ → Rule → List ℕ → Type 0
BreaksIn c step rule bytes = BreaksJson step rule bytes ⊎ BreaksScript c step rule bytes

-- the bytes are these steps, or this is their first fault
abbrev pub IsReadingIn : {X : Type 0} → Context → (X → List Step) → List ℕ → Result X ScriptFault → Type 0
IsReadingIn c steps_of bytes (Ok x) = IsScriptIn c bytes (steps_of x)
IsReadingIn c steps_of bytes (Err NoMemory) = ⊤
IsReadingIn c steps_of bytes (Err (Broken step rule)) = BreaksIn c step rule bytes

-- the bytes are a script of these steps
abbrev pub IsScript : Bool → List ℕ → List Step → Type 0
IsScript race bytes steps = IsScriptIn (start race) bytes steps

-- the rule that the bytes break first, at this step
abbrev pub Breaks : Bool → ℕ → Rule → List ℕ → Type 0
Breaks race step rule bytes = BreaksIn (start race) step rule bytes

abbrev pub IsReading : {X : Type 0} → Bool → (X → List Step) → List ℕ → Result X ScriptFault → Type 0
IsReading race steps_of bytes result = IsReadingIn (start race) steps_of bytes result

-- each step keeps the rules, by what those before it declare
abbrev pub AreChecked : Context → List Step → Type 0
AreChecked c [] = ⊤
AreChecked c (s ∷ ss) = Keeps c s × AreChecked (after c s) ss
