-- One check after another, with the first fault.
use Rattle.std.specs.Prelude.{◌≡◌, ℕ, Bool, if◌then◌else◌, Option, Some, None, Result, Ok, Err, ⊤}
use Rattle.channel_values.specs.declared.fault.ByteFault.{ByteFault}
use Rattle.node_lines.specs.declared.faults.Invalid.{Invalid}
use Rattle.node_lines.specs.declared.faults.Invalid.TheVariants as faults
use Rattle.node_lines.specs.declared.faults.LineError.{LineError}
use Rattle.node_lines.specs.declared.faults.LineError.TheVariants as errors

infixl 10 ◌>>=◌
abbrev pub ◌>>=◌ : {A B : Type 0} → Result A Invalid → (A → Result B Invalid) → Result B Invalid
(Ok x) >>= f = f x
(Err e) >>= f = Err e

-- the value, or this fault
abbrev pub given : {A : Type 0} → Invalid → Option A → Result A Invalid
given fault None = Err fault
given fault (Some x) = Ok x

-- this holds, or it is the fault
abbrev pub holds : Invalid → Bool → Result ℕ Invalid
holds fault b = if b then Ok 0 else Err fault

-- what canonical bytes spell, or that they spell nothing
abbrev pub spelled : {A : Type 0} → Result A ByteFault → Result A Invalid
spelled (Ok x) = Ok x
spelled (Err e) = Err faults.Bytes

-- What a function returned is what the definition gives, unless memory ran out.
abbrev pub Gives : {X Y : Type 0} → (X → Y) → Result X LineError → Result Y Invalid → Type 0
Gives view (Ok x) read = read ≡ Ok (view x)
Gives view (Err errors.NoMemory) read = ⊤
Gives view (Err (errors.Invalid fault)) read = read ≡ Err fault
