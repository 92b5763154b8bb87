-- What a function returns that takes a value from the front of bytes, and lends the bytes after it.
use Rattle.std.specs.Prelude.{ℕ, List, Result}
use denote.Ref.{Bor}
use Rattle.channel_values.specs.declared.fault.ByteFault.{ByteFault}
use Rattle.channel_values.specs.Reading.{Gives, Tells}

-- what reading gives, unless memory ran out
abbrev pub Takes : {A : Type 0} → Result (A × Bor (List ℕ)) ByteFault → Result (A × List ℕ) ByteFault → Type 0
Takes result read = Gives (λ x. (x.0, x.1.now)) result read

-- what reading gives: it takes no memory
abbrev pub TakesValue : {A : Type 0} → Result (A × Bor (List ℕ)) ByteFault → Result (A × List ℕ) ByteFault → Type 0
TakesValue result read = Tells (λ x. (x.0, x.1.now)) result read
