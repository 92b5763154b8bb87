-- Data that fit a state, and its making: where the parts are those of a state it fails for want of memory alone.
use Rattle.std.proofs.Common.{◌≡◌, ℕ, zero, suc, ◌<◌, List, ◌∷◌, Result, Ok, Err, refl}
use Rattle.std.specs.Prelude.{IfErr}
use Rattle.channel_values.specs.Outcomes.{AreBytes}
use Rattle.channel_values.specs.Reading.{Fails, Gives}
use Rattle.channel_values.specs.declared.fault.ByteFault.{ByteFault}
use Rattle.channel_values.specs.declared.fault.ByteFault.TheVariants.{Cut, BadTag, OverLimit, Unordered, Doubled, TotalTooLarge, Trailing, NoMemory}

only_memory : {Y : Type 0} (e : ByteFault) (y : Y) → Fails e (Ok y) → e ≡ NoMemory
only_memory (Cut i) y h = absurd cc
only_memory (BadTag i) y h = absurd cc
only_memory (OverLimit i) y h = absurd cc
only_memory (Unordered i) y h = absurd cc
only_memory (Doubled i) y h = absurd cc
only_memory (TotalTooLarge i) y h = absurd cc
only_memory (Trailing i) y h = absurd cc
only_memory NoMemory y h = refl

pub fault_of_memory : {X Y : Type 0} (view : X → Y) (made : Result X ByteFault) (y : Y) → Gives view made (Ok y) → IfErr made (λ (fault : ByteFault). fault ≡ NoMemory)
fault_of_memory view (Ok x) y h = tt
fault_of_memory view (Err e) y h = only_memory e y h

pub bytes_after : (k : ℕ) (bytes : List ℕ) → k < 256 → AreBytes bytes → AreBytes (k ∷ bytes)
bytes_after k bytes h each zero = h
bytes_after k bytes h each (suc i) = each i
