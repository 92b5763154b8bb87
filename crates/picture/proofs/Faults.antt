-- What was found of bytes says whether they are drawn.
use Rattle.std.proofs.Common.{◌≡◌, ℕ, List, Bool, true, false, Result, Err, IsOk, refl}
use Rattle.channel_values.specs.declared.fault.ByteFault.{ByteFault}
use Rattle.channel_values.specs.declared.fault.ByteFault.TheVariants as faults
use Rattle.channel_values.specs.Reading.{Fails}
use Rattle.run_record.specs.Reading.{record_of}
use Rattle.run_record.specs.declared.run_record.Record.{Record}
use Rattle.picture.specs.Drawing.{is_record, AreDrawn, HasFault}
use Rattle.picture.specs.declared.drawing.Undrawn.TheVariants as undrawn

pub record_is_drawn : (bytes : List ℕ) → IsOk (record_of bytes) → AreDrawn bytes
record_is_drawn bytes h e = h

not_both : (b : Bool) → b ≡ false → b ≡ true → ⊥
not_both b p q = cc

pub text_is_drawn : (bytes : List ℕ) → is_record bytes ≡ false → AreDrawn bytes
text_is_drawn bytes f e = absurd (not_both (is_record bytes) f e)

told : (f : ByteFault) (read : Result Record ByteFault) → (f ≡ faults.NoMemory → ⊥) → Fails f read → read ≡ Err f
told faults.NoMemory read h e = absurd (h refl)
told (faults.Cut place) read h e = e
told (faults.BadTag place) read h e = e
told (faults.OverLimit place) read h e = e
told (faults.Unordered place) read h e = e
told (faults.Doubled place) read h e = e
told (faults.TotalTooLarge place) read h e = e
told (faults.Trailing place) read h e = e

pub byte_fault : (bytes : List ℕ) (f : ByteFault) → is_record bytes ≡ true → (f ≡ faults.NoMemory → ⊥) → Fails f (record_of bytes)
    → HasFault bytes (undrawn.Byte f)
byte_fault bytes f r h e = (r, told f (record_of bytes) h e)
