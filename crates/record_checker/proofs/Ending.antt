-- What was read and found is the end of the run.
use Rattle.std.proofs.Common.{◌≡◌, List, ℕ, true, Result, Ok, Err, refl}
use Rattle.channel_values.specs.declared.fault.ByteFault.{ByteFault}
use Rattle.channel_values.specs.declared.fault.ByteFault.TheVariants as faults
use Rattle.channel_values.specs.Reading.{Fails}
use Rattle.run_record.specs.Reading.{record_of}
use Rattle.run_record.specs.declared.run_record.Record.{Record}
use Rattle.run_record.specs.Sound.{IsSound}
use Rattle.record_checker.specs.Faults.{Says}
use Rattle.record_checker.specs.declared.checking.Verdict.{Verdict}
use Rattle.record_checker.specs.declared.checking.Verdict.TheVariants as verdicts
use Rattle.record_checker.specs.Lines.{fault_line, verdict_line}
use Rattle.record_checker.specs.Answering.{Asked, Given, IsReadTo, asks, EndsAs}
use Rattle.record_checker.specs.declared.status.Status.TheVariants.{Done, Unspelled, Unsound}

-- a fault other than running out of memory is what reading gives
pub told : (f : ByteFault) (read : Result Record ByteFault) → (f ≡ faults.NoMemory → ⊥) → Fails f read → read ≡ Err f
told faults.NoMemory read h e = absurd (h refl)
told (faults.Cut place) read h e = e
told (faults.BadTag place) read h e = e
told (faults.OverLimit place) read h e = e
told (faults.Unordered place) read h e = e
told (faults.Doubled place) read h e = e
told (faults.TotalTooLarge place) read h e = e
told (faults.Trailing place) read h e = e

pub sound_end : (a : Asked) (g : Given) (bytes : List ℕ) (r : Record) (text : List ℕ) → asks a g.words ≡ true
    → IsReadTo g bytes → record_of bytes ≡ Ok r → IsSound r → text ≡ a.text r → EndsAs a g Done text
sound_end a g bytes r text w h e s t = (w, bytes, h, (r, e, (s, t)))

pub unsound_end : (a : Asked) (g : Given) (bytes : List ℕ) (r : Record) (v : Verdict) (text : List ℕ) → asks a g.words ≡ true
    → IsReadTo g bytes → record_of bytes ≡ Ok r → Says v r → (v ≡ verdicts.Sound → ⊥) → text ≡ verdict_line v
    → EndsAs a g (Unsound v) text
unsound_end a g bytes r v text w h e s n t = (w, bytes, h, (r, e, (s, n, t)))

pub unspelled_end : (a : Asked) (g : Given) (bytes : List ℕ) (f : ByteFault) (text : List ℕ) → asks a g.words ≡ true
    → IsReadTo g bytes → (f ≡ faults.NoMemory → ⊥) → Fails f (record_of bytes) → text ≡ fault_line f
    → EndsAs a g (Unspelled f) text
unspelled_end a g bytes f text w h n e t = (w, bytes, h, (told f (record_of bytes) n e, t))
