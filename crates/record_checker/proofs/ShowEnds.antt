-- What was read is the end of the showing.
use Rattle.std.proofs.Common.{◌≡◌, List, ℕ, true, Result, Ok, Err, refl}
use Rattle.channel_values.specs.declared.fault.ByteFault.{ByteFault}
use Rattle.channel_values.specs.declared.fault.ByteFault.TheVariants as faults
use Rattle.channel_values.specs.Reading.{Fails}
use Rattle.run_record.specs.Reading.{record_of}
use Rattle.run_record.specs.declared.run_record.Record.{Record}
use Rattle.record_checker.specs.Answering.{Given, IsReadTo}
use Rattle.record_checker.specs.Lines.{fault_line}
use Rattle.record_checker.specs.declared.status.Status.TheVariants.{Done, Unspelled}
use Rattle.record_checker.proofs.Ending.{told}
use Rattle.record_checker.specs.Showing.{asks, EndsAs}
use Rattle.record_checker.specs.Shown.{record_text}

pub shown_end : (g : Given) (bytes : List ℕ) (r : Record) (text : List ℕ) → asks g.words ≡ true
    → IsReadTo g bytes → record_of bytes ≡ Ok r → text ≡ record_text r → EndsAs g Done text
shown_end g bytes r text w h e t = (w, bytes, h, (r, e, t))

pub unspelled_end : (g : Given) (bytes : List ℕ) (f : ByteFault) (text : List ℕ) → asks g.words ≡ true
    → IsReadTo g bytes → (f ≡ faults.NoMemory → ⊥) → Fails f (record_of bytes) → text ≡ fault_line f
    → EndsAs g (Unspelled f) text
unspelled_end g bytes f text w h n e t = (w, bytes, h, (told f (record_of bytes) n e, t))
