-- What the bytes of a source come to is the end of the showing.
use Rattle.std.proofs.Common.{◌≡◌, ℕ, ◌<◌, List, length, Bool, true, false, Result, Ok, Err, refl, ap, subst, arith}
use Rattle.channel_values.specs.declared.fault.ByteFault.{ByteFault}
use Rattle.byte_streams.proofs.Known.{all_taken, no_more_taken}
use Rattle.run_record.specs.Reading.{record_of}
use Rattle.run_record.specs.declared.run_record.Record.{Record}
use Rattle.record_checker.specs.Answering.{Given, Takes}
use Rattle.record_checker.proofs.Completes.{one_fault, no_fault, not_both}
use Rattle.record_checker.specs.declared.status.Status.{Status}
use Rattle.record_checker.specs.declared.status.Status.TheVariants.{Done, NoMemory, Usage, Unspelled, Unsound, ReadFault, WriteFault, TooLong}
use Rattle.record_checker.specs.Showing.{asks, Comes, IsAnswered, EndsAs, Tells}

comes_once : (bytes : List ℕ) (s t : Status) (text other : List ℕ) → Comes bytes s text → Comes bytes t other → s ≡ t
comes_once bytes Done Done text other a b = refl
comes_once bytes Done (Unspelled f) text other a b = absurd (no_fault (record_of bytes) a.0 f a.1 b.0)
comes_once bytes (Unspelled f) Done text other a b = absurd (no_fault (record_of bytes) b.0 f b.1 a.0)
comes_once bytes (Unspelled f) (Unspelled g) text other a b = ap (λ x. Unspelled x) (one_fault (record_of bytes) f g a.0 b.0)
comes_once bytes NoMemory t text other a b = absurd a
comes_once bytes Usage t text other a b = absurd a
comes_once bytes (Unsound v) t text other a b = absurd a
comes_once bytes ReadFault t text other a b = absurd a
comes_once bytes WriteFault t text other a b = absurd a
comes_once bytes TooLong t text other a b = absurd a
comes_once bytes Done NoMemory text other a b = absurd b
comes_once bytes Done Usage text other a b = absurd b
comes_once bytes Done (Unsound v) text other a b = absurd b
comes_once bytes Done ReadFault text other a b = absurd b
comes_once bytes Done WriteFault text other a b = absurd b
comes_once bytes Done TooLong text other a b = absurd b
comes_once bytes (Unspelled f) NoMemory text other a b = absurd b
comes_once bytes (Unspelled f) Usage text other a b = absurd b
comes_once bytes (Unspelled f) (Unsound v) text other a b = absurd b
comes_once bytes (Unspelled f) ReadFault text other a b = absurd b
comes_once bytes (Unspelled f) WriteFault text other a b = absurd b
comes_once bytes (Unspelled f) TooLong text other a b = absurd b

answered : (g : Given) (s t : Status) (text bytes other : List ℕ) → IsAnswered g s text → Tells bytes g → Comes bytes t other → s ≡ t
answered g s t text bytes other e h c =
    let taken = all_taken g.before g.after bytes e.1 h.told e.2.taken e.2.whole in
    comes_once bytes s t text other (subst (λ xs. Comes xs s text) taken e.3) c

not_long : (g : Given) (bytes : List ℕ) → Takes g (λ taken. 4194304 < length taken) → Tells bytes g → ⊥
not_long g bytes e h =
    let most = no_more_taken g.before g.after bytes e.0 h.told e.1 in
    omega (arith, most, h.short, e.2)

pub completes : (g : Given) (s t : Status) (text bytes other : List ℕ) → EndsAs g s text → Tells bytes g → Comes bytes t other → s ≡ t
completes g Done t text bytes other e h c = answered g Done t text bytes other e h c
completes g (Unspelled f) t text bytes other e h c = answered g (Unspelled f) t text bytes other e h c
completes g Usage t text bytes other e h c = absurd (not_both (asks g.words) e.0 h.asks_it)
completes g ReadFault t text bytes other e h c = absurd (h.faultless e.2)
completes g TooLong t text bytes other e h c = absurd (not_long g bytes e.1 h)
completes g NoMemory t text bytes other e h c = absurd e
completes g (Unsound v) t text bytes other e h c = absurd e
completes g WriteFault t text bytes other e h c = absurd e
