-- What the bytes of a source come to is the end of the run.
use Rattle.std.proofs.Common.{◌≡◌, ℕ, ◌<◌, List, length, Bool, true, false, Result, Ok, Err, refl, sym, ap, subst, arith}
use Rattle.channel_values.specs.declared.fault.ByteFault.{ByteFault}
use Rattle.byte_streams.proofs.Known.{all_taken, no_more_taken}
use Rattle.run_record.specs.Reading.{record_of}
use Rattle.run_record.specs.declared.run_record.Record.{Record}
use Rattle.record_checker.specs.Faults.{Says}
use Rattle.record_checker.specs.declared.checking.Verdict.{Verdict}
use Rattle.record_checker.specs.declared.checking.Verdict.TheVariants as verdicts
use Rattle.record_checker.proofs.Faults.{one_verdict}
use Rattle.record_checker.specs.Answering.{Asked, Given, asks, Comes, Takes, IsAnswered, EndsAs, Tells}
use Rattle.record_checker.specs.declared.status.Status.{Status}
use Rattle.record_checker.specs.declared.status.Status.TheVariants.{Done, NoMemory, Usage, Unspelled, Unsound, ReadFault, WriteFault, TooLong}

-- bytes spell one record, or have one fault
one_record : (x : Result Record ByteFault) (r q : Record) → x ≡ Ok r → x ≡ Ok q → r ≡ q
one_record x r q a b = cc

pub one_fault : (x : Result Record ByteFault) (f g : ByteFault) → x ≡ Err f → x ≡ Err g → f ≡ g
one_fault x f g a b = cc

pub no_fault : (x : Result Record ByteFault) (r : Record) (f : ByteFault) → x ≡ Ok r → x ≡ Err f → ⊥
no_fault x r f a b = cc

said_once : (x : Result Record ByteFault) (r q : Record) (v w : Verdict) → x ≡ Ok r → x ≡ Ok q → Says v r → Says w q → v ≡ w
said_once x r q v w a b s t = (one_verdict r v s w).1 (subst (Says w) (sym (one_record x r q a b)) t)

comes_once : (k : Asked) (bytes : List ℕ) (s t : Status) (text other : List ℕ) → Comes k bytes s text → Comes k bytes t other → s ≡ t
comes_once k bytes Done Done text other a b = refl
comes_once k bytes Done (Unspelled f) text other a b = absurd (no_fault (record_of bytes) a.0 f a.1 b.0)
comes_once k bytes Done (Unsound v) text other a b =
    absurd (b.2.1 (said_once (record_of bytes) b.0 a.0 v verdicts.Sound b.1 a.1 b.2.0 a.2.0))
comes_once k bytes (Unspelled f) Done text other a b = absurd (no_fault (record_of bytes) b.0 f b.1 a.0)
comes_once k bytes (Unspelled f) (Unspelled g) text other a b = ap (λ x. Unspelled x) (one_fault (record_of bytes) f g a.0 b.0)
comes_once k bytes (Unspelled f) (Unsound v) text other a b = absurd (no_fault (record_of bytes) b.0 f b.1 a.0)
comes_once k bytes (Unsound v) Done text other a b =
    absurd (a.2.1 (said_once (record_of bytes) a.0 b.0 v verdicts.Sound a.1 b.1 a.2.0 b.2.0))
comes_once k bytes (Unsound v) (Unspelled f) text other a b = absurd (no_fault (record_of bytes) a.0 f a.1 b.0)
comes_once k bytes (Unsound v) (Unsound w) text other a b =
    ap (λ x. Unsound x) (said_once (record_of bytes) a.0 b.0 v w a.1 b.1 a.2.0 b.2.0)
comes_once k bytes NoMemory t text other a b = absurd a
comes_once k bytes Usage t text other a b = absurd a
comes_once k bytes ReadFault t text other a b = absurd a
comes_once k bytes WriteFault t text other a b = absurd a
comes_once k bytes TooLong t text other a b = absurd a
comes_once k bytes Done NoMemory text other a b = absurd b
comes_once k bytes Done Usage text other a b = absurd b
comes_once k bytes Done ReadFault text other a b = absurd b
comes_once k bytes Done WriteFault text other a b = absurd b
comes_once k bytes Done TooLong text other a b = absurd b
comes_once k bytes (Unspelled f) NoMemory text other a b = absurd b
comes_once k bytes (Unspelled f) Usage text other a b = absurd b
comes_once k bytes (Unspelled f) ReadFault text other a b = absurd b
comes_once k bytes (Unspelled f) WriteFault text other a b = absurd b
comes_once k bytes (Unspelled f) TooLong text other a b = absurd b
comes_once k bytes (Unsound v) NoMemory text other a b = absurd b
comes_once k bytes (Unsound v) Usage text other a b = absurd b
comes_once k bytes (Unsound v) ReadFault text other a b = absurd b
comes_once k bytes (Unsound v) WriteFault text other a b = absurd b
comes_once k bytes (Unsound v) TooLong text other a b = absurd b

answered : (k : Asked) (g : Given) (s t : Status) (text bytes other : List ℕ) → IsAnswered k g s text → Tells k bytes g → Comes k bytes t other → s ≡ t
answered k g s t text bytes other e h c =
    let taken = all_taken g.before g.after bytes e.1 h.told e.2.taken e.2.whole in
    comes_once k bytes s t text other (subst (λ xs. Comes k xs s text) taken e.3) c

not_long : (k : Asked) (g : Given) (bytes : List ℕ) → Takes g (λ taken. 4194304 < length taken) → Tells k bytes g → ⊥
not_long k g bytes e h =
    let most = no_more_taken g.before g.after bytes e.0 h.told e.1 in
    omega (arith, most, h.short, e.2)

pub not_both : (b : Bool) → b ≡ false → b ≡ true → ⊥
not_both b p q = cc

pub completes : (k : Asked) (g : Given) (s t : Status) (text bytes other : List ℕ) → EndsAs k g s text → Tells k bytes g → Comes k bytes t other → s ≡ t
completes k g Done t text bytes other e h c = answered k g Done t text bytes other e h c
completes k g (Unspelled f) t text bytes other e h c = answered k g (Unspelled f) t text bytes other e h c
completes k g (Unsound v) t text bytes other e h c = answered k g (Unsound v) t text bytes other e h c
completes k g Usage t text bytes other e h c = absurd (not_both (asks k g.words) e.0 h.asks_it)
completes k g ReadFault t text bytes other e h c = absurd (h.faultless e.2)
completes k g TooLong t text bytes other e h c = absurd (not_long k g bytes e.1 h)
completes k g NoMemory t text bytes other e h c = absurd e
completes k g WriteFault t text bytes other e h c = absurd e
