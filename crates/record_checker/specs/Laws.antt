-- What a verdict says: no two verdicts hold of one record.
use Rattle.std.specs.Prelude.{◌≡◌}
use Rattle.run_record.specs.declared.run_record.Record.{Record}
use Rattle.record_checker.specs.Faults.{Says}
use Rattle.record_checker.specs.declared.checking.Verdict.{Verdict}

abbrev pub VerdictsAreOne : Type 0
VerdictsAreOne = (r : Record) (a b : Verdict) → Says a r → Says b r → a ≡ b
