-- The numbers by which records distinguish sums.
use Rattle.std.specs.Prelude.{ℕ, ◌==◌, Option, Some, None, if◌then◌else◌}
use Rattle.run_record.specs.declared.run_record.SumOf.{SumOf}
use Rattle.run_record.specs.declared.run_record.SumOf.TheVariants as sums

abbrev pub sum_number : SumOf → ℕ
sum_number sums.Deposited = 1
sum_number sums.Held = 2
sum_number sums.Paid = 3

abbrev pub sum_of : ℕ → Option SumOf
sum_of n =
    if n == 1 then Some sums.Deposited
    else (if n == 2 then Some sums.Held
    else (if n == 3 then Some sums.Paid
    else None))
