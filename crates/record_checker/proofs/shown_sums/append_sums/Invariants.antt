use Rattle.std.proofs.Common.{◌≡◌, ◌++◌, take, string_bytes}
use Rattle.std.specs.Prelude.{flat_map}
use Rattle.record_checker.specs.Shown.{sum_line}
use Rattle.record_checker.proofs.shown_sums.append_sums.Given as goal

abbrev pub invariant-loop-sum : goal.invariant-loop-sum
invariant-loop-sum l =
    string_bytes l.text ≡ string_bytes l.fn.text ++ flat_map sum_line (take l.sum-index l.sums)
