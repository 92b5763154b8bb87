use Rattle.std.proofs.Common.{◌≡◌, ◌++◌, take, string_bytes}
use Rattle.std.specs.Prelude.{flat_map}
use Rattle.record_checker.specs.Shown.{part_line}
use Rattle.record_checker.proofs.shown_plans.append_parts.Given as goal

abbrev pub invariant-loop-part : goal.invariant-loop-part
invariant-loop-part l =
    string_bytes l.text ≡ string_bytes l.fn.text ++ flat_map part_line (take l.part-index l.parts)
