use Rattle.std.proofs.Common.{◌≡◌, ◌++◌, take, string_bytes}
use Rattle.std.specs.Prelude.{flat_map}
use Rattle.record_checker.specs.Shown.{ending_text}
use Rattle.record_checker.proofs.shown_endings.append_endings.Given as goal

abbrev pub invariant-loop-ending : goal.invariant-loop-ending
invariant-loop-ending l =
    string_bytes l.text ≡ string_bytes l.fn.text ++ flat_map ending_text (take l.ending-index l.ends)
