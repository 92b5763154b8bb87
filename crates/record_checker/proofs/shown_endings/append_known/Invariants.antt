use Rattle.std.proofs.Common.{◌≡◌, ◌++◌, take, string_bytes}
use Rattle.std.specs.Prelude.{flat_map}
use Rattle.record_checker.specs.Shown.{known_line}
use Rattle.record_checker.proofs.shown_endings.append_known.Given as goal

abbrev pub invariant-loop-state : goal.invariant-loop-state
invariant-loop-state l =
    string_bytes l.text ≡ string_bytes l.fn.text ++ flat_map known_line (take l.state-index l.known)
