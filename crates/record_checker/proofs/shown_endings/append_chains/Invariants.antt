use Rattle.std.proofs.Common.{◌≡◌, ◌++◌, take, string_bytes}
use Rattle.std.specs.Prelude.{flat_map}
use Rattle.record_checker.specs.Shown.{chain_line}
use Rattle.record_checker.proofs.shown_endings.append_chains.Given as goal

abbrev pub invariant-loop-held : goal.invariant-loop-held
invariant-loop-held l =
    string_bytes l.text ≡ string_bytes l.fn.text ++ flat_map chain_line (take l.held-index l.chains)
