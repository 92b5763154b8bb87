use Rattle.std.proofs.Common.{◌≡◌, ◌++◌, [], take, string_bytes}
use Rattle.std.specs.Prelude.{flat_map}
use Rattle.report_lines.specs.Text.{entry_line}
use Rattle.record_checker.proofs.shown_text.append_entries.Given as goal

abbrev pub invariant-loop-entry : goal.invariant-loop-entry
invariant-loop-entry l =
    string_bytes l.text ≡ string_bytes l.fn.text ++ flat_map (entry_line []) (take l.entry-index l.history)
