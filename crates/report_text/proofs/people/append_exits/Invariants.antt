use Rattle.std.proofs.Common.{◌≡◌, ◌++◌, take, string_bytes}
use Rattle.std.specs.Prelude.{flat_map}
use Rattle.report_text.specs.Shares.{exit_line_of}
use Rattle.report_text.proofs.people.append_exits.Given as goal

abbrev pub invariant-loop-exit : goal.invariant-loop-exit
invariant-loop-exit l = string_bytes l.text ≡ string_bytes l.fn.text ++ flat_map (exit_line_of l.labels l.who) (take l.exit-index l.exits)
