use Rattle.std.proofs.Common.{◌≡◌, ◌++◌, take, string_bytes}
use Rattle.std.specs.Prelude.{flat_map}
use Rattle.report_text.specs.Shares.{person_lines}
use Rattle.report_text.proofs.people.append_people.Given as goal

abbrev pub invariant-loop-judged : goal.invariant-loop-judged
invariant-loop-judged l = string_bytes l.text ≡ string_bytes l.fn.text ++ flat_map (person_lines l.labels l.balances l.report.shares l.report.exits) (take l.judged-index l.report.premises)
