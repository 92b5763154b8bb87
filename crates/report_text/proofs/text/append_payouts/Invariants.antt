use Rattle.std.proofs.Common.{◌≡◌, ◌++◌, take, string_bytes}
use Rattle.std.specs.Prelude.{flat_map}
use Rattle.report_text.specs.Text.{paid_line}
use Rattle.report_text.proofs.text.append_payouts.Given as goal

abbrev pub invariant-loop-pair : goal.invariant-loop-pair
invariant-loop-pair l = string_bytes l.text ≡ string_bytes l.fn.text ++ flat_map (paid_line l.labels l.balances) (take l.pair-index l.pairs)
