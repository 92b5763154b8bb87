use Rattle.std.proofs.Common.{◌≡◌, ◌++◌, take, string_bytes}
use Rattle.std.specs.Prelude.{flat_map}
use Rattle.report_text.specs.Shares.{share_line_of}
use Rattle.report_text.proofs.people.append_shares.Given as goal

abbrev pub invariant-loop-share : goal.invariant-loop-share
invariant-loop-share l = string_bytes l.text ≡ string_bytes l.fn.text ++ flat_map (share_line_of l.labels l.balances l.who) (take l.share-index l.shares)
