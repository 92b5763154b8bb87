use Rattle.std.proofs.Common.{◌≡◌, ◌++◌, take, string_bytes}
use Rattle.std.specs.Prelude.{flat_map}
use Rattle.record_checker.specs.Shown.{share_line}
use Rattle.record_checker.proofs.shown_endings.append_shares.Given as goal

abbrev pub invariant-loop-share : goal.invariant-loop-share
invariant-loop-share l =
    string_bytes l.text ≡ string_bytes l.fn.text ++ flat_map share_line (take l.share-index l.shares)
