use Rattle.std.proofs.Common.{◌≡◌, ◌++◌, take}
use Rattle.std.specs.List.{flat_map, AllByRecursion}
use Rattle.run_record.specs.Limits.{IsShare}
use Rattle.run_record.specs.Spelling.{share}
use Rattle.run_record.proofs.putting.put_shares.Given as goal

abbrev pub invariant-loop-share : goal.invariant-loop-share
invariant-loop-share l = (l.out.items ≡ l.initial.out.items ++ flat_map share (take l.share-index l.shares)) × AllByRecursion IsShare (take l.share-index l.shares)
