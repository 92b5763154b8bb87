use Rattle.std.proofs.Common.{◌≡◌, take}
use Rattle.std.specs.Prelude.{All}
use Rattle.record_checker.specs.Seen.{HasSharesBy}
use Rattle.record_checker.proofs.shares.first_bad_share.Given as goal

abbrev pub invariant-loop-ending : goal.invariant-loop-ending
invariant-loop-ending l = record {
  counted : l.count ≡ l.ending-index;
  all : All (HasSharesBy l.past l.assets) (take l.ending-index l.ends);
}
