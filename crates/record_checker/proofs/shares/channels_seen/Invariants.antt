use Rattle.std.proofs.Common.{◌≡◌, take}
use Rattle.std.specs.Prelude.{map}
use Rattle.record_checker.specs.Seen.{channel_seen}
use Rattle.record_checker.proofs.shares.channels_seen.Given as goal

abbrev pub invariant-loop-name : goal.invariant-loop-name
invariant-loop-name l = l.all ≡ map (channel_seen l.past l.asset) (take l.name-index l.names)
