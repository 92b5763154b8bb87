use Rattle.std.proofs.Common.{◌≡◌, take}
use Rattle.std.specs.List.{flat_map}
use Rattle.channel_store.specs.Keeping.{known_state}
use Rattle.channel_store.proofs.lent.known_of.Given as goal

abbrev pub invariant-loop-k : goal.invariant-loop-k
invariant-loop-k l = l.known.items ≡ flat_map known_state (take l.k-index l.kept)
