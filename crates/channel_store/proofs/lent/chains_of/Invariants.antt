use Rattle.std.proofs.Common.{◌≡◌, take}
use Rattle.std.specs.List.{flat_map}
use Rattle.channel_store.specs.Keeping.{held_chain}
use Rattle.channel_store.proofs.lent.chains_of.Given as goal

abbrev pub invariant-loop-k : goal.invariant-loop-k
invariant-loop-k l = l.chains.items ≡ flat_map held_chain (take l.k-index l.kept)
