use Rattle.std.proofs.Common.{◌≡◌, take, map}
use Rattle.channel_store.specs.Keeping.{place_in}
use Rattle.channel_store.proofs.lent.places_of.Given as goal

abbrev pub invariant-loop-k : goal.invariant-loop-k
invariant-loop-k l = l.places.items ≡ map place_in (take l.k-index l.kept)
