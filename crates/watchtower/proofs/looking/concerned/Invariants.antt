use Rattle.std.proofs.Common.{◌≡◌, take}
use Rattle.std.specs.List.{flat_map}
use Rattle.watchtower.specs.Holders.{holders_of}
use Rattle.watchtower.proofs.looking.concerned.Given as goal

abbrev pub invariant-loop-channel : goal.invariant-loop-channel
invariant-loop-channel l = l.places.items ≡ flat_map (holders_of l.holders.channels.keys l.holders.places.items) (take l.channel-index l.channels)
