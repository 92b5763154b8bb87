-- How this network names channels.
use Rattle.std.specs.Prelude.{◌≡◌, ℕ, List}
use Rattle.channel_values.specs.Parts.{FixedParts}
use Rattle.channel_values.specs.Spelling.{fixed}
use Rattle.channel_values.specs.Digests.{name_of_channel}
use Rattle.channel_values.specs.Rules.{Rules}

-- the name of the channel that has this fixed part
abbrev pub name_of : FixedParts → List ℕ
name_of f = name_of_channel (fixed f)

-- the rules name channels as this network does
abbrev pub NamesChannels : Rules → Type 0
NamesChannels r = (f : FixedParts) → r.named f ≡ name_of f
