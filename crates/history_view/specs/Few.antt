-- A channel of few people.
use Rattle.std.specs.Prelude.{◌≤◌, Option, Some, None}
use Rattle.channel_values.specs.Parts.{FixedParts}
use Rattle.channel_values.specs.Rules.{people}

-- the op is of no row, or of a channel of at most four people, as all values are
abbrev pub OfFew : Option FixedParts → Type 0
OfFew None = Unit {0}
OfFew (Some f) = people f ≤ 4
