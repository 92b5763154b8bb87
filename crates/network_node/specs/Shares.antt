-- What is reported of a node: what its person can get, what it knows, and its events with their commands.
use Rattle.std.specs.Prelude.{ℕ, Bool, List, Option}
use Rattle.funding_plans.specs.Known.{FactsOf}
use Rattle.channel_node.specs.Minds.{facts_of}
use Rattle.node_guarantees.specs.Gains.{share_known}
use Rattle.node_guarantees.specs.Ways.{Numbered}

abbrev pub shares : Numbered → ℕ → ℕ
shares p asset = share_known p.node.mind asset

abbrev pub exits : Numbered → Option (List (ℕ × ℕ))
exits p = p.exits

abbrev pub facts : Numbered → FactsOf
facts p = facts_of p.node.mind

abbrev pub is_lost : Numbered → Bool
is_lost p = p.node.is_lost
