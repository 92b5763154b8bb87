-- Lines of the refusals of a command that opens.
use Rattle.std.specs.Prelude.{ℕ, ◌+◌, ◌==◌, nat_lt, List, [], ◌∷◌, length, Option, if◌then◌else◌}
use Rattle.channel_values.specs.Parts.{FixedParts}
use Rattle.call_history.specs.declared.event.NodeRefusal.{NodeRefusal}
use Rattle.call_history.specs.declared.event.NodeRefusal.TheVariants.{TooMany}
use Rattle.channel_values.specs.Words.{fault_if}
use Rattle.funding_plans.specs.Parts.{channels}
use Rattle.network.specs.declared.command.Command.{Command}
use Rattle.channel_node.specs.Minds.{Mind}
use Rattle.channel_node.specs.Openings.{opened_by, takes_part, place_among}

-- the ledgers of a virtual channel on which the part of the participant with this key stands
abbrev pub own_ledgers : List ℕ → (List ℕ × List ℕ) → FixedParts → List (List ℕ)
own_ledgers key ledgers channel =
    if takes_part key channel
    then (if place_among key channel == 1 then ledgers.1 else ledgers.0) ∷ []
    else ledgers.0 ∷ ledgers.1 ∷ []

abbrev pub too_many : Mind → Command → Option NodeRefusal
too_many m command = fault_if (nat_lt 64 (length (channels m.parts) + length (opened_by command))) (TooMany (length (channels m.parts)))
