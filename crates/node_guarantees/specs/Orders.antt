-- What a node's commands ask for.
use Rattle.std.specs.Prelude.{ℕ, ◌==◌, List, [], ◌∷◌, length, Option, Some, None, if◌then◌else◌}
use Rattle.channel_values.specs.Rules.{Rules}
use Rattle.funding_plans.specs.declared.plan.Part.{Part}
use Rattle.share_laws.specs.Places.{Order, opening, paying, other}
use Rattle.network.specs.declared.command.Command.{Command}
use Rattle.network.specs.declared.command.Command.TheVariants.{Pay}
use Rattle.channel_node.specs.Openings.{parts_of}
use Rattle.channel_node.specs.Places.{Told}

-- a command that opens adds one part
abbrev pub opening_of : List Part → Order
opening_of [] = other
opening_of (part ∷ parts) = opening part

abbrev pub order_of : Rules → List ℕ → Option Command → Order
order_of r key None = other
order_of r key (Some (Pay channel asset amount)) = paying asset amount
order_of r key (Some command) = opening_of (parts_of r key command)

-- what the command of each event asks for, by the number of events before it, for the participant with this key
abbrev pub orders_of : Rules → List ℕ → List Told → ℕ → Order
orders_of r key [] place = other
orders_of r key (x ∷ front) place = if place == length front then order_of r key x.command else orders_of r key front place
