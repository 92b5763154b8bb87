-- How many indices of its key a node keeps, so that it can close each of its channels, and challenge in it.
use Rattle.std.specs.Prelude.{ℕ, ◌+◌, ◌*◌, ◌^◌, Bool, true, nat_le, List, length}
use Rattle.channel_node.specs.Openings.{opened_by}
use Rattle.funding_plans.specs.Parts.{channels}
use Rattle.network.specs.declared.command.Command.{Command}
use Rattle.network.specs.declared.command.Command.TheVariants.{Open, OpenOn, OpenVirtual, Pay, Release, Resend, Exit}
use Rattle.node_guarantees.specs.Ways.{Numbered}

-- the ledgers that a command names
abbrev pub ledger_count : Command → ℕ
ledger_count (OpenOn o) = 1
ledger_count (OpenVirtual v) = 2
ledger_count command = 0

-- The states that a command has signed: one for a payment, two for each channel that it opens, and two for each ledger.
abbrev pub signs_for : Command → ℕ
signs_for (Pay channel asset amount) = 1
signs_for command = 2 * length (opened_by command) + 2 * ledger_count command

-- And then three for each channel of the plan, with those that the command opens. These are for two states to close
-- it, or to take it out of a ledger, and for a challenge.
abbrev pub needed : Numbered → Command → ℕ
needed p command = 3 * (length (channels p.node.mind.parts) + length (opened_by command)) + signs_for command

-- The key has as many indices left. Commands that sign nothing, and an exit, need none.
abbrev pub has_reserve : Numbered → Command → Bool
has_reserve p Exit = true
has_reserve p (Release how channel) = true
has_reserve p (Resend channel) = true
has_reserve p command = nat_le (p.node.used + needed p command) (2 ^ p.node.signer.h)
