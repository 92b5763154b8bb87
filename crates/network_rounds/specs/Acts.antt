-- Acts of actors.
use Rattle.std.specs.Prelude.{Bool, true, false}
use Rattle.call_history.specs.Limits.{KeepsCall}
use Rattle.network_rounds.specs.declared.actor.Act.{Act}
use Rattle.network_rounds.specs.declared.actor.Act.TheVariants.{Enter, Done}

-- the call that is entered, if one is, keeps the limits that its type doesn't say
abbrev pub IsWithinLimits : Act → Type 0
IsWithinLimits (Enter call) = KeepsCall call
IsWithinLimits _ = Unit {0}

abbrev pub is_done : Act → Bool
is_done Done = true
is_done _ = false
