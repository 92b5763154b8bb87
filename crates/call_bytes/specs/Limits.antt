-- Which replies keep the limits of the format.
use Rattle.std.specs.Prelude.{ℕ, ◌^◌, ◌<◌}
use Rattle.channel_values.specs.declared.fault.SupportFault.{SupportFault}
use Rattle.channel_values.specs.declared.fault.SupportFault.TheVariants as supports
use Rattle.channel_values.specs.Outcomes.{IsName}
use Rattle.call_history.specs.declared.refusal.Refusal.{Refusal}
use Rattle.call_history.specs.declared.refusal.Refusal.TheVariants.{NotSupported, Stale, WrongTurn, NotNewer, NotFinalState, Underheld, AssetFull, NotFinal, WrongOutcome, NothingDue, Backwards}
use Rattle.call_history.specs.declared.refusal.Reply.{Reply}
use Rattle.call_history.specs.declared.refusal.Reply.TheVariants.{Held, Until, Opened, Concluded, Paid, Now, No}

abbrev pub IsLong : ℕ → Type 0
IsLong n = n < 2 ^ 64

abbrev pub IsSupportFault : SupportFault → Type 0
IsSupportFault supports.Length = Unit {0}
IsSupportFault (supports.Turn place) = IsLong place
IsSupportFault (supports.Step place fault) = IsLong place
IsSupportFault (supports.Signature who) = IsLong who

abbrev pub IsRefusal : Refusal → Type 0
IsRefusal (NotSupported fault) = IsSupportFault fault
IsRefusal (Stale n) = IsLong n
IsRefusal (WrongTurn n) = IsLong n
IsRefusal (NotNewer n) = IsLong n
IsRefusal (NotFinalState n) = IsLong n
IsRefusal (Underheld n) = IsLong n
IsRefusal (AssetFull n) = IsLong n
IsRefusal (NotFinal name) = IsName name
IsRefusal (WrongOutcome name) = IsName name
IsRefusal (NothingDue n) = IsLong n
IsRefusal (Backwards n) = IsLong n
IsRefusal _ = Unit {0}

abbrev pub IsReply : Reply → Type 0
IsReply (Held n) = IsLong n
IsReply (Until n) = IsLong n
IsReply (Opened n) = IsLong n
IsReply (Concluded n) = IsLong n
IsReply (Paid n) = IsLong n
IsReply (Now n) = IsLong n
IsReply (No why) = IsRefusal why
