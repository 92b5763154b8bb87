-- Which calls and messages keep the limits of the format.
use Rattle.std.specs.Prelude.{◌^◌, ◌<◌, ◌≤◌, length}
use Rattle.channel_values.specs.Outcomes.{IsName, IsOutcome}
use Rattle.channel_values.specs.Parts.{IsFixed, IsState}
use Rattle.channel_values.specs.declared.chain.Signed.{Signed}
use Rattle.channel_values.specs.Chains.{IsSignature, IsSigned, IsChain, KeepsLimits}
use Rattle.call_history.specs.Spelling.{Message}
use Rattle.call_history.specs.declared.call.Call.{Call}
use Rattle.call_history.specs.declared.call.Call.TheVariants.{Deposit, Challenge, Respond, Refute, Checkpoint, Conclude, Transfer, Claim}

abbrev pub IsCall : Call → Type 0
IsCall (Deposit d) = IsName d.channel × (d.asset < 2 ^ 32) × (d.expected < 2 ^ 64) × (d.amount < 2 ^ 64)
IsCall (Challenge k) = IsChain k.chain × (k.challenger < 256) × IsSignature k.signature
IsCall (Respond k) = IsFixed k.fixed × IsState k.from × IsSigned k.next
IsCall (Refute f next) = IsFixed f × IsSigned next
IsCall (Checkpoint c) = IsChain c
IsCall (Conclude c) = IsChain c
IsCall (Transfer k) = IsName k.channel × IsOutcome k.outcome × (k.asset < 2 ^ 32) × (k.index < 256)
IsCall (Claim k) =
    IsName k.guarantor × IsOutcome k.guarantor_outcome × IsName k.target × IsOutcome k.target_outcome
    × (k.asset < 2 ^ 32) × (k.position < 256)

abbrev pub IsMessage : Message → Type 0
IsMessage m = IsName m.0 × IsSigned m.1

-- What the types don't say: how long the signatures are, and how many states and marks a chain has.
abbrev pub IsShort : Signed → Type 0
IsShort next = length next.signature ≤ 9004

abbrev pub KeepsCall : Call → Type 0
KeepsCall (Deposit d) = Unit {0}
KeepsCall (Challenge k) = KeepsLimits k.chain × (length k.signature ≤ 9004)
KeepsCall (Respond k) = IsShort k.next
KeepsCall (Refute f next) = IsShort next
KeepsCall (Checkpoint c) = KeepsLimits c
KeepsCall (Conclude c) = KeepsLimits c
KeepsCall (Transfer k) = Unit {0}
KeepsCall (Claim k) = Unit {0}
