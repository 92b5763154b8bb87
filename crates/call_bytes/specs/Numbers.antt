-- The numbers by which replies, refusals and faults are distinguished.
use Rattle.std.specs.Prelude.{ℕ, ◌==◌, List, Option, Some, None, if◌then◌else◌}
use Rattle.channel_values.specs.declared.fault.StepFault.{StepFault}
use Rattle.channel_values.specs.declared.fault.StepFault.TheVariants as steps
use Rattle.channel_values.specs.declared.fault.SupportFault.{SupportFault}
use Rattle.channel_values.specs.declared.fault.SupportFault.TheVariants as supports
use Rattle.call_history.specs.declared.refusal.Refusal.{Refusal}
use Rattle.call_history.specs.declared.refusal.Refusal.TheVariants.{IsFinal, Stale, BadChallenger, NoChallenge, WrongState, WrongTurn, BadSignature, NotNewer, NotChallengers, NotFinalState, Zero, Underheld, AssetFull, NotFinal, WrongOutcome, NoAsset, WrongKind, WrongTarget, NotListed, NoItem, NothingDue, Backwards, TooLate}
use Rattle.call_history.specs.declared.refusal.Reply.{Reply}
use Rattle.call_history.specs.declared.refusal.Reply.TheVariants.{Held, Until, Opened, Concluded, Paid, Now}

-- ---- faults

abbrev pub step_number : StepFault → ℕ
step_number steps.Outcome = 1
step_number steps.Data = 2
step_number steps.Votes = 3
step_number steps.Proposal = 4
step_number steps.Raised = 5
step_number steps.Lowered = 6
step_number steps.EarlyFinal = 7
step_number steps.AfterFinal = 8

abbrev pub step_of : ℕ → Option StepFault
step_of n =
    if n == 1 then Some steps.Outcome
    else (if n == 2 then Some steps.Data
    else (if n == 3 then Some steps.Votes
    else (if n == 4 then Some steps.Proposal
    else (if n == 5 then Some steps.Raised
    else (if n == 6 then Some steps.Lowered
    else (if n == 7 then Some steps.EarlyFinal
    else (if n == 8 then Some steps.AfterFinal
    else None)))))))

-- without a broken rule of a step
abbrev pub bare_of : (tag place : ℕ) → Option SupportFault
bare_of tag place =
    if tag == 1 then Some supports.Length
    else (if tag == 2 then Some (supports.Turn place)
    else (if tag == 4 then Some (supports.Signature place)
    else None))

abbrev pub stepping_of : (place : ℕ) → Option StepFault → Option SupportFault
stepping_of place None = None
stepping_of place (Some fault) = Some (supports.Step place fault)

abbrev pub support_of : (tag place step : ℕ) → Option SupportFault
support_of tag place step =
    if tag == 3 then stepping_of place (step_of step)
    else (if step == 0 then bare_of tag place
    else None)

-- ---- refusals

-- those that keep nothing
abbrev pub plain_of : ℕ → Option Refusal
plain_of tag =
    if tag == 1 then Some IsFinal
    else (if tag == 4 then Some BadChallenger
    else (if tag == 5 then Some NoChallenge
    else (if tag == 6 then Some WrongState
    else (if tag == 8 then Some BadSignature
    else (if tag == 11 then Some NotChallengers
    else (if tag == 13 then Some Zero
    else (if tag == 18 then Some NoAsset
    else (if tag == 19 then Some WrongKind
    else (if tag == 20 then Some WrongTarget
    else (if tag == 21 then Some NotListed
    else (if tag == 22 then Some NoItem
    else (if tag == 25 then Some TooLate
    else None))))))))))))

-- those that keep a number, with this one
abbrev pub numbered_of : (tag n : ℕ) → Option Refusal
numbered_of tag n =
    if tag == 3 then Some (Stale n)
    else (if tag == 7 then Some (WrongTurn n)
    else (if tag == 10 then Some (NotNewer n)
    else (if tag == 12 then Some (NotFinalState n)
    else (if tag == 14 then Some (Underheld n)
    else (if tag == 15 then Some (AssetFull n)
    else (if tag == 23 then Some (NothingDue n)
    else (if tag == 24 then Some (Backwards n)
    else None)))))))

-- those that keep a channel's name, with this one
abbrev pub named_of : ℕ → (name : List ℕ) → Option Refusal
named_of tag name =
    if tag == 16 then Some (NotFinal name)
    else (if tag == 17 then Some (WrongOutcome name)
    else None)

-- ---- replies

-- those that aren't refusals, with this number
abbrev pub accepted_of : (tag n : ℕ) → Option Reply
accepted_of tag n =
    if tag == 1 then Some (Held n)
    else (if tag == 2 then Some (Until n)
    else (if tag == 3 then Some (Opened n)
    else (if tag == 4 then Some (Concluded n)
    else (if tag == 5 then Some (Paid n)
    else (if tag == 6 then Some (Now n)
    else None)))))
