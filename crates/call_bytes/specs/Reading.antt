-- Reading replies from bytes: each field is read whole, then checked, before the next one.
use Rattle.std.specs.Prelude.{ℕ, ◌-◌, List, [], length, Result, Ok, Err, Option, Some, None, is_some, nat_lt, not, ◌==◌, ◌&&◌, ◌||◌, if◌then◌else◌}
use Rattle.std.specs.Int.{w64}
use Rattle.channel_values.specs.declared.fault.ByteFault.{ByteFault}
use Rattle.channel_values.specs.declared.fault.ByteFault.TheVariants as faults
use Rattle.channel_values.specs.declared.fault.StepFault.{StepFault}
use Rattle.channel_values.specs.declared.fault.SupportFault.{SupportFault}
use Rattle.channel_values.specs.Reading.{◌>>=◌, fault_if, byte_at, number_at, name_at}
use Rattle.call_history.specs.declared.refusal.Refusal.{Refusal}
use Rattle.call_history.specs.declared.refusal.Refusal.TheVariants.{NotSupported, BadStep}
use Rattle.call_history.specs.declared.refusal.Reply.{Reply}
use Rattle.call_history.specs.declared.refusal.Reply.TheVariants.{No}
use Rattle.call_bytes.specs.Numbers.{step_of, support_of, plain_of, numbered_of, named_of, accepted_of}

-- what a number stands for, if it stands for something, with the bytes after it
abbrev pub or_bad : {A : Type 0} → (place : ℕ) → Option A → List ℕ → Result (A × List ℕ) ByteFault
or_bad place None rest = Err (faults.BadTag place)
or_bad place (Some x) rest = Ok (x, rest)

-- ---- replies

unfoldable pub step_at : ℕ → List ℕ → Result (StepFault × List ℕ) ByteFault
step_at whole bytes = do
  n ← byte_at whole bytes
  or_bad (whole - length bytes) (step_of n.0) n.1

-- a fault that has no place has 0 there
unfoldable pub support_at : ℕ → List ℕ → Result (SupportFault × List ℕ) ByteFault
support_at whole bytes = do
  tag ← byte_at whole bytes
  known ← fault_if ((tag.0 == 0) || nat_lt 4 tag.0) (faults.BadTag (whole - length bytes))
  place ← number_at whole w64 tag.1
  none ← fault_if ((tag.0 == 1) && not (place.0 == 0)) (faults.BadTag (whole - length tag.1))
  step ← byte_at whole place.1
  or_bad (whole - length place.1) (support_of tag.0 place.0 step.0) step.1

unfoldable pub unsupported_at : ℕ → List ℕ → Result (Refusal × List ℕ) ByteFault
unsupported_at whole bytes = do
  fault ← support_at whole bytes
  Ok (NotSupported fault.0, fault.1)

unfoldable pub bad_step_at : ℕ → List ℕ → Result (Refusal × List ℕ) ByteFault
bad_step_at whole bytes = do
  fault ← step_at whole bytes
  Ok (BadStep fault.0, fault.1)

unfoldable pub numbered_at : (whole place tag : ℕ) → List ℕ → Result (Refusal × List ℕ) ByteFault
numbered_at whole place tag bytes = do
  n ← number_at whole w64 bytes
  or_bad place (numbered_of tag n.0) n.1

unfoldable pub named_at : (whole place tag : ℕ) → List ℕ → Result (Refusal × List ℕ) ByteFault
named_at whole place tag bytes = do
  name ← name_at whole bytes
  or_bad place (named_of tag name.0) name.1

-- what a refusal keeps, after a tag that stands at a place
abbrev pub kept_at : (whole place tag : ℕ) → List ℕ → Result (Refusal × List ℕ) ByteFault
kept_at whole place tag bytes =
    if tag == 2 then unsupported_at whole bytes
    else (if tag == 9 then bad_step_at whole bytes
    else (if is_some (numbered_of tag 0) then numbered_at whole place tag bytes
    else (if is_some (named_of tag []) then named_at whole place tag bytes
    else or_bad place (plain_of tag) bytes)))

unfoldable pub refusal_at : ℕ → List ℕ → Result (Refusal × List ℕ) ByteFault
refusal_at whole bytes = do
  tag ← byte_at whole bytes
  kept_at whole (whole - length bytes) tag.0 tag.1

unfoldable pub refused_at : ℕ → List ℕ → Result (Reply × List ℕ) ByteFault
refused_at whole bytes = do
  why ← refusal_at whole bytes
  Ok (No why.0, why.1)

unfoldable pub accepted_at : (whole place tag : ℕ) → List ℕ → Result (Reply × List ℕ) ByteFault
accepted_at whole place tag bytes = do
  n ← number_at whole w64 bytes
  or_bad place (accepted_of tag n.0) n.1

abbrev pub told_at : (whole place tag : ℕ) → List ℕ → Result (Reply × List ℕ) ByteFault
told_at whole place tag bytes =
    if tag == 7 then refused_at whole bytes
    else (if is_some (accepted_of tag 0) then accepted_at whole place tag bytes
    else Err (faults.BadTag place))

unfoldable pub reply_at : ℕ → List ℕ → Result (Reply × List ℕ) ByteFault
reply_at whole bytes = do
  tag ← byte_at whole bytes
  told_at whole (whole - length bytes) tag.0 tag.1
