-- Reading calls and messages from bytes: each field is read whole, then checked, before the next one.
use Rattle.std.specs.Prelude.{ℕ, ◌-◌, List, length, Result, Ok, Err, ◌==◌, if◌then◌else◌}
use Rattle.std.specs.Int.{w32, w64}
use Rattle.channel_values.specs.declared.fault.ByteFault.{ByteFault}
use Rattle.channel_values.specs.declared.fault.ByteFault.TheVariants as faults
use Rattle.channel_values.specs.Reading.{◌>>=◌, byte_at, number_at, name_at, sized_at, outcome_at, state_at, fixed_at, signed_at, chain_at, all_of}
use Rattle.call_history.specs.Calls.{make_deposit, make_challenge, make_respond, make_transfer, make_claim}
use Rattle.call_history.specs.Spelling.{Message}
use Rattle.call_history.specs.declared.call.Call.{Call}
use Rattle.call_history.specs.declared.call.Call.TheVariants.{Refute, Checkpoint, Conclude}

-- the fields of each call, after its tag
unfoldable pub deposit_at : ℕ → List ℕ → Result (Call × List ℕ) ByteFault
deposit_at whole bytes = do
  channel ← name_at whole bytes
  asset ← number_at whole w32 channel.1
  expected ← number_at whole w64 asset.1
  amount ← number_at whole w64 expected.1
  Ok (make_deposit channel.0 asset.0 expected.0 amount.0, amount.1)

unfoldable pub challenge_at : ℕ → List ℕ → Result (Call × List ℕ) ByteFault
challenge_at whole bytes = do
  chain ← chain_at whole bytes
  challenger ← byte_at whole chain.1
  signature ← sized_at whole 9004 challenger.1
  Ok (make_challenge chain.0 challenger.0 signature.0, signature.1)

unfoldable pub respond_at : ℕ → List ℕ → Result (Call × List ℕ) ByteFault
respond_at whole bytes = do
  fixed ← fixed_at whole bytes
  from ← state_at whole fixed.1
  next ← signed_at whole from.1
  Ok (make_respond fixed.0 from.0 next.0, next.1)

unfoldable pub refute_at : ℕ → List ℕ → Result (Call × List ℕ) ByteFault
refute_at whole bytes = do
  fixed ← fixed_at whole bytes
  next ← signed_at whole fixed.1
  Ok (Refute fixed.0 next.0, next.1)

unfoldable pub checkpoint_at : ℕ → List ℕ → Result (Call × List ℕ) ByteFault
checkpoint_at whole bytes = do
  chain ← chain_at whole bytes
  Ok (Checkpoint chain.0, chain.1)

unfoldable pub conclude_at : ℕ → List ℕ → Result (Call × List ℕ) ByteFault
conclude_at whole bytes = do
  chain ← chain_at whole bytes
  Ok (Conclude chain.0, chain.1)

unfoldable pub transfer_at : ℕ → List ℕ → Result (Call × List ℕ) ByteFault
transfer_at whole bytes = do
  channel ← name_at whole bytes
  outcome ← outcome_at whole channel.1
  asset ← number_at whole w32 outcome.1
  index ← byte_at whole asset.1
  Ok (make_transfer channel.0 outcome.0 asset.0 index.0, index.1)

unfoldable pub claim_at : ℕ → List ℕ → Result (Call × List ℕ) ByteFault
claim_at whole bytes = do
  guarantor ← name_at whole bytes
  promise ← outcome_at whole guarantor.1
  target ← name_at whole promise.1
  outcome ← outcome_at whole target.1
  asset ← number_at whole w32 outcome.1
  position ← byte_at whole asset.1
  Ok (make_claim guarantor.0 promise.0 target.0 outcome.0 asset.0 position.0, position.1)

-- the fields after a tag that stands at a place
abbrev pub fields_at : ℕ → ℕ → ℕ → List ℕ → Result (Call × List ℕ) ByteFault
fields_at whole place tag bytes =
    if tag == 1 then deposit_at whole bytes
    else (if tag == 2 then challenge_at whole bytes
    else (if tag == 3 then respond_at whole bytes
    else (if tag == 4 then refute_at whole bytes
    else (if tag == 5 then checkpoint_at whole bytes
    else (if tag == 6 then conclude_at whole bytes
    else (if tag == 7 then transfer_at whole bytes
    else (if tag == 8 then claim_at whole bytes
    else Err (faults.BadTag place))))))))

unfoldable pub call_at : ℕ → List ℕ → Result (Call × List ℕ) ByteFault
call_at whole bytes = do
  tag ← byte_at whole bytes
  fields_at whole (whole - length bytes) tag.0 tag.1

unfoldable pub message_at : ℕ → List ℕ → Result (Message × List ℕ) ByteFault
message_at whole bytes = do
  channel ← name_at whole bytes
  signed ← signed_at whole channel.1
  Ok ((channel.0, signed.0), signed.1)

abbrev pub call_of : List ℕ → Result Call ByteFault
call_of bytes = all_of call_at bytes

abbrev pub message_of : List ℕ → Result Message ByteFault
message_of bytes = all_of message_at bytes
